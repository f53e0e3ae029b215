-- The contexts of a dossier, each at its number: what is asked where bindings stand in the slots, and what the answer means for initial states and retrieve.
-- stands once for each side: the laws of what initial states ask and answer, since specs/Promises has two records for each side; each cites `asked-at`, `answer_at` and `both-is`.
use mathlib.Core.Path.{◌≡◌, refl, sym, ap, ◌∙◌, subst}
use mathlib.Core.Bool.{Bool, true, false, ◌&&◌}
use mathlib.Core.List.{List, [], ◌∷◌, ◌++◌}
use mathlib.Core.Option.{some}
use Prim.Native.Nat.{ℕ}
use native.Mathlib.Omega.{arith}
use lib.ListN.{get_elem?}
use Rattle.form.specs.Tree.{Pred, Dossier}
use Rattle.static_rules.specs.Carriers.{Variable}
use Rattle.static_rules.specs.Scope.{Context, contexts, unprimed}
use Rattle.meaning.specs.Meaning.{Binding, holds}
use Rattle.meaning.specs.Bindings.{Over}
use Rattle.meaning.specs.Operations.{environment, is_state, abstract_initial, concrete_initial, related}
use Rattle.search_groups.specs.TablePlacesResolvedTable.{Slots}
use Rattle.search_groups.specs.TablePlacesDossierTable.{slots_of, abstract_slots, concrete_slots}
use Rattle.evaluator.specs.EvaluationEvaluationByNumber.{Values}
use Rattle.evaluator.specs.EvaluationSlotValues.{Slotted, Held}
use Rattle.read_predicates.specs.PredicateRows.{TestsOf}
use Rattle.states.specs.StateTests.{Placed}
use Rattle.states.specs.Promises.{ContextAsked, ContextAnswers, AbstractIn, ConcreteIn}
use Rattle.states.specs.Promises.{AbstractInitialAsked, AbstractInitialAnswers, ConcreteInitialAsked, ConcreteInitialAnswers, RelatedAsked, RelatedAnswers}

-- the n-th of these contexts has this predicate, these variables in reach, these slots
pub record Entry (d : Dossier) (cs : List Context) (Ws : List Slots) (n : ℕ) (p : Pred) (vs : List Variable) (W : Slots) : Type 0 where
  pub context : Context
  pub is : get_elem? cs n ≡ some context
  pub slots_are : get_elem? Ws n ≡ some W
  pub predicate_is : context.predicate ≡ p
  pub givens_are : context.scope.givens ≡ d.givens
  pub reach_is : context.scope.reach ≡ vs

-- the same of a dossier's contexts
abbrev pub ContextOf : Dossier → ℕ → Pred → List Variable → Slots → Type 0
ContextOf d n p vs W = Entry d (contexts d) (slots_of d) n p vs W

-- slots that are as they were
pub asked-as : {table rows firsts : List ℕ} {n : ℕ} {τ σ : Values} → τ ≡ σ → ContextAsked table rows firsts n σ → ContextAsked table rows firsts n τ
asked-as {table} {rows} {firsts} {n} e a = subst (λ (v : Values). ContextAsked table rows firsts n v) (sym e) a

pub answers-as : {table rows firsts : List ℕ} {n : ℕ} {τ σ : Values} {b c : Bool} → τ ≡ σ → b ≡ c → ContextAnswers table rows firsts n τ b
    → ContextAnswers table rows firsts n σ c
answers-as {table} {rows} {firsts} {n} {τ} {σ} {b} {c} k l a =
    subst (λ (v : Values). ContextAnswers table rows firsts n v c) k (subst (λ (x : Bool). ContextAnswers table rows firsts n τ x) l a)

module _ {table rows firsts : List ℕ} {d : Dossier} {n : ℕ} {p : Pred} {vs : List Variable} {W : Slots} {b : Binding} {σ : Values} where
  held : (t : TestsOf table rows firsts d) (c : ContextOf d n p vs W) → Placed vs W b σ → Held c.context.scope W 0 (environment d b) σ
  held t c h =
      let k = t.tests n c.context W c.is c.slots_are in
      record {
        reach = k.reach;
        carried = record { givens = sym c.givens_are; over = subst (λ (v : List Variable). Over v b) (sym c.reach_is) h.over };
        slotted = h.slotted;
        below = k.below;
        long = h.long;
        few = omega arith;
      }

  pub asked-at : TestsOf table rows firsts d → ContextOf d n p vs W → Placed vs W b σ → ContextAsked table rows firsts n σ
  asked-at t c h = record {
    context = c.context;
    slots = W;
    environment = environment d b;
    at = t.tests n c.context W c.is c.slots_are;
    held = held t c h;
  }

  pub answer_at : {r : Bool} → TestsOf table rows firsts d → ContextOf d n p vs W → Placed vs W b σ → ContextAnswers table rows firsts n σ r
      → r ≡ holds p (environment d b)
  answer_at t c h a =
      a.means c.context W (environment d b) (t.tests n c.context W c.is c.slots_are) (held t c h)
      ∙ ap (λ (q : Pred). holds q (environment d b)) c.predicate_is

-- ---- the contexts of states, initial states and retrieve

module _ (d : Dossier) where
  pub abstract-context : ContextOf d 0 d.abstract.predicate (unprimed d d.abstract) (abstract_slots d)
  unfolding contexts slots_of
  abstract-context = record { context = _; is = refl; slots_are = refl; predicate_is = refl; givens_are = refl; reach_is = refl }

  pub concrete-context : ContextOf d 1 d.concrete.predicate (unprimed d d.concrete) (concrete_slots d)
  unfolding contexts slots_of
  concrete-context = record { context = _; is = refl; slots_are = refl; predicate_is = refl; givens_are = refl; reach_is = refl }

  pub ainit-context : ContextOf d 2 d.ainit (unprimed d d.abstract) (abstract_slots d)
  unfolding contexts slots_of
  ainit-context = record { context = _; is = refl; slots_are = refl; predicate_is = refl; givens_are = refl; reach_is = refl }

  pub cinit-context : ContextOf d 3 d.cinit (unprimed d d.concrete) (concrete_slots d)
  unfolding contexts slots_of
  cinit-context = record { context = _; is = refl; slots_are = refl; predicate_is = refl; givens_are = refl; reach_is = refl }

  pub retrieve-context : ContextOf d 4 d.retrieve (unprimed d d.abstract ++ unprimed d d.concrete) (abstract_slots d ++ concrete_slots d)
  unfolding contexts slots_of
  retrieve-context = record { context = _; is = refl; slots_are = refl; predicate_is = refl; givens_are = refl; reach_is = refl }

-- ---- bindings side by side

pub over-append : (vs ws : List Variable) (b c : Binding) → Over vs b → Over ws c → Over (vs ++ ws) (b ++ c)
unfolding Over
over-append [] ws [] c h k = k
over-append [] ws (x ∷ b) c h k = absurd h
over-append (v ∷ vs) ws [] c h k = absurd h
over-append (v ∷ vs) ws (x ∷ b) c h k = (h.0, h.1, over-append vs ws b c h.2 k)

pub slotted-append : (W Y : Slots) (b c : Binding) (σ : Values) → Slotted W b σ → Slotted Y c σ → Slotted (W ++ Y) (b ++ c) σ
unfolding Slotted
slotted-append [] Y [] c σ h k = k
slotted-append [] Y (x ∷ b) c σ h k = absurd h
slotted-append (w ∷ W) Y [] c σ h k = absurd h
slotted-append (w ∷ W) Y (x ∷ b) c σ h k = (h.0, h.1, slotted-append W Y b c σ h.2 k)

pub both-in : (d : Dossier) (a c : Binding) (σ : Values) → AbstractIn d a σ → ConcreteIn d c σ
    → Placed (unprimed d d.abstract ++ unprimed d d.concrete) (abstract_slots d ++ concrete_slots d) (a ++ c) σ
both-in d a c σ h k = record {
  over = over-append (unprimed d d.abstract) (unprimed d d.concrete) a c h.over k.over;
  slotted = slotted-append (abstract_slots d) (concrete_slots d) a c σ h.slotted k.slotted;
  long = h.long;
}

-- ---- one test after the other

-- two tests, of which the second is asked where the first holds
pub data Both (P Q : Bool → Type 0) : Bool → Type 0 where
  first_holds : {r : Bool} → P true → Q r → Both P Q r
  first_fails : P false → Both P Q false

-- three tests: the first, then the two others; or the first two, then the third
pub both-left : {P Q R : Bool → Type 0} {r : Bool} → Both P (Both Q R) r → Both (Both P Q) R r
both-left (first_holds p (first_holds q r)) = first_holds (first_holds p q) r
both-left (first_holds p (first_fails q)) = first_fails (first_holds p q)
both-left (first_fails p) = first_fails (first_fails p)

-- the answer is whether both hold, where each answers a truth
pub both-is : {P Q : Bool → Type 0} {r : Bool} (x y : Bool) → Both P Q r → ((b : Bool) → P b → b ≡ x) → ((b : Bool) → Q b → b ≡ y) → r ≡ (x && y)
both-is {r = r} x y (first_holds p q) f g = subst (λ (c : Bool). r ≡ (c && y)) (f true p) (g r q)
both-is x y (first_fails p) f g = subst (λ (c : Bool). false ≡ (c && y)) (f false p) refl

-- ---- initial states, retrieve

module _ {table rows firsts : List ℕ} {σ : Values} where
  pub abstract-initial-state : AbstractInitialAsked table rows firsts σ → ContextAsked table rows firsts 0 σ
  abstract-initial-state a = asked-at a.tests (abstract-context a.dossier) a.placed

  pub abstract-initial-init : AbstractInitialAsked table rows firsts σ → ContextAsked table rows firsts 2 σ
  abstract-initial-init a = asked-at a.tests (ainit-context a.dossier) a.placed

  pub abstract-initial-is : {r : Bool} → Both (ContextAnswers table rows firsts 0 σ) (ContextAnswers table rows firsts 2 σ) r
      → AbstractInitialAnswers table rows firsts σ r
  unfolding abstract_initial is_state
  abstract-initial-is w = record {
    means = λ d a t h.
        both-is (is_state d d.abstract a) (holds d.ainit (environment d a)) w (λ b k. answer_at t (abstract-context d) h k) (λ b k. answer_at t (ainit-context d) h k);
  }

  pub concrete-initial-state : ConcreteInitialAsked table rows firsts σ → ContextAsked table rows firsts 1 σ
  concrete-initial-state a = asked-at a.tests (concrete-context a.dossier) a.placed

  pub concrete-initial-init : ConcreteInitialAsked table rows firsts σ → ContextAsked table rows firsts 3 σ
  concrete-initial-init a = asked-at a.tests (cinit-context a.dossier) a.placed

  pub concrete-initial-is : {r : Bool} → Both (ContextAnswers table rows firsts 1 σ) (ContextAnswers table rows firsts 3 σ) r
      → ConcreteInitialAnswers table rows firsts σ r
  unfolding concrete_initial is_state
  concrete-initial-is w = record {
    means = λ d c t h.
        both-is (is_state d d.concrete c) (holds d.cinit (environment d c)) w (λ b k. answer_at t (concrete-context d) h k) (λ b k. answer_at t (cinit-context d) h k);
  }

  pub related-abstract : RelatedAsked table rows firsts σ → ContextAsked table rows firsts 0 σ
  related-abstract a = asked-at a.tests (abstract-context a.dossier) a.abstract_in

  pub related-concrete : RelatedAsked table rows firsts σ → ContextAsked table rows firsts 1 σ
  related-concrete a = asked-at a.tests (concrete-context a.dossier) a.concrete_in

  pub related-retrieve : RelatedAsked table rows firsts σ → ContextAsked table rows firsts 4 σ
  related-retrieve a =
      asked-at a.tests (retrieve-context a.dossier) (both-in a.dossier a.abstractly a.concretely σ a.abstract_in a.concrete_in)

  pub related-is : {r : Bool} → Both (ContextAnswers table rows firsts 0 σ) (Both (ContextAnswers table rows firsts 1 σ) (ContextAnswers table rows firsts 4 σ)) r
      → RelatedAnswers table rows firsts σ r
  unfolding related is_state
  related-is w = record {
    means = λ d a c t h l.
        both-is (is_state d d.abstract a && is_state d d.concrete c) (holds d.retrieve (environment d (a ++ c))) (both-left w)
        (λ b k. both-is (is_state d d.abstract a) (is_state d d.concrete c) k (λ b m. answer_at t (abstract-context d) h m) (λ b m. answer_at t (concrete-context d) l m))
        (λ b k. answer_at t (retrieve-context d) (both-in d a c σ h l) k);
  }
