-- The contexts of operations, two for each, and what the answers mean for steps.
-- stands once for each side: the laws of what steps ask and answer, for the same reason; each cites `asked-at`, `step-placed` or `step-means`.
use mathlib.Core.Path.{◌≡◌, refl, sym, ap, ◌∙◌, subst}
use mathlib.Core.Bool.{Bool, ◌&&◌}
use mathlib.Core.List.{List, [], ◌∷◌, ◌++◌, append_assoc}
use mathlib.Core.Option.{Option, none, some, none-ne-some, some-injective}
use Prim.Native.Nat.{ℕ, zero, suc, ◌+◌, ◌*◌, ◌<◌}
use native.Mathlib.Omega.{arith}
use lib.ListN.{get_elem?}
use Rattle.lexical.specs.Symbols.{Name, no_ending, prime}
use Rattle.form.specs.Tree.{Letters, Pred, Given, Declaration, declarations, State, Operation, Dossier}
use Rattle.form.specs.Headings.{operations_at, operation_length}
use Rattle.static_rules.specs.Carriers.{Carrier, Variable, carrier_of}
use Rattle.static_rules.specs.Scope.{Context, contexts, variables, unprimed, primed, inputs, outputs, concrete_taken, operation_reach, operation_contexts}
use Rattle.meaning.specs.Meaning.{Binding, holds}
use Rattle.meaning.specs.Bindings.{Over}
use Rattle.meaning.specs.Operations.{environment, is_state, after, allows, abstract_step, concrete_step}
use Rattle.search_groups.specs.TablePlacesResolvedTable.{Slots, slotted}
use Rattle.search_groups.specs.TablePlacesDossierTable.{slots_of, operation_slots, abstract_slots, concrete_slots, parameter_slots}
use Rattle.evaluator.specs.EvaluationEvaluationByNumber.{Values}
use Rattle.evaluator.specs.EvaluationSlotValues.{Slotted}
use Rattle.read_predicates.specs.PredicateRows.{TestsOf}
use Rattle.states.specs.StateTests.{Placed, StepAt}
use Rattle.states.specs.Promises.{ContextAsked, ContextAnswers}
use Rattle.states.specs.Promises.{AbstractStepAsked, AbstractStepAnswers, ConcreteStepAsked, ConcreteStepAnswers}
use Rattle.states.proofs.StateLaws.{Entry, ContextOf, abstract-context, concrete-context, asked-at, answer_at, over-append, slotted-append, Both, both-left, both-is}
use Rattle.static_rules.proofs.FoundCarriers.{variables-one, variables-skip}

-- ---- the contexts of the k-th operation

unfoldable double : ℕ → ℕ
double zero = zero
double (suc k) = suc (suc (double k))

double-is : (k : ℕ) → double k ≡ 2 * k
unfolding double
double-is zero = refl
double-is (suc k) = let e = double-is k in omega arith

-- one context further on
further : {d : Dossier} {cs : List Context} {Ws : List Slots} {n : ℕ} {p : Pred} {vs : List Variable} {W : Slots} (c : Context) (Y : Slots) → Entry d cs Ws n p vs W
    → Entry d (c ∷ cs) (Y ∷ Ws) (suc n) p vs W
further c Y h = record {
  context = h.context;
  is = h.is;
  slots_are = h.slots_are;
  predicate_is = h.predicate_is;
  givens_are = h.givens_are;
  reach_is = h.reach_is;
}

abbrev abstract_of : Dossier → Operation → Slots
abstract_of d op = abstract_slots d ++ slotted 30 (primed d d.abstract) ++ parameter_slots d op

abbrev concrete_of : Dossier → Operation → Slots
concrete_of d op = concrete_slots d ++ slotted 22 (primed d d.concrete) ++ parameter_slots d op

-- both contexts of an operation
record Entries (d : Dossier) (cs : List Context) (Ws : List Slots) (n : ℕ) (op : Operation) : Type 0 where
  abstractly : Entry d cs Ws n op.abstractly (operation_reach d d.abstract op) (abstract_of d op)
  concretely : Entry d cs Ws (suc n) op.concretely (operation_reach d d.concrete op) (concrete_of d op)

module _ (d : Dossier) where
  entries : (i : ℕ) (xs : List Letters) (os : List Operation) (k : ℕ) (op : Operation) → get_elem? os k ≡ some op
      → Entries d (operation_contexts d i xs os) (operation_slots d os) (double k) op
  unfolding double operation_contexts operation_slots
  entries i xs [] k op e = absurd (none-ne-some op e)
  entries i xs (o ∷ os) zero op e =
      subst (λ (x : Operation). Entries d (operation_contexts d i xs (o ∷ os)) (operation_slots d (o ∷ os)) zero x) (some-injective o op e) (record {
        abstractly = record { context = _; is = refl; slots_are = refl; predicate_is = refl; givens_are = refl; reach_is = refl };
        concretely = record { context = _; is = refl; slots_are = refl; predicate_is = refl; givens_are = refl; reach_is = refl };
      })
  entries i xs (o ∷ os) (suc k) op e =
      let h = entries (i + operation_length o) (o.title ∷ xs) os k op e in
      record { abstractly = further _ _ (further _ _ h.abstractly); concretely = further _ _ (further _ _ h.concretely) }

  behind-five : (n m : ℕ) (p : Pred) (vs : List Variable) (W : Slots)
      → Entry d (operation_contexts d (operations_at d) (concrete_taken d) d.operations) (operation_slots d d.operations) n p vs W → 5 + n ≡ m → ContextOf d m p vs W
  unfolding contexts slots_of
  behind-five n m p vs W h e = subst (λ (x : ℕ). ContextOf d x p vs W) (l ∙ e) (further _ _ (further _ _ (further _ _ (further _ _ (further _ _ h)))))
    where
      l : suc (suc (suc (suc (suc n)))) ≡ 5 + n
      l = omega arith

  pub abstract-operation : (k : ℕ) (op : Operation) → get_elem? d.operations k ≡ some op
      → ContextOf d (5 + 2 * k) op.abstractly (operation_reach d d.abstract op) (abstract_of d op)
  abstract-operation k op e =
      let l = double-is k in
      behind-five (double k) (5 + 2 * k) op.abstractly (operation_reach d d.abstract op) (abstract_of d op)
      (entries (operations_at d) (concrete_taken d) d.operations k op e).abstractly (omega arith)

  pub concrete-operation : (k : ℕ) (op : Operation) → get_elem? d.operations k ≡ some op
      → ContextOf d (5 + 2 * k + 1) op.concretely (operation_reach d d.concrete op) (concrete_of d op)
  concrete-operation k op e =
      let l = double-is k in
      behind-five (suc (double k)) (5 + 2 * k + 1) op.concretely (operation_reach d d.concrete op) (concrete_of d op)
      (entries (operations_at d) (concrete_taken d) d.operations k op e).concretely (omega arith)

-- ---- the bindings of a step

after_one : (gs : List Given) (x : Declaration) (ds : List Declaration) (c : Carrier) (b : Binding)
    → ((b : Binding) → Over (variables gs no_ending ds) b → Over (variables gs prime ds) (after b))
    → Over (record { called = record { letters = x.declared; ending = no_ending }; carrier = c } ∷ variables gs no_ending ds) b
    → Over (record { called = record { letters = x.declared; ending = prime }; carrier = c } ∷ variables gs prime ds) (after b)
unfolding Over after
after_one gs x ds c [] r h = absurd h
after_one gs x ds c (y ∷ b) r h = (ap (λ (n : Name). record { letters = n.letters; ending = prime }) h.0, h.1, r b h.2)

after-over : (gs : List Given) (ds : List Declaration) (b : Binding) → Over (variables gs no_ending ds) b → Over (variables gs prime ds) (after b)
unfolding variables Over after
after-over gs [] [] h = tt
after-over gs [] (y ∷ b) h = absurd h
after-over gs (x ∷ ds) b h = go (carrier_of gs x.type) refl (after-over gs ds)
  where
    go : (o : Option Carrier) → carrier_of gs x.type ≡ o → ((b : Binding) → Over (variables gs no_ending ds) b → Over (variables gs prime ds) (after b))
        → Over (variables gs prime (x ∷ ds)) (after b)
    go none e r =
        subst (λ (v : List Variable). Over v (after b)) (sym (variables-skip gs prime x ds e))
        (r b (subst (λ (v : List Variable). Over v b) (variables-skip gs no_ending x ds e) h))
    go (some c) e r =
        subst (λ (v : List Variable). Over v (after b)) (sym (variables-one gs prime x ds c e))
        (after_one gs x ds c b r (subst (λ (v : List Variable). Over v b) (variables-one gs no_ending x ds c e) h))

step-placed : {d : Dossier} {s : State} {plain dashed : ℕ} {op : Operation} {b i o b' : Binding} {σ later : Values}
    → StepAt d s plain dashed op b i o b' σ later
    → Placed (operation_reach d s op) (slotted plain (unprimed d s) ++ slotted dashed (primed d s) ++ parameter_slots d op) (b ++ after b' ++ i ++ o) σ
step-placed {d} {s} {plain} {dashed} {op} {b} {i} {o} {b'} {σ} h =
    let A : Slots = slotted plain (unprimed d s) in
    let P : Slots = slotted dashed (primed d s) in
    record {
      over = over-append (unprimed d s ++ primed d s ++ inputs d op) (outputs d op) (b ++ after b' ++ i) o
          (over-append (unprimed d s ++ primed d s) (inputs d op) (b ++ after b') i
          (over-append (unprimed d s) (primed d s) b (after b') h.before.over (after-over d.givens (declarations s) b' h.behind.over)) h.inward.over)
          h.outward.over;
      slotted = subst (λ (x : Binding). Slotted (A ++ P ++ parameter_slots d op) x σ) (sym (append_assoc (b ++ after b') i o))
          (slotted-append (A ++ P) (parameter_slots d op) (b ++ after b') (i ++ o) σ
          (slotted-append A P b (after b') σ h.before.slotted h.primes)
          (slotted-append (slotted 16 (inputs d op)) (slotted 19 (outputs d op)) i o σ h.inward.slotted h.outward.slotted));
      long = h.before.long;
    }

-- ---- steps

-- what the three answers mean, on either side
step-means : {table rows firsts : List ℕ} {d : Dossier} {s : State} {plain dashed n m : ℕ} {op : Operation} {p : Pred} {b i o b' : Binding} {σ later : Values} {r : Bool}
    → TestsOf table rows firsts d → ContextOf d n s.predicate (unprimed d s) (slotted plain (unprimed d s))
    → ContextOf d m p (operation_reach d s op) (slotted plain (unprimed d s) ++ slotted dashed (primed d s) ++ parameter_slots d op)
    → StepAt d s plain dashed op b i o b' σ later
    → Both (ContextAnswers table rows firsts n σ) (Both (ContextAnswers table rows firsts n later) (ContextAnswers table rows firsts m σ)) r → r ≡ allows d s p b i o b'
unfolding allows is_state
step-means {d = d} {s = s} {p = p} {b = b} {i = i} {o = o} {b' = b'} t c k h w =
    both-is (is_state d s b && is_state d s b') (holds p (environment d (b ++ after b' ++ i ++ o))) (both-left w)
    (λ x u. both-is (is_state d s b) (is_state d s b') u (λ y v. answer_at t c h.before v) (λ y v. answer_at t c h.behind v)) (λ x v. answer_at t k (step-placed h) v)

module _ {table rows firsts : List ℕ} {k : ℕ} {σ later : Values} where
  pub abstract-step-before : AbstractStepAsked table rows firsts k σ later → ContextAsked table rows firsts 0 σ
  abstract-step-before a = asked-at a.tests (abstract-context a.dossier) a.step.before

  pub abstract-step-behind : AbstractStepAsked table rows firsts k σ later → ContextAsked table rows firsts 0 later
  abstract-step-behind a = asked-at a.tests (abstract-context a.dossier) a.step.behind

  pub abstract-step-whole : AbstractStepAsked table rows firsts k σ later → ContextAsked table rows firsts (5 + 2 * k) σ
  abstract-step-whole a = asked-at a.tests (abstract-operation a.dossier k a.operation a.is) (step-placed a.step)

  pub abstract-step-inside : AbstractStepAsked table rows firsts k σ later → 5 + 2 * k + 1 < 40
  abstract-step-inside a = (abstract-step-whole a).at.inside

  pub abstract-step-is : {r : Bool}
      → Both (ContextAnswers table rows firsts 0 σ) (Both (ContextAnswers table rows firsts 0 later) (ContextAnswers table rows firsts (5 + 2 * k) σ)) r
      → AbstractStepAnswers table rows firsts k σ later r
  unfolding abstract_step
  abstract-step-is w = record { means = λ d op a i o a' t e h. step-means t (abstract-context d) (abstract-operation d k op e) h w }

  pub concrete-step-before : ConcreteStepAsked table rows firsts k σ later → ContextAsked table rows firsts 1 σ
  concrete-step-before a = asked-at a.tests (concrete-context a.dossier) a.step.before

  pub concrete-step-behind : ConcreteStepAsked table rows firsts k σ later → ContextAsked table rows firsts 1 later
  concrete-step-behind a = asked-at a.tests (concrete-context a.dossier) a.step.behind

  pub concrete-step-whole : ConcreteStepAsked table rows firsts k σ later → ContextAsked table rows firsts (5 + 2 * k + 1) σ
  concrete-step-whole a = asked-at a.tests (concrete-operation a.dossier k a.operation a.is) (step-placed a.step)

  pub concrete-step-inside : ConcreteStepAsked table rows firsts k σ later → 5 + 2 * k + 1 + 1 < 40
  concrete-step-inside a = (concrete-step-whole a).at.inside

  pub concrete-step-is : {r : Bool}
      → Both (ContextAnswers table rows firsts 1 σ) (Both (ContextAnswers table rows firsts 1 later) (ContextAnswers table rows firsts (5 + 2 * k + 1) σ)) r
      → ConcreteStepAnswers table rows firsts k σ later r
  unfolding concrete_step
  concrete-step-is w = record { means = λ d op c i o c' t e h. step-means t (concrete-context d) (concrete-operation d k op e) h w }
