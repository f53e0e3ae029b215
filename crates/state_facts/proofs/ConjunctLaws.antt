-- The first conjunct that fails, row by row, and at the values of two states. Assumes nothing.
use mathlib.Core.Path.{◌≡◌, refl, sym, ap, subst, subst₂, ◌∙◌}
use mathlib.Core.Bool.{Bool, true, false}
use mathlib.Core.List.{List, ◌++◌}
use mathlib.Core.Option.{some-injective}
use Rattle.std.specs.Prelude.{Option, Some, None}
use Prim.Native.Nat.{ℕ, ◌+◌, ◌<◌, ◌≤◌}
use native.Mathlib.Omega.{arith}
use lib.ListN.{get_or, length}
use Rattle.form.specs.Tree.{Pred, Dossier}
use Rattle.static_rules.specs.Carriers.{Variable}
use Rattle.static_rules.specs.Scope.{Scope, Context, unprimed}
use Rattle.meaning.specs.Meaning.{Binding, Environment}
use Rattle.meaning.specs.Bindings.{Over}
use Rattle.meaning.specs.Operations.{environment}
use Rattle.table_places.specs.ResolvedTable.{Slots}
use Rattle.table_places.specs.DossierTable.{abstract_slots, concrete_slots}
use Rattle.evaluation.specs.EvaluationByNumber.{Values}
use Rattle.evaluation.specs.SlotValues.{Slotted, Held}
use Rattle.truths.specs.Promises.{Answers}
use Rattle.states.specs.ReadPredicatesPredicateRows.{RowsAt, no_rows, more_rows, ContextAt}
use Rattle.states.specs.StateTests.{Placed}
use Rattle.states.specs.Promises.{ContextAsked}
use Rattle.states.proofs.StateLaws.{ContextOf, retrieve-context, asked-at, both-in}
use Rattle.plans.specs.declared.Part.{Part}
use Rattle.part_places.specs.PartTestsPartsByNumber.{abstract_at, concrete_at}
use Rattle.part_places.specs.Places.{PartSet}
use Rattle.state_facts.specs.Placings.{PairBound}
use Rattle.state_facts.specs.Reads.{StatesRead, SearchAsked}
use Rattle.state_facts.specs.FalseConjuncts.{FirstFalse, none_false, false_here, false_later, Every, In, FirstIs, ContextFirst, ContextIs, pair_of, FalsePair, FalseConjunct}
use Rattle.state_facts.proofs.SearchLaws.{abstract_in, concrete_in, abstracts, concretes, states-read}

-- ---- row by row

module _ {G : ℕ → Type 0} {table rows : List ℕ} {to : ℕ} {σ : Values} where
  pub first_done : (at : ℕ) → to ≤ at → FirstIs G table rows at to σ None
  first_done at h = record { means = go }
    where
      go : (Γ : Scope) (W : Slots) (ρ : Environment) (ps : List Pred) → RowsAt table rows Γ W to at ps → Held Γ W 0 ρ σ → FirstFalse G (In ρ) at ps None
      go Γ W ρ _ (no_rows l) k = none_false
      go Γ W ρ _ (more_rows l c o r) k = absurd (omega arith)

  pub first-here : (at : ℕ) → at < to → G at → Answers table (get_or rows (at + 1) 0) σ false → FirstIs G table rows at to σ (Some at)
  first-here at h g a = record { means = go }
    where
      go : (Γ : Scope) (W : Slots) (ρ : Environment) (ps : List Pred) → RowsAt table rows Γ W to at ps → Held Γ W 0 ρ σ → FirstFalse G (In ρ) at ps (Some at)
      go Γ W ρ _ (no_rows l) k = absurd (omega arith)
      go Γ W ρ _ (more_rows {from = f} {p = p} l c o r) k = false_here g (sym (a.means Γ W ρ p f c k))

  pub first_next : (at : ℕ) {x : Option ℕ} → at < to → (G at → Answers table (get_or rows (at + 1) 0) σ true) → FirstIs G table rows (at + 8) to σ x → FirstIs G table rows at to σ x
  first_next at {x} h a w = record { means = go }
    where
      go : (Γ : Scope) (W : Slots) (ρ : Environment) (ps : List Pred) → RowsAt table rows Γ W to at ps → Held Γ W 0 ρ σ → FirstFalse G (In ρ) at ps x
      go Γ W ρ _ (no_rows l) k = absurd (omega arith)
      go Γ W ρ _ (more_rows {from = f} {p = p} {ps = ps} l c o r) k = false_later (λ g. sym ((a g).means Γ W ρ p f c k)) (w.means Γ W ρ ps r k)

-- a context's rows stand from its place to the next
pub context-first : {G : ℕ → Type 0} {table rows firsts : List ℕ} {n from to : ℕ} {σ : Values} {r : Option ℕ} → from ≡ get_or firsts n 0 → to ≡ get_or firsts (n + 1) 0
    → FirstIs G table rows from to σ r → ContextFirst G table rows firsts n σ r
context-first {G} {table} {rows} {firsts} {n} {σ = σ} {r = r} e f w =
    let v : FirstIs G table rows (get_or firsts n 0) (get_or firsts (n + 1) 0) σ r = subst₂ (λ (x y : ℕ). FirstIs G table rows x y σ r) e f w in
    record { means = λ K W ρ k h. v.means K.scope W ρ k.conjuncts k.stand h }

-- other rows are said to count, which are the same
first-as : {G H : ℕ → Type 0} {T : Pred → Bool → Type 0} → ((i : ℕ) → G i → H i) → ((i : ℕ) → H i → G i) → {at : ℕ} {ps : List Pred} {r : Option ℕ} → FirstFalse G T at ps r
    → FirstFalse H T at ps r
first-as f b none_false = none_false
first-as f b (false_here {at} g t) = false_here (f at g) t
first-as f b (false_later {at} t w) = false_later (λ h. t (b at h)) (first-as f b w)

pub context-as : {G H : ℕ → Type 0} {table rows firsts : List ℕ} {n : ℕ} {σ : Values} {r : Option ℕ} → ((i : ℕ) → G i → H i) → ((i : ℕ) → H i → G i)
    → ContextFirst G table rows firsts n σ r → ContextFirst H table rows firsts n σ r
context-as f b w = record { means = λ K W ρ k h. first-as f b (w.means K W ρ k h) }

-- every row counts
pub every-context : {table rows firsts : List ℕ} {n : ℕ} {σ : Values} {r : Option ℕ} → ContextFirst (λ (i : ℕ). true ≡ true) table rows firsts n σ r
    → ContextFirst Every table rows firsts n σ r
every-context = context-as (λ i e. tt) (λ i u. refl)

-- ---- bindings in the slots of a context

-- a context by its number is the one that is known
pub held_in : {table rows firsts : List ℕ} {d : Dossier} {n : ℕ} {p : Pred} {vs : List Variable} {X W : Slots} {b : Binding} {σ : Values} {K : Context} → ContextOf d n p vs X
    → ContextIs d n K W → ContextAt table rows firsts n K W → Placed vs X b σ → Held K.scope W 0 (environment d b) σ
held_in {d = d} {vs = vs} {X} {W} {b} {σ} {K} x e k h =
    let same : x.context ≡ K = some-injective x.context K (sym x.is ∙ e.is) in
    let slots : X ≡ W = some-injective X W (sym x.slots_are ∙ e.slots_are) in
    record {
      reach = k.reach;
      carried = record {
        givens = sym x.givens_are ∙ ap (λ (c : Context). c.scope.givens) same;
        over = subst (λ (v : List Variable). Over v b) (sym x.reach_is ∙ ap (λ (c : Context). c.scope.reach) same) h.over;
      };
      slotted = subst (λ (v : Slots). Slotted v b σ) slots h.slotted;
      below = k.below;
      long = h.long;
      few = omega arith;
    }

-- ---- retrieve

module _ {table rows firsts cells : List ℕ} {p : Part} {a c : ℕ} where
  module _ {σ : Values} (B : PairBound cells p a c σ) (e : length σ ≡ 64) (la : a < p.meeting.bindings) (lc : c < p.concretes.bindings) where
    placed_pair : (d : Dossier) → StatesRead table rows firsts cells p d
        → Placed (unprimed d d.abstract ++ unprimed d d.concrete) (abstract_slots d ++ concrete_slots d) (abstract_at d a ++ concrete_at d c) σ
    placed_pair d R = both-in d (abstract_at d a) (concrete_at d c) σ (abstract_in B e d R la) (concrete_in B e d R lc)

    pub retrieve-asked : SearchAsked table rows firsts cells p → ContextAsked table rows firsts 4 σ
    retrieve-asked A = asked-at A.read.tests (retrieve-context A.dossier) (placed_pair A.dossier A.read)

    pub pair-first : {r : Option ℕ} → ContextFirst Every table rows firsts 4 σ r → FalsePair table rows firsts cells p a c r
    pair-first w = record {
      first = λ d R l m K W x k. w.means K W (pair_of d a c) k (held_in (retrieve-context d) x k (placed_pair d R));
      no_abstract = λ l. absurd (omega arith);
      no_concrete = λ l. absurd (omega arith);
    }

  pub false_conjunct-is : {groups : List ℕ} {operations : ℕ} {r : Option ℕ} → PartSet table groups 0 cells p → FalsePair table rows firsts cells p a c r
      → FalseConjunct table rows firsts groups operations a c r
  false_conjunct-is {groups} P w = record {
    first = λ d R m la lc K W x k.
        w.first d (states-read P d R) (subst (λ (n : ℕ). a < n) (sym (abstracts (states-read P d R))) la) (subst (λ (n : ℕ). c < n) (sym (concretes (states-read P d R))) lc) K W x k;
    no_abstract = λ d R l. w.no_abstract (subst (λ (n : ℕ). n ≤ a) (sym (abstracts (states-read P d R))) l);
    no_concrete = λ d R l. w.no_concrete (subst (λ (n : ℕ). n ≤ c) (sym (concretes (states-read P d R))) l);
  }
