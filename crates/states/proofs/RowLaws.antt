-- The rows of conjuncts, one after the other: what is asked and answered from a place on.
use mathlib.Core.Path.{◌≡◌, refl, sym, ◌∙◌, subst}
use mathlib.Core.Bool.{Bool, true, false}
use mathlib.Core.List.{List, ◌∷◌}
use Prim.Native.Nat.{ℕ, ◌+◌, ◌<◌, ◌≤◌}
use native.Mathlib.Omega.{arith}
use lib.ListN.{get_or}
use Rattle.lexical.specs.Lists.{all}
use Rattle.form.specs.Tree.{Pred}
use Rattle.static_rules.specs.Scope.{Scope}
use Rattle.meaning.specs.Meaning.{Environment, holds}
use Rattle.search_groups.specs.TablePlacesResolvedTable.{Slots}
use Rattle.evaluator.specs.EvaluationEvaluationByNumber.{Values}
use Rattle.evaluator.specs.EvaluationSlotValues.{Held}
use Rattle.truths.specs.Promises.{Asked, Answers}
use Rattle.read_predicates.specs.PredicateRows.{RowsAt, no_rows, more_rows}
use Rattle.states.specs.Promises.{RowsAsked, RowsAnswer, ContextAsked, ContextAnswers}

-- what the evaluator answers where the slots are as they were
pub answer-as : {table : List ℕ} {e : ℕ} {τ σ : Values} {b c : Bool} → τ ≡ σ → b ≡ c → Answers table e τ b → Answers table e σ c
answer-as {table} {e} {τ} {σ} {b} {c} k l a = subst (λ (v : Values). Answers table e v c) k (subst (λ (x : Bool). Answers table e τ x) l a)

module _ (table rows : List ℕ) (to : ℕ) (σ : Values) where
  inside_of : (Γ : Scope) (W : Slots) (at : ℕ) (ps : List Pred) → RowsAt table rows Γ W to at ps → at < to → at + 8 ≤ to
  inside_of Γ W at _ (no_rows l) h = omega arith
  inside_of Γ W at _ (more_rows l c o r) h = l

  pub row_inside : (at : ℕ) → RowsAsked table rows at to σ → at < to → at + 8 ≤ 16384
  row_inside at a h = let l = inside_of a.scope a.slots at a.conjuncts a.stand h in let k = a.low in omega arith

  asked_of : (Γ : Scope) (W : Slots) (ρ : Environment) (at : ℕ) (ps : List Pred) → RowsAt table rows Γ W to at ps → Held Γ W 0 ρ σ → at < to
      → Asked table (get_or rows (at + 1) 0) σ
  asked_of Γ W ρ at _ (no_rows l) k h = absurd (omega arith)
  asked_of Γ W ρ at _ (more_rows {from = f} {p = p} l c o r) k h =
      record { scope = Γ; slots = W; environment = ρ; predicate = p; from = f; stands = c; held = k }

  -- the conjunct of the first row
  pub first-asked : (at : ℕ) (τ : Values) → RowsAsked table rows at to σ → τ ≡ σ → at < to → Asked table (get_or rows (at + 1) 0) τ
  first-asked at τ a e h =
      subst (λ (v : Values). Asked table (get_or rows (at + 1) 0) v) (sym e)
      (asked_of a.scope a.slots a.environment at a.conjuncts a.stand a.held h)

  rest_of : (Γ : Scope) (W : Slots) (ρ : Environment) (at : ℕ) (ps : List Pred) → RowsAt table rows Γ W to at ps → to ≤ 16384 → Held Γ W 0 ρ σ → at < to
      → RowsAsked table rows (at + 8) to σ
  rest_of Γ W ρ at _ (no_rows l) k x h = absurd (omega arith)
  rest_of Γ W ρ at _ (more_rows {ps = ps} l c o r) k x h = record { scope = Γ; slots = W; environment = ρ; conjuncts = ps; low = k; stand = r; held = x }

  pub rest-asked : (at : ℕ) → RowsAsked table rows at to σ → at < to → RowsAsked table rows (at + 8) to σ
  rest-asked at a h = rest_of a.scope a.slots a.environment at a.conjuncts a.stand a.low a.held h

  all_first : (f : Pred → Bool) (p : Pred) (ps : List Pred) → false ≡ f p → false ≡ all f (p ∷ ps)
  unfolding all
  all_first f p ps e = subst (λ (b : Bool). ◌≡◌ {A = Bool} false (elim b [ true ↦ all f ps | false ↦ false ])) e refl

  all-next : (f : Pred → Bool) (p : Pred) (ps : List Pred) (b : Bool) → true ≡ f p → b ≡ all f ps → b ≡ all f (p ∷ ps)
  unfolding all
  all-next f p ps b e h = subst (λ (c : Bool). ◌≡◌ {A = Bool} b (elim c [ true ↦ all f ps | false ↦ false ])) e h

  pub answer-done : (at : ℕ) → to ≤ at → RowsAnswer table rows at to σ true
  unfolding all
  answer-done at h = record { means = go }
    where
      go : (Γ : Scope) (W : Slots) (ρ : Environment) (ps : List Pred) → RowsAt table rows Γ W to at ps → Held Γ W 0 ρ σ → true ≡ all (λ (q : Pred). holds q ρ) ps
      go Γ W ρ _ (no_rows l) k = refl
      go Γ W ρ _ (more_rows l c o r) k = absurd (omega arith)

  pub answer-first : (at : ℕ) → at < to → Answers table (get_or rows (at + 1) 0) σ false → RowsAnswer table rows at to σ false
  answer-first at h a = record { means = go }
    where
      go : (Γ : Scope) (W : Slots) (ρ : Environment) (ps : List Pred) → RowsAt table rows Γ W to at ps → Held Γ W 0 ρ σ → false ≡ all (λ (q : Pred). holds q ρ) ps
      go Γ W ρ _ (no_rows l) k = absurd (omega arith)
      go Γ W ρ _ (more_rows {from = f} {p = p} {ps = ps} l c o r) k = all_first (λ (q : Pred). holds q ρ) p ps (a.means Γ W ρ p f c k)

  pub answer-next : (at : ℕ) (b : Bool) → at < to → Answers table (get_or rows (at + 1) 0) σ true → RowsAnswer table rows (at + 8) to σ b → RowsAnswer table rows at to σ b
  answer-next at b h a x = record { means = go }
    where
      go : (Γ : Scope) (W : Slots) (ρ : Environment) (ps : List Pred) → RowsAt table rows Γ W to at ps → Held Γ W 0 ρ σ → b ≡ all (λ (q : Pred). holds q ρ) ps
      go Γ W ρ _ (no_rows l) k = absurd (omega arith)
      go Γ W ρ _ (more_rows {from = f} {p = p} {ps = ps} l c o r) k =
          all-next (λ (q : Pred). holds q ρ) p ps b (a.means Γ W ρ p f c k) (x.means Γ W ρ ps r k)

-- the rows of a context
pub context-rows : {table rows firsts : List ℕ} {n : ℕ} {σ : Values} → ContextAsked table rows firsts n σ
    → RowsAsked table rows (get_or firsts n 0) (get_or firsts (n + 1) 0) σ
context-rows a = record {
  scope = a.context.scope;
  slots = a.slots;
  environment = a.environment;
  conjuncts = a.at.conjuncts;
  low = a.at.low;
  stand = a.at.stand;
  held = a.held;
}

pub context-answers : {table rows firsts : List ℕ} {n : ℕ} {σ : Values} {r : Bool} → RowsAnswer table rows (get_or firsts n 0) (get_or firsts (n + 1) 0) σ r
    → ContextAnswers table rows firsts n σ r
context-answers a = record { means = λ c W ρ k h. a.means c.scope W ρ k.conjuncts k.stand h ∙ sym (k.whole ρ) }
