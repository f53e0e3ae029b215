-- A term's node opened by its shape: what its parts must give, what its operator takes, and what it gives. Assumes nothing.
use mathlib.Core.Path.{◌≡◌, sym, ap, ap₂, subst, ◌∙◌}
use mathlib.Core.Bool.{false}
use mathlib.Core.List.{List}
use Prim.Native.Nat.{ℕ, zero, suc, ◌-◌, ◌^◌, ◌<◌}
use lib.Dec.{eqb}
use lib.ListN.{get_or}
use lib.IntN.{ℤ, pos}
use lib.Signed.{mag}
use mir.Syntax.{w64}
use mir.Val.{to_z, of_z}
use Rattle.operators.proofs.SignedLaws.{read}
use Rattle.operators.specs.EvaluationOperatorsByNumber.{Small, prefixed, PrefixTakes, divided, operated, OperatorTakes}
use Rattle.operators.specs.EvaluationEvaluationByNumber.{Values, Terms, Truths, Inside, shape_at, end_at, first_at, second_at, TermIs, ItemsIs, TruthIs}
use Rattle.operators.specs.EvaluationEvaluationByNumber.{PrefixNode, DivisionNode, OperatorNode, SuchNode, TermNode}
use Rattle.evaluator.specs.EvaluationPromises.{TermRuns, TermAnswers, ItemsRun, ItemsAnswer, SuchRuns, SuchAnswers}

-- ---- what runs and answers with values in slots does so with the same values

pub runs-at : {t : List ℕ} {e : ℕ} {ρ σ : Values} → σ ≡ ρ → Inside e × TermRuns t e ρ → Inside e × TermRuns t e σ
runs-at {t} {e} q r = (r.0, subst (λ (l : Values). TermRuns t e l) (sym q) r.1)

pub heard : {t : List ℕ} {e : ℕ} {ρ : Values} {x : ℤ} → mag x < 2 ^ 63 → TermAnswers t e ρ x → TermAnswers t e ρ (to_z w64 (of_z w64 x))
heard ok a = record { is = λ f v h. read ok ∙ a.is f v h }

pub heard-at : {t : List ℕ} {e : ℕ} {ρ σ : Values} {x : ℤ} → σ ≡ ρ → mag x < 2 ^ 63 → TermAnswers t e σ x → TermAnswers t e ρ (to_z w64 (of_z w64 x))
heard-at {t} {e} q ok a = record { is = λ f v h. read ok ∙ a.is f v (subst (λ (l : Values). TermIs f t e l v) (sym q) h) }

-- ---- a term, and what its node is

pub term-opened : (f : ℕ) (t : List ℕ) (e : ℕ) (ρ : Values) (v : ℤ) → TermIs f t e ρ v
    → (g : ℕ)
    × (Inside e × (Small v × TermNode (λ j σ x. TermIs g t j σ x) (λ j σ b. TruthIs g t j σ b) (λ j σ x. ItemsIs g t j σ x) t e ρ v))
unfolding TermIs
term-opened zero t e ρ v h = absurd h
term-opened (suc f) t e ρ v h = (f, (h.0, (h.1, h.2)))

pub items-inside : (f : ℕ) (t : List ℕ) (e : ℕ) (ρ : Values) (v : ℤ) → ItemsIs f t e ρ v → Inside e
unfolding ItemsIs
items-inside zero t e ρ v h = absurd h
items-inside (suc f) t e ρ v h = h.0

pub term_runs : {t : List ℕ} {e : ℕ} {ρ : Values} (f : ℕ) (v : ℤ) → TermIs f t e ρ v → Inside e × TermRuns t e ρ
term_runs {t} {e} {ρ} f v h = ((term-opened f t e ρ v h).1.0, record { fuel = f; value = v; is = h })

pub items-run : {t : List ℕ} {e : ℕ} {ρ : Values} (f : ℕ) (v : ℤ) → ItemsIs f t e ρ v → Inside e × ItemsRun t e ρ
items-run {t} {e} {ρ} f v h = (items-inside f t e ρ v h, record { fuel = f; value = v; is = h })

module _ (T : Terms) (P : Truths) (I : Terms) (t : List ℕ) (e : ℕ) (ρ : Values) (v : ℤ) where
  is-number : shape_at t e ≡ 1 → TermNode T P I t e ρ v → v ≡ pos (first_at t e)
  unfolding TermNode
  is-number k = rw (TermNode, k) (λ h. h)

  pub is-slot : shape_at t e ≡ 2 → TermNode T P I t e ρ v → (first_at t e < 64) × (v ≡ get_or ρ (first_at t e) (pos 0))
  unfolding TermNode
  is-slot k = rw (TermNode, k) (λ h. h)

  is-prefix : shape_at t e ≡ 3 → TermNode T P I t e ρ v → PrefixNode T t e ρ v
  unfolding TermNode
  is-prefix k = rw (TermNode, k) (λ h. h)

  is-division : shape_at t e ≡ 4 → TermNode T P I t e ρ v → DivisionNode T t e ρ v
  unfolding TermNode
  is-division k = rw (TermNode, k) (λ h. h)

  is-operator : shape_at t e ≡ 5 → TermNode T P I t e ρ v → OperatorNode T t e ρ v
  unfolding TermNode
  is-operator k = rw (TermNode, k) (λ h. h)

  is-such : shape_at t e ≡ 6 → TermNode T P I t e ρ v → SuchNode P t e ρ v
  unfolding TermNode
  is-such k = rw (TermNode, k) (λ h. h)

  is-brace : eqb (shape_at t e) 1 ≡ false → eqb (shape_at t e) 2 ≡ false → eqb (shape_at t e) 3 ≡ false → eqb (shape_at t e) 4 ≡ false
      → eqb (shape_at t e) 5 ≡ false → eqb (shape_at t e) 6 ≡ false → TermNode T P I t e ρ v → I (e - 4) ρ v
  unfolding TermNode
  is-brace k₁ k₂ k₃ k₄ k₅ k₆ = rw (TermNode, k₁, k₂, k₃, k₄, k₅, k₆) (λ h. h)

module _ {t : List ℕ} {e : ℕ} {ρ : Values} where
  -- ---- a number, and a slot

  pub number-answers : {r : ℤ} → shape_at t e ≡ 1 → r ≡ pos (first_at t e) → TermAnswers t e ρ r
  number-answers k q = record {
    is = λ f v h. q ∙ sym (is-number _ _ _ t e ρ _ k (term-opened f t e ρ v h).1.1.1);
  }

  pub slot_low : shape_at t e ≡ 2 → TermRuns t e ρ → first_at t e < 64
  slot_low k r = (is-slot _ _ _ t e ρ _ k (term-opened r.fuel t e ρ r.value r.is).1.1.1).0

  pub slot-answers : {r : ℤ} → shape_at t e ≡ 2 → r ≡ get_or ρ (first_at t e) (pos 0) → TermAnswers t e ρ r
  slot-answers k q = record {
    is = λ f v h. q ∙ sym (is-slot _ _ _ t e ρ _ k (term-opened f t e ρ v h).1.1.1).1;
  }

  -- ---- a prefix

  prefix-node : shape_at t e ≡ 3 → (f : ℕ) (v : ℤ) → TermIs f t e ρ v → (g : ℕ) × PrefixNode (λ j σ x. TermIs g t j σ x) t e ρ v
  prefix-node k f v h = let o = term-opened f t e ρ v h in (o.0, is-prefix _ _ _ t e ρ _ k o.1.1.1)

  pub prefix-part : shape_at t e ≡ 3 → TermRuns t e ρ → Inside (e - 4) × TermRuns t (e - 4) ρ
  prefix-part k r = let n = prefix-node k r.fuel r.value r.is in term_runs n.0 n.1.operand n.1.part

  pub prefix-takes : {x : ℤ} → shape_at t e ≡ 3 → TermRuns t e ρ → TermAnswers t (e - 4) ρ x → PrefixTakes (first_at t e) x
  prefix-takes k r a =
      let n = prefix-node k r.fuel r.value r.is in
      subst (λ (z : ℤ). PrefixTakes (first_at t e) z) (sym (a.is n.0 n.1.operand n.1.part)) n.1.takes

  pub prefix-answers : {x r : ℤ} → shape_at t e ≡ 3 → r ≡ prefixed (first_at t e) (end_at t e) (second_at t e) x → TermAnswers t (e - 4) ρ x
      → TermAnswers t e ρ r
  prefix-answers k q a = record {
    is = λ f v h. let n = prefix-node k f v h in
        q ∙ ap (prefixed (first_at t e) (end_at t e) (second_at t e)) (a.is n.0 n.1.operand n.1.part) ∙ sym n.1.is;
  }

  -- ---- div and mod

  division-node : shape_at t e ≡ 4 → (f : ℕ) (v : ℤ) → TermIs f t e ρ v → (g : ℕ) × DivisionNode (λ j σ x. TermIs g t j σ x) t e ρ v
  division-node k f v h = let o = term-opened f t e ρ v h in (o.0, is-division _ _ _ t e ρ _ k o.1.1.1)

  pub division-part : shape_at t e ≡ 4 → TermRuns t e ρ → Inside (e - 4) × TermRuns t (e - 4) ρ
  division-part k r = let n = division-node k r.fuel r.value r.is in term_runs n.0 n.1.operand n.1.part

  pub division-takes : {x : ℤ} → shape_at t e ≡ 4 → TermRuns t e ρ → TermAnswers t (e - 4) ρ x → Small x
  division-takes k r a =
      let n = division-node k r.fuel r.value r.is in
      subst (λ (z : ℤ). Small z) (sym (a.is n.0 n.1.operand n.1.part)) n.1.takes

  pub division-answers : {x r : ℤ} → shape_at t e ≡ 4 → r ≡ divided (first_at t e) (second_at t e) x → TermAnswers t (e - 4) ρ x → TermAnswers t e ρ r
  division-answers k q a = record {
    is = λ f v h. let n = division-node k f v h in q ∙ ap (divided (first_at t e) (second_at t e)) (a.is n.0 n.1.operand n.1.part) ∙ sym n.1.is;
  }

  -- ---- an operator

  operator-node : shape_at t e ≡ 5 → (f : ℕ) (v : ℤ) → TermIs f t e ρ v → (g : ℕ) × OperatorNode (λ j σ x. TermIs g t j σ x) t e ρ v
  operator-node k f v h = let o = term-opened f t e ρ v h in (o.0, is-operator _ _ _ t e ρ _ k o.1.1.1)

  pub operator-before : shape_at t e ≡ 5 → TermRuns t e ρ → end_at t e < e
  operator-before k r = (operator-node k r.fuel r.value r.is).1.left_part.0

  pub operator-left : shape_at t e ≡ 5 → TermRuns t e ρ → Inside (end_at t e) × TermRuns t (end_at t e) ρ
  operator-left k r = let n = operator-node k r.fuel r.value r.is in term_runs n.0 n.1.left n.1.left_part.1

  pub operator-right : shape_at t e ≡ 5 → TermRuns t e ρ → Inside (e - 4) × TermRuns t (e - 4) ρ
  operator-right k r = let n = operator-node k r.fuel r.value r.is in term_runs n.0 n.1.right n.1.right_part

  pub operator-takes : {x y : ℤ} → shape_at t e ≡ 5 → TermRuns t e ρ → TermAnswers t (end_at t e) ρ x → TermAnswers t (e - 4) ρ y
      → OperatorTakes (first_at t e) x y
  operator-takes {x} k r a b =
      let n = operator-node k r.fuel r.value r.is in
      subst (λ (z : ℤ). OperatorTakes (first_at t e) x z) (sym (b.is n.0 n.1.right n.1.right_part))
      (subst (λ (z : ℤ). OperatorTakes (first_at t e) z n.1.right) (sym (a.is n.0 n.1.left n.1.left_part.1)) n.1.takes)

  pub operator-answers : {x y r : ℤ} → shape_at t e ≡ 5 → r ≡ operated (first_at t e) x y → TermAnswers t (end_at t e) ρ x → TermAnswers t (e - 4) ρ y
      → TermAnswers t e ρ r
  operator-answers k q a b = record {
    is = λ f v h. let n = operator-node k f v h in
        q ∙ ap₂ (operated (first_at t e)) (a.is n.0 n.1.left n.1.left_part.1) (b.is n.0 n.1.right n.1.right_part) ∙ sym n.1.is;
  }

  -- ---- {x : G | p}, and braces

  pub such-runs : shape_at t e ≡ 6 → TermRuns t e ρ → SuchRuns t e ρ
  such-runs k r =
      let o = term-opened r.fuel t e ρ r.value r.is in
      record { fuel = o.0; value = r.value; is = is-such _ _ _ t e ρ _ k o.1.1.1 }

  pub such-answers : {r : ℤ} → shape_at t e ≡ 6 → mag r < 2 ^ 63 → SuchAnswers t e ρ r → TermAnswers t e ρ (to_z w64 (of_z w64 r))
  such-answers k ok a = record {
    is = λ f v h. let o = term-opened f t e ρ v h in read ok ∙ a.is o.0 v (is-such _ _ _ t e ρ _ k o.1.1.1);
  }

  pub brace-part : eqb (shape_at t e) 1 ≡ false → eqb (shape_at t e) 2 ≡ false → eqb (shape_at t e) 3 ≡ false → eqb (shape_at t e) 4 ≡ false
      → eqb (shape_at t e) 5 ≡ false → eqb (shape_at t e) 6 ≡ false → TermRuns t e ρ → Inside (e - 4) × ItemsRun t (e - 4) ρ
  brace-part k₁ k₂ k₃ k₄ k₅ k₆ r =
      let o = term-opened r.fuel t e ρ r.value r.is in items-run o.0 r.value (is-brace _ _ _ t e ρ _ k₁ k₂ k₃ k₄ k₅ k₆ o.1.1.1)

  pub brace-answers : {r : ℤ} → eqb (shape_at t e) 1 ≡ false → eqb (shape_at t e) 2 ≡ false → eqb (shape_at t e) 3 ≡ false → eqb (shape_at t e) 4 ≡ false
      → eqb (shape_at t e) 5 ≡ false → eqb (shape_at t e) 6 ≡ false → mag r < 2 ^ 63 → ItemsAnswer t (e - 4) ρ r → TermAnswers t e ρ (to_z w64 (of_z w64 r))
  brace-answers k₁ k₂ k₃ k₄ k₅ k₆ ok a = record {
    is = λ f v h. let o = term-opened f t e ρ v h in read ok ∙ a.is o.0 v (is-brace _ _ _ t e ρ _ k₁ k₂ k₃ k₄ k₅ k₆ o.1.1.1);
  }
