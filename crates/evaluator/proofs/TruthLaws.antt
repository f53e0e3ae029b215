-- A predicate's node opened by its shape: what its parts must give, and what it gives. Assumes nothing.
use mathlib.Core.Path.{◌≡◌, refl, sym, ap, ap₂, subst, ◌∙◌}
use mathlib.Core.Bool.{Bool, true, false, not}
use mathlib.Core.List.{List}
use Prim.Native.Nat.{ℕ, zero, suc, ◌-◌, ◌<◌}
use lib.Dec.{eqb}
use lib.IntN.{ℤ}
use Rattle.operators.specs.EvaluationOperatorsByNumber.{compared, connected}
use Rattle.operators.specs.EvaluationEvaluationByNumber.{Values, Terms, Truths, Inside, shape_at, end_at, first_at, second_at, TermIs, TruthIs, quantified}
use Rattle.operators.specs.EvaluationEvaluationByNumber.{ConnectiveNode, ComparisonNode, QuantifierNode, AskedNode, TruthNode}
use Rattle.evaluator.specs.EvaluationPromises.{TermRuns, TermAnswers, TruthRuns, TruthAnswers, AskedRuns, AskedAnswers}
use Rattle.evaluator.specs.EvaluationPromises.{QuantifierRuns, QuantifierAnswers, BoundRuns, SomeAnswers, OnceAnswers}
use Rattle.evaluator.proofs.NodeLaws.{term_runs}

pub truth-at : {t : List ℕ} {e : ℕ} {ρ σ : Values} → σ ≡ ρ → Inside e × TruthRuns t e ρ → Inside e × TruthRuns t e σ
truth-at {t} {e} q r = (r.0, subst (λ (l : Values). TruthRuns t e l) (sym q) r.1)

pub truth-heard : {t : List ℕ} {e : ℕ} {ρ σ : Values} {x : Bool} → σ ≡ ρ → TruthAnswers t e σ x → TruthAnswers t e ρ x
truth-heard {t} {e} q a = record { is = λ f b h. a.is f b (subst (λ (l : Values). TruthIs f t e l b) (sym q) h) }

pub truth-opened : (f : ℕ) (t : List ℕ) (e : ℕ) (ρ : Values) (b : Bool) → TruthIs f t e ρ b
    → (g : ℕ) × (Inside e × TruthNode (λ j σ x. TermIs g t j σ x) (λ j σ c. TruthIs g t j σ c) t e ρ b)
unfolding TruthIs
truth-opened zero t e ρ b h = absurd h
truth-opened (suc f) t e ρ b h = (f, (h.0, h.1))

pub truth-runs : {t : List ℕ} {e : ℕ} {ρ : Values} (f : ℕ) (b : Bool) → TruthIs f t e ρ b → Inside e × TruthRuns t e ρ
truth-runs {t} {e} {ρ} f b h = ((truth-opened f t e ρ b h).1.0, record { fuel = f; value = b; is = h })

module _ (T : Terms) (P : Truths) (t : List ℕ) (e : ℕ) (ρ : Values) (b : Bool) where
  is-truth : shape_at t e ≡ 16 → TruthNode T P t e ρ b → b ≡ eqb (first_at t e) 1
  unfolding TruthNode
  is-truth k = rw (TruthNode, k) (λ h. h)

  is-not : shape_at t e ≡ 17 → TruthNode T P t e ρ b → (p : Bool) × P (e - 4) ρ p × (b ≡ not p)
  unfolding TruthNode
  is-not k = rw (TruthNode, k) (λ h. h)

  is-connective : shape_at t e ≡ 18 → TruthNode T P t e ρ b → ConnectiveNode P t e ρ b
  unfolding TruthNode
  is-connective k = rw (TruthNode, k) (λ h. h)

  pub is-comparison : shape_at t e ≡ 19 → TruthNode T P t e ρ b → ComparisonNode T t e ρ b
  unfolding TruthNode
  is-comparison k = rw (TruthNode, k) (λ h. h)

  is-quantifier : shape_at t e ≡ 24 → TruthNode T P t e ρ b → QuantifierNode P t e ρ b
  unfolding TruthNode
  is-quantifier k = rw (TruthNode, k) (λ h. h)

  is-asked : eqb (shape_at t e) 16 ≡ false → eqb (shape_at t e) 17 ≡ false → eqb (shape_at t e) 18 ≡ false → eqb (shape_at t e) 19 ≡ false
      → eqb (shape_at t e) 24 ≡ false → TruthNode T P t e ρ b → AskedNode T t e ρ b
  unfolding TruthNode
  is-asked k₁ k₂ k₃ k₄ k₅ = rw (TruthNode, k₁, k₂, k₃, k₄, k₅) (λ h. h)

module _ {t : List ℕ} {e : ℕ} {ρ : Values} where
  pub truth-answers : shape_at t e ≡ 16 → TruthAnswers t e ρ (eqb (first_at t e) 1)
  truth-answers k = record { is = λ f b h. sym (is-truth _ _ t e ρ _ k (truth-opened f t e ρ b h).1.1) }

  -- ---- not

  pub not-part : shape_at t e ≡ 17 → TruthRuns t e ρ → Inside (e - 4) × TruthRuns t (e - 4) ρ
  not-part k r =
      let o = truth-opened r.fuel t e ρ r.value r.is in
      let n = is-not _ _ t e ρ _ k o.1.1 in
      truth-runs o.0 n.0 n.1

  pub not-answers : {p : Bool} → shape_at t e ≡ 17 → TruthAnswers t (e - 4) ρ p → TruthAnswers t e ρ (not p)
  not-answers k a = record {
    is = λ f b h. let o = truth-opened f t e ρ b h in
        let n = is-not _ _ t e ρ _ k o.1.1 in
        ap not (a.is o.0 n.0 n.1) ∙ sym n.2;
  }

  -- ---- a connective

  connective : shape_at t e ≡ 18 → (f : ℕ) (b : Bool) → TruthIs f t e ρ b → (g : ℕ) × ConnectiveNode (λ j σ c. TruthIs g t j σ c) t e ρ b
  connective k f b h = let o = truth-opened f t e ρ b h in (o.0, is-connective _ _ t e ρ _ k o.1.1)

  pub connective-before : shape_at t e ≡ 18 → TruthRuns t e ρ → end_at t e < e
  connective-before k r = (connective k r.fuel r.value r.is).1.before

  pub connective-left : shape_at t e ≡ 18 → TruthRuns t e ρ → Inside (end_at t e) × TruthRuns t (end_at t e) ρ
  connective-left k r = let n = connective k r.fuel r.value r.is in truth-runs n.0 n.1.left n.1.left_part

  pub connective-right : shape_at t e ≡ 18 → TruthRuns t e ρ → Inside (e - 4) × TruthRuns t (e - 4) ρ
  connective-right k r = let n = connective k r.fuel r.value r.is in truth-runs n.0 n.1.right n.1.right_part

  pub connective-answers : {p q r : Bool} → shape_at t e ≡ 18 → r ≡ connected (first_at t e) p q → TruthAnswers t (end_at t e) ρ p
      → TruthAnswers t (e - 4) ρ q → TruthAnswers t e ρ r
  connective-answers k u a d = record {
    is = λ f b h. let n = connective k f b h in
        u ∙ ap₂ (connected (first_at t e)) (a.is n.0 n.1.left n.1.left_part) (d.is n.0 n.1.right n.1.right_part)
        ∙ sym n.1.is;
  }

  -- where the left part settles it
  pub connective-settled : {p r : Bool} → shape_at t e ≡ 18
      → ((q : Bool) → connected (first_at t e) p q ≡ connected (first_at t e) p false) → r ≡ connected (first_at t e) p false
      → TruthAnswers t (end_at t e) ρ p → TruthAnswers t e ρ r
  connective-settled k w u a = record {
    is = λ f b h. let n = connective k f b h in
        u ∙ sym (w n.1.right) ∙ ap (λ (z : Bool). connected (first_at t e) z n.1.right) (a.is n.0 n.1.left n.1.left_part)
        ∙ sym n.1.is;
  }

  -- ---- a comparison

  comparison : shape_at t e ≡ 19 → (f : ℕ) (b : Bool) → TruthIs f t e ρ b → (g : ℕ) × ComparisonNode (λ j σ x. TermIs g t j σ x) t e ρ b
  comparison k f b h = let o = truth-opened f t e ρ b h in (o.0, is-comparison _ _ t e ρ _ k o.1.1)

  pub comparison-before : shape_at t e ≡ 19 → TruthRuns t e ρ → end_at t e < e
  comparison-before k r = (comparison k r.fuel r.value r.is).1.left_part.0

  pub comparison-left : shape_at t e ≡ 19 → TruthRuns t e ρ → Inside (end_at t e) × TermRuns t (end_at t e) ρ
  comparison-left k r = let n = comparison k r.fuel r.value r.is in term_runs n.0 n.1.left n.1.left_part.1

  pub comparison-right : shape_at t e ≡ 19 → TruthRuns t e ρ → Inside (e - 4) × TermRuns t (e - 4) ρ
  comparison-right k r = let n = comparison k r.fuel r.value r.is in term_runs n.0 n.1.right n.1.right_part

  pub comparison-answers : {x y : ℤ} {r : Bool} → shape_at t e ≡ 19 → r ≡ compared (first_at t e) x y → TermAnswers t (end_at t e) ρ x
      → TermAnswers t (e - 4) ρ y → TruthAnswers t e ρ r
  comparison-answers k u a d = record {
    is = λ f b h. let n = comparison k f b h in
        u ∙ ap₂ (compared (first_at t e)) (a.is n.0 n.1.left n.1.left_part.1) (d.is n.0 n.1.right n.1.right_part)
        ∙ sym n.1.is;
  }

  -- ---- quantifiers

  pub quantifier-runs : shape_at t e ≡ 24 → TruthRuns t e ρ → QuantifierRuns t e ρ
  quantifier-runs k r =
      let o = truth-opened r.fuel t e ρ r.value r.is in
      record { fuel = o.0; value = r.value; is = is-quantifier _ _ t e ρ _ k o.1.1 }

  pub quantifier-answers : {r : Bool} → shape_at t e ≡ 24 → QuantifierAnswers t e ρ r → TruthAnswers t e ρ r
  quantifier-answers k a = record {
    is = λ f b h. let o = truth-opened f t e ρ b h in a.is o.0 b (is-quantifier _ _ t e ρ _ k o.1.1);
  }

  pub bound-runs : QuantifierRuns t e ρ → BoundRuns t e ρ
  bound-runs r = record { fuel = r.fuel; test = r.is.test; room = r.is.room; bound = r.is.bound }

  pub forall-answers : {r : Bool} → second_at t e ≡ 53 → SomeAnswers t e ρ false r → QuantifierAnswers t e ρ (not r)
  unfolding quantified
  forall-answers k a = record {
    is = λ f b n. ap not (a.is f n.test n.bound) ∙ sym (n.is ∙ rw (quantified, k) refl);
  }

  pub exists-answers : {r : Bool} → second_at t e ≡ 54 → SomeAnswers t e ρ true r → QuantifierAnswers t e ρ r
  unfolding quantified
  exists-answers k a = record {
    is = λ f b n. a.is f n.test n.bound ∙ sym (n.is ∙ rw (quantified, k, k) refl);
  }

  pub once-answers : {r : Bool} → eqb (second_at t e) 53 ≡ false → eqb (second_at t e) 54 ≡ false → OnceAnswers t e ρ r → QuantifierAnswers t e ρ r
  unfolding quantified
  once-answers k₁ k₂ a = record {
    is = λ f b n. a.is f n.test n.bound ∙ sym (n.is ∙ rw (quantified, k₁, k₂) refl);
  }

  -- ---- in and notin

  pub asked-runs : eqb (shape_at t e) 16 ≡ false → eqb (shape_at t e) 17 ≡ false → eqb (shape_at t e) 18 ≡ false → eqb (shape_at t e) 19 ≡ false
      → eqb (shape_at t e) 24 ≡ false → TruthRuns t e ρ → AskedRuns t e ρ
  asked-runs k₁ k₂ k₃ k₄ k₅ r =
      let o = truth-opened r.fuel t e ρ r.value r.is in
      record { fuel = o.0; value = r.value; is = is-asked _ _ t e ρ _ k₁ k₂ k₃ k₄ k₅ o.1.1 }

  pub asked-answers : {r : Bool} → eqb (shape_at t e) 16 ≡ false → eqb (shape_at t e) 17 ≡ false → eqb (shape_at t e) 18 ≡ false
      → eqb (shape_at t e) 19 ≡ false → eqb (shape_at t e) 24 ≡ false → AskedAnswers t e ρ r → TruthAnswers t e ρ r
  asked-answers k₁ k₂ k₃ k₄ k₅ a = record {
    is = λ f b h. let o = truth-opened f t e ρ b h in a.is o.0 b (is-asked _ _ t e ρ _ k₁ k₂ k₃ k₄ k₅ o.1.1);
  }
