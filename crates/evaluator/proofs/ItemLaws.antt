-- The nodes of a brace opened by their shapes: what their parts must give, what operators take, and what they give. Assumes nothing.
use mathlib.Core.Path.{◌≡◌, refl, sym, ap, ap₂, subst, ◌∙◌}
use mathlib.Core.Bool.{false}
use mathlib.Core.List.{List}
use Prim.Native.Nat.{ℕ, zero, suc, ◌-◌, ◌^◌, ◌<◌}
use lib.Dec.{eqb}
use lib.Pow.{pow-lt}
use lib.IntN.{ℤ, pos}
use lib.Signed.{mag}
use mir.Syntax.{w64}
use mir.Val.{to_z, of_z}
use Rattle.sets.specs.Sets as sets
use Rattle.operators.specs.MeaningValues.{natural}
use Rattle.operators.specs.EvaluationOperatorsByNumber.{IsPlace, IsBits}
use Rattle.operators.specs.EvaluationEvaluationByNumber.{Values, Terms, Inside, shape_at, end_at, first_at, second_at, TermIs, ItemsIs, Pair, pair_code}
use Rattle.operators.specs.EvaluationEvaluationByNumber.{LastItem, MoreItems, LastPair, MorePairs, ItemsNode}
use Rattle.evaluator.specs.EvaluationPromises.{TermRuns, TermAnswers, ItemsRun, ItemsAnswer}
use Rattle.operators.proofs.SignedLaws.{read}
use Rattle.evaluator.proofs.NodeLaws.{term_runs, items-run}

pub items_at : {t : List ℕ} {e : ℕ} {ρ σ : Values} → σ ≡ ρ → Inside e × ItemsRun t e ρ → Inside e × ItemsRun t e σ
items_at {t} {e} q r = (r.0, subst (λ (l : Values). ItemsRun t e l) (sym q) r.1)

pub items-heard : {t : List ℕ} {e : ℕ} {ρ σ : Values} {x : ℤ} → σ ≡ ρ → mag x < 2 ^ 63 → ItemsAnswer t e σ x → ItemsAnswer t e ρ (to_z w64 (of_z w64 x))
items-heard {t} {e} q ok a = record { is = λ f v h. read ok ∙ a.is f v (subst (λ (l : Values). ItemsIs f t e l v) (sym q) h) }

-- ---- places and sets

pub same_place : {x y : ℤ} → x ≡ y → IsPlace y → IsPlace x
same_place q p = subst (λ (z : ℤ). IsPlace z) (sym q) p

pub single-bits : {x r : ℤ} → IsPlace x → r ≡ pos (sets.single (natural x)) → IsBits r
unfolding sets.single
single-bits {x} p q = subst (λ (z : ℤ). IsBits z) (sym q) (record { natural_is = refl; low = pow-lt {i = natural x} {j = 16} p.low })

pub pair-places : {m : ℕ} {x y a b : ℤ} → x ≡ a → y ≡ b → Pair m a b → IsPlace x × IsPlace y
pair-places q u p = (same_place q p.first, same_place u p.second)

pub pair-low : {m : ℕ} {x y a b c : ℤ} → c ≡ pair_code m x y → x ≡ a → y ≡ b → Pair m a b → IsPlace c
pair-low {m} w q u p = same_place (w ∙ ap₂ (pair_code m) q u) p.low

-- ---- items, and what their node is

pub items-opened : (f : ℕ) (t : List ℕ) (e : ℕ) (ρ : Values) (v : ℤ) → ItemsIs f t e ρ v
    → (g : ℕ) × (Inside e × (IsBits v × ItemsNode (λ j σ x. TermIs g t j σ x) (λ j σ x. ItemsIs g t j σ x) t e ρ v))
unfolding ItemsIs
items-opened zero t e ρ v h = absurd h
items-opened (suc f) t e ρ v h = (f, (h.0, (h.1, h.2)))

module _ (T I : Terms) (t : List ℕ) (e : ℕ) (ρ : Values) (v : ℤ) where
  is-last-item : shape_at t e ≡ 9 → ItemsNode T I t e ρ v → LastItem T t e ρ v
  unfolding ItemsNode
  is-last-item k = rw (ItemsNode, k) (λ h. h)

  is-more-items : shape_at t e ≡ 10 → ItemsNode T I t e ρ v → MoreItems T I t e ρ v
  unfolding ItemsNode
  is-more-items k = rw (ItemsNode, k) (λ h. h)

  is-last-pair : shape_at t e ≡ 11 → ItemsNode T I t e ρ v → LastPair T t e ρ v
  unfolding ItemsNode
  is-last-pair k = rw (ItemsNode, k) (λ h. h)

  is-more-pairs : eqb (shape_at t e) 9 ≡ false → eqb (shape_at t e) 10 ≡ false → eqb (shape_at t e) 11 ≡ false → ItemsNode T I t e ρ v
      → MorePairs T I t e ρ v
  unfolding ItemsNode
  is-more-pairs k₁ k₂ k₃ = rw (ItemsNode, k₁, k₂, k₃) (λ h. h)

module _ {t : List ℕ} {e : ℕ} {ρ : Values} where
  pub items-bits : {x : ℤ} → ItemsRun t e ρ → ItemsAnswer t e ρ x → IsBits x
  items-bits r a =
      subst (λ (z : ℤ). IsBits z) (sym (a.is r.fuel r.value r.is)) (items-opened r.fuel t e ρ r.value r.is).1.1.0

  -- ---- the last item

  last-item : shape_at t e ≡ 9 → (f : ℕ) (v : ℤ) → ItemsIs f t e ρ v → (g : ℕ) × LastItem (λ j σ x. TermIs g t j σ x) t e ρ v
  last-item k f v h = let o = items-opened f t e ρ v h in (o.0, is-last-item _ _ t e ρ _ k o.1.1.1)

  pub last-item-part : shape_at t e ≡ 9 → ItemsRun t e ρ → Inside (e - 4) × TermRuns t (e - 4) ρ
  last-item-part k r = let n = last-item k r.fuel r.value r.is in term_runs n.0 n.1.item n.1.part

  pub last-item-place : {x : ℤ} → shape_at t e ≡ 9 → ItemsRun t e ρ → TermAnswers t (e - 4) ρ x → IsPlace x
  last-item-place k r a = let n = last-item k r.fuel r.value r.is in same_place (a.is n.0 n.1.item n.1.part) n.1.takes

  pub last-item-answers : {x r : ℤ} → shape_at t e ≡ 9 → r ≡ pos (sets.single (natural x)) → TermAnswers t (e - 4) ρ x → ItemsAnswer t e ρ r
  last-item-answers k q a = record {
    is = λ f v h. let n = last-item k f v h in
        q ∙ ap (λ (z : ℤ). pos (sets.single (natural z))) (a.is n.0 n.1.item n.1.part) ∙ sym n.1.is;
  }

  -- ---- an item and those behind it

  more-items : shape_at t e ≡ 10 → (f : ℕ) (v : ℤ) → ItemsIs f t e ρ v
      → (g : ℕ) × MoreItems (λ j σ x. TermIs g t j σ x) (λ j σ x. ItemsIs g t j σ x) t e ρ v
  more-items k f v h = let o = items-opened f t e ρ v h in (o.0, is-more-items _ _ t e ρ _ k o.1.1.1)

  pub more-items-before : shape_at t e ≡ 10 → ItemsRun t e ρ → end_at t e < e
  more-items-before k r = (more-items k r.fuel r.value r.is).1.part.0

  pub more-items-part : shape_at t e ≡ 10 → ItemsRun t e ρ → Inside (end_at t e) × TermRuns t (end_at t e) ρ
  more-items-part k r = let n = more-items k r.fuel r.value r.is in term_runs n.0 n.1.item n.1.part.1

  pub more-items-rest : shape_at t e ≡ 10 → ItemsRun t e ρ → Inside (e - 4) × ItemsRun t (e - 4) ρ
  more-items-rest k r = let n = more-items k r.fuel r.value r.is in items-run n.0 n.1.others n.1.rest

  pub more-items-place : {x : ℤ} → shape_at t e ≡ 10 → ItemsRun t e ρ → TermAnswers t (end_at t e) ρ x → IsPlace x
  more-items-place k r a = let n = more-items k r.fuel r.value r.is in same_place (a.is n.0 n.1.item n.1.part.1) n.1.takes

  pub more-items-answers : {x y s r : ℤ} → shape_at t e ≡ 10 → s ≡ pos (sets.single (natural x)) → r ≡ pos (sets.union (natural s) (natural y))
      → TermAnswers t (end_at t e) ρ x → ItemsAnswer t (e - 4) ρ y → ItemsAnswer t e ρ r
  more-items-answers k u q a b = record {
    is = λ f v h. let n = more-items k f v h in
        q ∙ ap₂ (λ (w z : ℤ). pos (sets.union (natural w) (natural z)))
        (u ∙ ap (λ (z : ℤ). pos (sets.single (natural z))) (a.is n.0 n.1.item n.1.part.1))
        (b.is n.0 n.1.others n.1.rest)
        ∙ sym n.1.is;
  }

  -- ---- the last pair

  last-pair : shape_at t e ≡ 11 → (f : ℕ) (v : ℤ) → ItemsIs f t e ρ v → (g : ℕ) × LastPair (λ j σ x. TermIs g t j σ x) t e ρ v
  last-pair k f v h = let o = items-opened f t e ρ v h in (o.0, is-last-pair _ _ t e ρ _ k o.1.1.1)

  pub last-pair-before : shape_at t e ≡ 11 → ItemsRun t e ρ → end_at t e < e
  last-pair-before k r = (last-pair k r.fuel r.value r.is).1.left_part.0

  pub last-pair-left : shape_at t e ≡ 11 → ItemsRun t e ρ → Inside (end_at t e) × TermRuns t (end_at t e) ρ
  last-pair-left k r = let n = last-pair k r.fuel r.value r.is in term_runs n.0 n.1.left n.1.left_part.1

  pub last-pair-right : shape_at t e ≡ 11 → ItemsRun t e ρ → Inside (e - 4) × TermRuns t (e - 4) ρ
  last-pair-right k r = let n = last-pair k r.fuel r.value r.is in term_runs n.0 n.1.right n.1.right_part

  pub last-pair-takes : {x y : ℤ} → shape_at t e ≡ 11 → ItemsRun t e ρ → TermAnswers t (end_at t e) ρ x → TermAnswers t (e - 4) ρ y
      → IsPlace x × IsPlace y
  last-pair-takes k r a b =
      let n = last-pair k r.fuel r.value r.is in
      pair-places (a.is n.0 n.1.left n.1.left_part.1) (b.is n.0 n.1.right n.1.right_part) n.1.takes

  pub last-pair-low : {x y p : ℤ} → shape_at t e ≡ 11 → p ≡ pair_code (first_at t e) x y → ItemsRun t e ρ → TermAnswers t (end_at t e) ρ x
      → TermAnswers t (e - 4) ρ y → IsPlace p
  last-pair-low k w r a b =
      let n = last-pair k r.fuel r.value r.is in
      pair-low w (a.is n.0 n.1.left n.1.left_part.1) (b.is n.0 n.1.right n.1.right_part) n.1.takes

  pub last-pair-answers : {x y p r : ℤ} → shape_at t e ≡ 11 → p ≡ pair_code (first_at t e) x y → r ≡ pos (sets.single (natural p))
      → TermAnswers t (end_at t e) ρ x → TermAnswers t (e - 4) ρ y → ItemsAnswer t e ρ r
  last-pair-answers k w q a b = record {
    is = λ f v h. let n = last-pair k f v h in
        q ∙ ap (λ (z : ℤ). pos (sets.single (natural z)))
        (w ∙ ap₂ (pair_code (first_at t e)) (a.is n.0 n.1.left n.1.left_part.1) (b.is n.0 n.1.right n.1.right_part))
        ∙ sym n.1.is;
  }

  -- ---- a pair and those behind it

  module _ (k₁ : eqb (shape_at t e) 9 ≡ false) (k₂ : eqb (shape_at t e) 10 ≡ false) (k₃ : eqb (shape_at t e) 11 ≡ false) where
    more-pairs : (f : ℕ) (v : ℤ) → ItemsIs f t e ρ v → (g : ℕ) × MorePairs (λ j σ x. TermIs g t j σ x) (λ j σ x. ItemsIs g t j σ x) t e ρ v
    more-pairs f v h = let o = items-opened f t e ρ v h in (o.0, is-more-pairs _ _ t e ρ _ k₁ k₂ k₃ o.1.1.1)

    pub more-pairs-before : ItemsRun t e ρ → end_at t e < e
    more-pairs-before r = (more-pairs r.fuel r.value r.is).1.left_part.0

    pub more-pairs-left : ItemsRun t e ρ → Inside (end_at t e) × TermRuns t (end_at t e) ρ
    more-pairs-left r = let n = more-pairs r.fuel r.value r.is in term_runs n.0 n.1.left n.1.left_part.1

    pub more-pairs-between : ItemsRun t e ρ → second_at t e < e
    more-pairs-between r = (more-pairs r.fuel r.value r.is).1.right_part.0

    pub more-pairs-right : ItemsRun t e ρ → Inside (second_at t e) × TermRuns t (second_at t e) ρ
    more-pairs-right r = let n = more-pairs r.fuel r.value r.is in term_runs n.0 n.1.right n.1.right_part.1

    pub more-pairs-rest : ItemsRun t e ρ → Inside (e - 4) × ItemsRun t (e - 4) ρ
    more-pairs-rest r = let n = more-pairs r.fuel r.value r.is in items-run n.0 n.1.others n.1.rest

    pub more-pairs-takes : {x y : ℤ} → ItemsRun t e ρ → TermAnswers t (end_at t e) ρ x → TermAnswers t (second_at t e) ρ y → IsPlace x × IsPlace y
    more-pairs-takes r a b =
        let n = more-pairs r.fuel r.value r.is in
        pair-places (a.is n.0 n.1.left n.1.left_part.1) (b.is n.0 n.1.right n.1.right_part.1) n.1.takes

    pub more-pairs-low : {x y p : ℤ} → p ≡ pair_code (first_at t e) x y → ItemsRun t e ρ → TermAnswers t (end_at t e) ρ x
        → TermAnswers t (second_at t e) ρ y → IsPlace p
    more-pairs-low w r a b =
        let n = more-pairs r.fuel r.value r.is in
        pair-low w (a.is n.0 n.1.left n.1.left_part.1) (b.is n.0 n.1.right n.1.right_part.1) n.1.takes

    pub more-pairs-answers : {x y z p s r : ℤ} → p ≡ pair_code (first_at t e) x y → s ≡ pos (sets.single (natural p))
        → r ≡ pos (sets.union (natural s) (natural z)) → TermAnswers t (end_at t e) ρ x → TermAnswers t (second_at t e) ρ y
        → ItemsAnswer t (e - 4) ρ z → ItemsAnswer t e ρ r
    more-pairs-answers w u q a b d = record {
      is = λ f v h. let n = more-pairs f v h in
          q ∙ ap₂ (λ (o z : ℤ). pos (sets.union (natural o) (natural z)))
          (u ∙ ap (λ (z : ℤ). pos (sets.single (natural z)))
          (w ∙ ap₂ (pair_code (first_at t e)) (a.is n.0 n.1.left n.1.left_part.1) (b.is n.0 n.1.right n.1.right_part.1)))
          (d.is n.0 n.1.others n.1.rest)
          ∙ sym n.1.is;
    }
