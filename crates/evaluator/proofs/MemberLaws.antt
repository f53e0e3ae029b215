-- The nodes of in and notin opened by their shapes: what their parts must give, what operators take, and what they give. Assumes nothing.
use mathlib.Core.Path.{◌≡◌, sym, ap, ap₂, subst, ◌∙◌}
use mathlib.Core.Bool.{Bool, false}
use mathlib.Core.List.{List}
use Prim.Native.Nat.{ℕ, ◌-◌, ◌<◌, ◌≤◌}
use lib.Dec.{eqb}
use lib.IntN.{ℤ}
use Rattle.sets.specs.Sets as sets
use Rattle.operators.specs.MeaningValues.{natural}
use Rattle.operators.specs.EvaluationOperatorsByNumber.{IsPlace, IsBits, asked, in_range}
use Rattle.operators.specs.EvaluationEvaluationByNumber.{Values, Terms, Inside, shape_at, end_at, first_at, second_at, low_at, count_at, TermIs, pair_code}
use Rattle.operators.specs.EvaluationEvaluationByNumber.{MemberNode, RangeNode, RelatedNode, AskedNode}
use Rattle.evaluator.specs.EvaluationPromises.{TermRuns, TermAnswers, AskedRuns, AskedAnswers}
use Rattle.evaluator.proofs.NodeLaws.{term_runs}
use Rattle.evaluator.proofs.ItemLaws.{same_place, pair-places, pair-low}

same_bits : {x y : ℤ} → x ≡ y → IsBits y → IsBits x
same_bits q p = subst (λ (z : ℤ). IsBits z) (sym q) p

module _ (T : Terms) (t : List ℕ) (e : ℕ) (ρ : Values) (b : Bool) where
  is_member : shape_at t e ≡ 20 → AskedNode T t e ρ b → MemberNode T t e ρ b
  unfolding AskedNode
  is_member k = rw (AskedNode, k) (λ h. h)

  is-range : shape_at t e ≡ 21 → AskedNode T t e ρ b → RangeNode T t e ρ b
  unfolding AskedNode
  is-range k = rw (AskedNode, k) (λ h. h)

  is-related : eqb (shape_at t e) 20 ≡ false → eqb (shape_at t e) 21 ≡ false → AskedNode T t e ρ b → RelatedNode T t e ρ b
  unfolding AskedNode
  is-related k₁ k₂ = rw (AskedNode, k₁, k₂) (λ h. h)

module _ {t : List ℕ} {e : ℕ} {ρ : Values} where
  -- ---- an element and its set

  element : shape_at t e ≡ 20 → (r : AskedRuns t e ρ) → MemberNode (λ j σ x. TermIs r.fuel t j σ x) t e ρ r.value
  element k r = is_member _ t e ρ _ k r.is

  pub element-before : shape_at t e ≡ 20 → AskedRuns t e ρ → end_at t e < e
  element-before k r = (element k r).left_part.0

  pub element-left : shape_at t e ≡ 20 → AskedRuns t e ρ → Inside (end_at t e) × TermRuns t (end_at t e) ρ
  element-left k r = let n = element k r in term_runs r.fuel n.left n.left_part.1

  pub element-right : shape_at t e ≡ 20 → AskedRuns t e ρ → Inside (e - 4) × TermRuns t (e - 4) ρ
  element-right k r = let n = element k r in term_runs r.fuel n.right n.right_part

  pub element-takes : {x s : ℤ} → shape_at t e ≡ 20 → AskedRuns t e ρ → TermAnswers t (end_at t e) ρ x → TermAnswers t (e - 4) ρ s
      → IsBits s × IsPlace x
  element-takes k r a b =
      let n = element k r in
      (same_bits (b.is r.fuel n.right n.right_part) n.set, same_place (a.is r.fuel n.left n.left_part.1) n.place)

  pub element-answers : {x s : ℤ} {p r : Bool} → shape_at t e ≡ 20 → p ≡ sets.has (natural s) (natural x) → r ≡ asked (eqb (first_at t e) 56) p
      → TermAnswers t (end_at t e) ρ x → TermAnswers t (e - 4) ρ s → AskedAnswers t e ρ r
  element-answers k w q a b = record {
    is = λ f c h. let n = is_member _ t e ρ _ k h in
        q ∙ ap (asked (eqb (first_at t e) 56))
        (w ∙ ap₂ (λ (y z : ℤ). sets.has (natural y) (natural z)) (b.is f n.right n.right_part) (a.is f n.left n.left_part.1))
        ∙ sym n.is;
  }

  -- ---- a number and a range

  pub range-room : shape_at t e ≡ 21 → AskedRuns t e ρ → 8 ≤ e
  range-room k r = (is-range _ t e ρ _ k r.is).room

  pub range-part : shape_at t e ≡ 21 → AskedRuns t e ρ → Inside (e - 8) × TermRuns t (e - 8) ρ
  range-part k r = let n = is-range _ t e ρ _ k r.is in term_runs r.fuel n.left n.part

  pub range-answers : {x l : ℤ} {p r : Bool} → shape_at t e ≡ 21 → l ≡ low_at t (e - 4) → p ≡ in_range l (count_at t (e - 4)) x
      → r ≡ asked (eqb (first_at t e) 56) p → TermAnswers t (e - 8) ρ x → AskedAnswers t e ρ r
  range-answers k u w q a = record {
    is = λ f c h. let n = is-range _ t e ρ _ k h in
        q ∙ ap (asked (eqb (first_at t e) 56)) (w ∙ ap₂ (λ (y z : ℤ). in_range y (count_at t (e - 4)) z) u (a.is f n.left n.part)) ∙ sym n.is;
  }

  -- ---- a pair and its relation

  module _ (k₁ : eqb (shape_at t e) 20 ≡ false) (k₂ : eqb (shape_at t e) 21 ≡ false) where
    related : (r : AskedRuns t e ρ) → RelatedNode (λ j σ x. TermIs r.fuel t j σ x) t e ρ r.value
    related r = is-related _ t e ρ _ k₁ k₂ r.is

    pub related-before : AskedRuns t e ρ → end_at t e < e
    related-before r = (related r).left_part.0

    pub related-left : AskedRuns t e ρ → Inside (end_at t e) × TermRuns t (end_at t e) ρ
    related-left r = let n = related r in term_runs r.fuel n.left n.left_part.1

    pub related-between : AskedRuns t e ρ → second_at t e < e
    related-between r = (related r).middle_part.0

    pub related-middle : AskedRuns t e ρ → Inside (second_at t e) × TermRuns t (second_at t e) ρ
    related-middle r = let n = related r in term_runs r.fuel n.middle n.middle_part.1

    pub related-right : AskedRuns t e ρ → Inside (e - 4) × TermRuns t (e - 4) ρ
    related-right r = let n = related r in term_runs r.fuel n.right n.right_part

    pub related-takes : {x y : ℤ} → AskedRuns t e ρ → TermAnswers t (end_at t e) ρ x → TermAnswers t (second_at t e) ρ y → IsPlace x × IsPlace y
    related-takes r a b =
        let n = related r in
        pair-places (a.is r.fuel n.left n.left_part.1) (b.is r.fuel n.middle n.middle_part.1) n.takes

    pub related-has : {x y p s : ℤ} → p ≡ pair_code (first_at t e) x y → AskedRuns t e ρ → TermAnswers t (end_at t e) ρ x
        → TermAnswers t (second_at t e) ρ y → TermAnswers t (e - 4) ρ s → IsBits s × IsPlace p
    related-has w r a b d =
        let n = related r in (
          same_bits (d.is r.fuel n.right n.right_part) n.set,
          pair-low w (a.is r.fuel n.left n.left_part.1) (b.is r.fuel n.middle n.middle_part.1) n.takes,
        )

    pub related-answers : {x y p s : ℤ} {c r : Bool} → p ≡ pair_code (first_at t e) x y → c ≡ sets.has (natural s) (natural p)
        → r ≡ asked (eqb (shape_at t e) 22) c → TermAnswers t (end_at t e) ρ x → TermAnswers t (second_at t e) ρ y → TermAnswers t (e - 4) ρ s
        → AskedAnswers t e ρ r
    related-answers w u q a b d = record {
      is = λ f c h. let n = is-related _ t e ρ _ k₁ k₂ h in
          q ∙ ap (asked (eqb (shape_at t e) 22))
          (u ∙ ap₂ (λ (y z : ℤ). sets.has (natural y) (natural z)) (d.is f n.right n.right_part)
          (w ∙ ap₂ (pair_code (first_at t e)) (a.is f n.left n.left_part.1) (b.is f n.middle n.middle_part.1)))
          ∙ sym n.is;
    }
