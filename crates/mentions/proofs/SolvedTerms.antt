-- Terms that an equation says a variable to be. Assumes nothing.
use mathlib.Core.Path.{◌≡◌, sym, ap, ◌∙◌, subst}
use mathlib.Core.Bool.{Bool, true}
use mathlib.Core.List.{List}
use Prim.Native.Nat.{ℕ, ◌-◌}
use lib.ListN.{get_or}
use lib.IntN.{ℤ, pos, negsuc}
use borrow.Author.Tests.{eqb-true}
use Rattle.evaluator.specs.MeaningValues.{same_integer}
use Rattle.evaluator.specs.EvaluationOperatorsByNumber.{compared}
use Rattle.evaluator.specs.EvaluationEvaluationByNumber.{Values, shape_at, end_at, first_at, TermIs, TruthIs, ComparisonNode}
use Rattle.evaluator.proofs.NodeLaws.{term-opened, is-slot}
use Rattle.evaluator.proofs.TruthLaws.{truth-opened, is-comparison}
use Rattle.mentions.specs.MentionPromises.{TermFree, Earlier, Tells, Solved, Solves}

same-is : (x y : ℤ) → same_integer x y ≡ true → x ≡ y
same-is (pos a) (pos b) e = ap pos (eqb-true a b e)
same-is (pos a) (negsuc b) e = cc
same-is (negsuc a) (pos b) e = cc
same-is (negsuc a) (negsuc b) e = ap negsuc (eqb-true a b e)

-- 22 is =
compared_same : {b : Bool} (c : ℕ) (x y : ℤ) → c ≡ 22 → b ≡ compared c x y → b ≡ true → x ≡ y
unfolding compared
compared_same c x y k q e = same-is x y (rw k at (sym q) ∙ e)

pub slot-told : {t : List ℕ} {e o s : ℕ} → shape_at t e ≡ 2 → first_at t e ≡ s → TermFree t o s → Tells t e o s
slot-told {t} {e} {o} {s} k is free =
    record { own_is = λ f ρ v h. (is-slot _ _ _ t e ρ v k (term-opened f t e ρ v h).1.1.1).1 ∙ ap (λ (i : ℕ). get_or ρ i (pos 0)) is; free = free }

module _ {t : List ℕ} {e l : ℕ} (k : shape_at t e ≡ 19) (c : first_at t e ≡ 22) (q : Earlier e (end_at t e) l) where
  comparison : (f : ℕ) (ρ : Values) (b : Bool) → TruthIs f t e ρ b → (g : ℕ) × ComparisonNode (λ j σ x. TermIs g t j σ x) t e ρ b
  comparison f ρ b h = let o = truth-opened f t e ρ b h in (o.0, is-comparison _ _ t e ρ b k o.1.1)

  pub left-solves : {s : ℕ} → Tells t l (e - 4) s → Solves t e s (e - 4)
  left-solves {s} w = record { gives = gives; free = w.free }
    where
      gives : (f : ℕ) (ρ : Values) (b : Bool) → TruthIs f t e ρ b → Solved t (e - 4) s ρ b
      gives f ρ b h =
          let n = comparison f ρ b h in
          let own : TermIs n.0 t l ρ n.1.left = subst (λ (j : ℕ). TermIs n.0 t j ρ n.1.left) (sym (q.is n.1.left_part.0)) n.1.left_part.1 in
          record {
            fuel = n.0;
            value = n.1.right;
            is = n.1.right_part;
            same = λ y. sym (w.own_is n.0 ρ n.1.left own) ∙ compared_same (first_at t e) _ _ c n.1.is y;
          }

  pub right-solves : {s : ℕ} → Tells t (e - 4) l s → Solves t e s l
  right-solves {s} w = record { gives = gives; free = w.free }
    where
      gives : (f : ℕ) (ρ : Values) (b : Bool) → TruthIs f t e ρ b → Solved t l s ρ b
      gives f ρ b h =
          let n = comparison f ρ b h in
          record {
            fuel = n.0;
            value = n.1.left;
            is = subst (λ (j : ℕ). TermIs n.0 t j ρ n.1.left) (sym (q.is n.1.left_part.0)) n.1.left_part.1;
            same = λ y. sym (w.own_is n.0 ρ n.1.right n.1.right_part) ∙ sym (compared_same (first_at t e) _ _ c n.1.is y);
          }
