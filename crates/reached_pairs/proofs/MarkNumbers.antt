-- Pairs counted by their layer, and marks that are cleared. Assumes nothing.
use mathlib.Core.Path.{◌≡◌, refl, ap, ◌∙◌}
use mathlib.Core.Bool.{Bool, true, false}
use mathlib.Core.List.{List}
use Prim.Native.Nat.{ℕ, ◌<◌, ◌≤◌}
use borrow.Author.Tests.{eqb-false}
use Rattle.std.specs.Prelude.{◌==◌, count_by, cond, take}
use native.Mathlib.Omega.{arith}
use native.Mathlib.Decide.{dec_lt}
use lib.ListN.{length, get_or, replicate, length-replicate, get_or-eq_default}
use Rattle.std.proofs.lemmas.List.{get_or-replicate, get_or-take, length-take}
use Rattle.std.proofs.lemmas.List.Sums.{count_by-le-length, get_or-le-sum_by}
use Rattle.reached_pairs.specs.declared.marks.Mark.{Mark}
use Rattle.reached_pairs.specs.Reached.{no_mark, layer_of, mark_in, layer_in}
use Rattle.reached_pairs.specs.ReachedByNumber.{Cleared, LayerCounted}

one-of : (b : Bool) → (b ≡ false → ⊥) → 1 ≤ cond b 1 0
one-of true h = omega arith
one-of false h = absurd (h refl)

-- where none is counted, none of them is of that layer
pub layer-counted : {marks : List Mark} {pairs n r : ℕ} → 0 < n → r ≡ count_by (λ m. layer_of m == n) (take pairs marks) → LayerCounted marks pairs n r
layer-counted {marks} {pairs} {n} {r} some e = record {
  low = omega (arith, e, length-take pairs marks, count_by-le-length test (take pairs marks));
  none = λ z y h q. go z y h q (dec_lt y (length marks));
}
  where
    test : Mark → Bool
    test m = layer_of m == n

    go : r ≡ 0 → (y : ℕ) → y < pairs → layer_in marks y ≡ n → Dec (y < length marks) → ⊥
    go z y h q (yes k) =
        let one : 1 ≤ cond (test (get_or (take pairs marks) y no_mark)) 1 0
        = one-of (test (get_or (take pairs marks) y no_mark)) (λ g. eqb-false _ _ g (ap layer_of (get_or-take pairs marks y no_mark h) ∙ q)) in
        omega (arith, z, e, one, get_or-le-sum_by (λ (m : Mark). cond (test m) 1 0) (take pairs marks) y no_mark (omega (arith, length-take pairs marks)))
    go z y h q (no k) = let s : mark_in marks y ≡ no_mark = get_or-eq_default marks no_mark {n = y} (omega arith) in omega (arith, some, q, ap layer_of s)

-- no marks all over
pub cleared : {a b : List Mark} → b ≡ replicate (length a) no_mark → Cleared a b
cleared {a} {b} e = record { long = ap length e ∙ length-replicate {A = Mark} (length a) no_mark; each = λ y. ap (λ (l : List Mark). mark_in l y) e ∙ go y (dec_lt y (length a)) }
  where
    go : (y : ℕ) → Dec (y < length a) → mark_in (replicate (length a) no_mark) y ≡ no_mark
    go y (yes h) = get_or-replicate (length a) y no_mark no_mark h
    go y (no h) = get_or-eq_default (replicate (length a) no_mark) no_mark {n = y} (omega (arith, length-replicate {A = Mark} (length a) no_mark))
