-- What the library's `contains` answers at a range of numbers, with its end and without.
use mathlib.Core.Path.{◌≡◌, sym, ap, ap₂, ◌∙◌}
use mathlib.Core.Bool.{Bool, true, false, ◌&&◌, cond}
use Prim.Native.Nat.{ℕ, ◌<◌, ◌≤◌}
use native.Mathlib.Omega.{arith}
use borrow.Author.Tests.{le-leb, lt-leb, lt-ltb, le-ltb, leb-true, leb-false}
use lib.Dec.{leb, ltb}
use Rattle.std.specs.Cmp.{ranks}
use Rattle.std.specs.Ordering.{is_le, is_lt, nat_cmp, MatchOrdering}
use Rattle.std.specs.declared.cmp.Ordering.{Ordering}
use Rattle.std.specs.declared.cmp.Ordering.TheVariants.{Less, Equal, Greater}
use Rattle.std.proofs.lemmas.Bool.{and_parts}

at_most : (x y : ℕ) (r : Ordering) → MatchOrdering r (x < y) (x ≡ y) (y < x) → is_le r ≡ leb x y
at_most x y Less h = sym (le-leb x y (omega arith))
at_most x y Equal h = sym (le-leb x y (omega arith))
at_most x y Greater h = sym (lt-leb x y h)

-- Form 8: the library has this law in `core`, which a crate cannot name.
below : (x y : ℕ) (r : Ordering) → MatchOrdering r (x < y) (x ≡ y) (y < x) → is_lt r ≡ ltb x y
below x y Less h = sym (lt-ltb x y h)
below x y Equal h = sym (le-ltb x y (omega arith))
below x y Greater h = sym (le-ltb x y (omega arith))

-- a range without its end
pub in_range : (low high x : ℕ) → is_le (nat_cmp low x) && is_lt (nat_cmp x high) ≡ leb low x && ltb x high
in_range low high x = ap₂ ◌&&◌ (at_most low x (nat_cmp low x) (ranks low x)) (below x high (nat_cmp x high) (ranks x high))

-- a range with its end, of which nothing is spent
pub ranged : (x : ℕ) {low high from to : ℕ} {past : Bool} → from ≡ low → to ≡ high → past ≡ false
    → is_le (nat_cmp from x) && cond past (is_lt (nat_cmp x to)) (is_le (nat_cmp x to)) ≡ leb low x && leb x high
ranged x {low} {high} {from} {to} a b f =
    ap (λ (p : Bool). is_le (nat_cmp from x) && cond p (is_lt (nat_cmp x to)) (is_le (nat_cmp x to))) f
    ∙ ap₂ ◌&&◌ (at_most from x (nat_cmp from x) (ranks from x)) (at_most x to (nat_cmp x to) (ranks x to)) ∙ ap₂ (λ (i j : ℕ). leb i x && leb x j) a b

pub inside_range : {x low high : ℕ} → (leb low x && leb x high) ≡ true → (low ≤ x) × (x ≤ high)
inside_range {x} {low} {high} e = let w = and_parts (leb low x) (leb x high) e in (leb-true low x w.0, leb-true x high w.1)

pub outside_range : {x low high : ℕ} → (leb low x && leb x high) ≡ false → low ≤ x → high < x
outside_range {x} {low} {high} e l = leb-false x high (sym (ap (λ (b : Bool). b && leb x high) (le-leb low x l)) ∙ e)
