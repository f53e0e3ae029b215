-- A search through blocks of equal length: a place is a block and a place in it. Assumes nothing.
use Prim.Native.Nat.{ℕ, ◌+◌, ◌-◌, ◌*◌, ◌/◌, ◌%◌, ◌<◌, ◌≤◌}
use native.Mathlib.Nat.{add-mul, one-mul, div-add-mod', mod-lt, mul-le-mul_right}
use native.Mathlib.Omega.{arith}
use mathlib.Core.Path.{◌≡◌, ap, ap₂, ◌∙◌, subst}
use mathlib.Core.Bool.{Bool, false}
use lib.Arith.{digits_div, digits_mod}
use Rattle.points.specs.Searches.{Sought}

-- at block x and place r of it: nothing was found before
pub record Going (f : ℕ → Bool) (v from x r : ℕ) : Type 0 where
  pub short : r < v
  pub low : from ≤ x * v + r
  pub past : (k : ℕ) → from ≤ k → k < x * v + r → f k ≡ false

-- the search may begin later: what is left out is not found
pub started : (f : ℕ → Bool) (v from first : ℕ) → 0 < v → from ≤ first → ((k : ℕ) → from ≤ k → k < first → f k ≡ false) → Going f v from (first / v) (first % v)
started f v from first p l skips =
    let e : first / v * v + first % v ≡ first = div-add-mod' first v in
    record { short = mod-lt first p; low = omega arith; past = λ k a b. skips k a (subst (λ (x : ℕ). k < x) e b) }

-- n blocks in all
module _ (f : ℕ → Bool) (h : ℕ → ℕ → Bool) (n v from : ℕ) (split : (k : ℕ) → f k ≡ h (k / v) (k % v)) where
  at_block : (x r : ℕ) → r < v → f (x * v + r) ≡ h x r
  at_block x r l = split (x * v + r) ∙ ap₂ h (digits_div x l) (digits_mod x l)

  -- the search in block x
  module _ {x r k : ℕ} (g : Going f v from x r) (q : Sought (h x) r v k) where
    -- what was not found in block x from r up to k is not found in the whole
    through : (y : ℕ) → from ≤ y → y < x * v + k → f y ≡ false
    through y a b =
        let hi : k ≤ v = q.high in
        elim (native.Mathlib.Decide.dec_lt y (x * v + r)) [
          | yes z ↦ g.past y a z
          | no z ↦ (
              let e : y ≡ x * v + (y - x * v) = omega arith in
              ap f e ∙ at_block x (y - x * v) (omega arith) ∙ q.past (y - x * v) (omega arith) (omega arith))
        ]

    pub next : v ≤ k → Going f v from (x + 1) 0
    next p =
        let o : (x + 1) * v ≡ x * v + 1 * v = add-mul x 1 v in
        let o' : 1 * v ≡ v = one-mul v in
        let sh : r < v = g.short in
        let lw : from ≤ x * v + r = g.low in
        record { short = omega arith; low = omega arith; past = λ y a b. through y a (nearer y o o' b) }
      where
        nearer : (y : ℕ) → (x + 1) * v ≡ x * v + 1 * v → 1 * v ≡ v → y < (x + 1) * v + 0 → y < x * v + k
        nearer y o o' b = omega arith

    pub found : k < v → x < n → Sought f from (n * v) (x * v + k)
    found p l =
        let lw : from ≤ x * v + r = g.low in
        let far : r ≤ k = q.low in
        let o : (x + 1) * v ≡ x * v + 1 * v = add-mul x 1 v in
        let o' : 1 * v ≡ v = one-mul v in
        let up : (x + 1) * v ≤ n * v = mul-le-mul_right v (omega arith) in
        record { low = omega arith; high = omega arith; past = through; found = λ a. at_block x k p ∙ q.found p }

-- it may end at block `high`: nothing is found from there on
pub ended : {f : ℕ → Bool} {v from x r : ℕ} (n high : ℕ) → Going f v from x r → high ≤ x → ((k : ℕ) → high * v ≤ k → k < n * v → f k ≡ false) → from ≤ n * v
    → Sought f from (n * v) (n * v)
ended {f} {v} {from} {x} {r} n high g l beyond w =
    let up : high * v ≤ x * v = mul-le-mul_right v l in
    record { low = w; high = omega arith; past = λ y a b. past y up a b; found = λ a. absurd (less a) }
  where
    less : n * v < n * v → ⊥
    less a = omega arith

    past : (y : ℕ) → high * v ≤ x * v → from ≤ y → y < n * v → f y ≡ false
    past y up a b =
        elim (native.Mathlib.Decide.dec_lt y (x * v + r)) [
          | yes z ↦ g.past y a z
          | no z ↦ beyond y (omega arith) b
        ]
