-- A walk over numbers that stops at the first that fails. Assumes nothing.
use mathlib.Core.Path.{◌≡◌, sym, subst}
use mathlib.Core.Bool.{Bool, true, false, true≢false}
use Prim.Native.Nat.{ℕ, ◌-◌, ◌<◌, ◌≤◌}
use native.Mathlib.Omega.{arith}
use lib.ListN.{length, get_or}
use Rattle.std.specs.Prelude.{MatchBool}
use Rattle.std.specs.List.{range_with_len, AllWithin, HoldsAt}
use Rattle.std.proofs.lemmas.List.FromFn.{length-range_with_len, get_or-range_with_len}

-- where it says yes, each number from a up to b passes
pub each-passes : (a b : ℕ) (r : Bool) (Yes : ℕ → Type 0)
    → MatchBool r (AllWithin Yes (range_with_len a (b - a)) 0 (length (range_with_len a (b - a)))) ((k : ℕ) × (k < length (range_with_len a (b - a))) × HoldsAt (λ (n : ℕ). n ≡ n) (range_with_len a (b - a)) k)
    → r ≡ true → (k : ℕ) → a ≤ k → k < b → Yes k
each-passes a b false Yes w e k l h = absurd (true≢false (sym e))
each-passes a b true Yes w e k l h =
    subst Yes {x = get_or (range_with_len a (b - a)) (k - a) 0} {y = k} (omega (arith, get_or-range_with_len a (b - a) (k - a) 0 (omega arith)))
    (w (k - a) 0 (omega arith) (omega (arith, length-range_with_len a (b - a))))
