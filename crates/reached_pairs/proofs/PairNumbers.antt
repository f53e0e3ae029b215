-- The number of a pair of states and the numbers of the two states; bindings over the carriers and their numbers. Assumes nothing.
use mathlib.Core.Path.{◌≡◌}
use mathlib.Core.List.{List, []}
use Prim.Native.Nat.{ℕ, zero, suc, ◌+◌, ◌*◌, ◌/◌, ◌%◌, ◌<◌}
use native.Mathlib.Nat.{mod-lt, div-lt_iff_lt-mul, zero-lt-suc}
use lib.Arith.{digits_lt}
use native.Mathlib.Omega.{arith}
use lib.ListN.{length}
use Rattle.static_rules.specs.Carriers.{Variable}
use Rattle.meaning.specs.Meaning.{Binding}
use Rattle.meaning.specs.Bindings.{bindings, Over}
use Rattle.meaning.proofs.Bindings.{over-listed}
use Rattle.meaning.proofs.Places.{place-of}
use Rattle.meaning.proofs.Distinct.{distinct-places}
use Rattle.meaning.proofs.Values.{distinct-bindings}
use Rattle.step_searches.specs.PartTestsPartsByNumber.{nth}

-- a pair's number has two digits
pub high_digit : (q m n : ℕ) → q < m * n → q / n < m
high_digit q m zero h = absurd (omega arith)
high_digit q m (suc n) h = (div-lt_iff_lt-mul (zero-lt-suc n)).1 h

pub low_digit : (q m n : ℕ) → q < m * n → q % n < n
low_digit q m zero h = absurd (omega arith)
low_digit q m (suc n) h = mod-lt q (zero-lt-suc n)

-- Form 8: the library's `digits_lt` with its numbers written out, since answers give facts that do not determine them.
pub pair_inside : (a c m n : ℕ) → a < m → c < n → a * n + c < m * n
pair_inside a c m n h k = digits_lt h k

-- a binding over the carriers has one number
module _ (vs : List Variable) where
  pub over-at : (b : Binding) → Over vs b → (k : ℕ) × (k < length (bindings vs)) × (nth (bindings vs) k ≡ b)
  over-at b h = place-of b (bindings vs) [] (over-listed vs b h)

  pub at_once : (j k : ℕ) → j < length (bindings vs) → k < length (bindings vs) → nth (bindings vs) j ≡ nth (bindings vs) k → j ≡ k
  at_once j k h g e = distinct-places (bindings vs) [] (distinct-bindings vs) j k h g e
