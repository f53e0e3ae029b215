-- `sets::row` meets its contract: bits past the word are no members, and more bits than the word has are all of them. Assumes nothing.
use Prim.Native.Nat.{◌^◌, ◌/◌, ◌%◌, ℕ, ◌<◌}
use mathlib.Core.Path.{subst, sym, ap, ◌∙◌}
use lib.Pow.{pow_pos, pow_mono, shr_le}
use native.Mathlib.Nat.{mod-eq_of_lt, zero-mod, div-eq_of_lt, lt_of_lt_of_le, lt_of_le_of_lt}
use native.Mathlib.Omega.{arith}
use Rattle.sets.proofs.Operations.{one_shifted}
use Rattle.sets.proofs.row.Goals as goal

pub returns-then-from-ge-PLACES : goal.returns-then-from-ge-PLACES
returns-then-from-ge-PLACES c = sym (ap (λ (x : ℕ). x % 2 ^ c.args.m) (div-eq_of_lt (lt_of_lt_of_le c.ranges.s.fits (pow_mono {i = 16} (omega arith)))) ∙ zero-mod (2 ^ c.args.m))

pub returns-then-m-ge-BITS : goal.returns-then-m-ge-BITS
returns-then-m-ge-BITS c = sym (mod-eq_of_lt (lt_of_le_of_lt (shr_le c.args.s c.args.from) (lt_of_lt_of_le c.ranges.s.fits (pow_mono {i = 16} (omega arith)))))

pub nonzero_rem-result : goal.nonzero_rem-result
nonzero_rem-result c = subst (λ (x : ℕ). 0 < x) (sym (one_shifted c.args.m (omega arith))) (pow_pos c.args.m)

pub returns : goal.returns
returns c = ap (λ (x : ℕ). c.args.s / 2 ^ c.args.from % x) (one_shifted c.args.m (omega arith))
