-- Sets and division, open to computation: to unfold it is to unfold all that its line names. Nothing here need be believed.
use Rattle.std.specs.Prelude.{ℤ}
use Rattle.std.specs.Int.Count.{ones_in}
use Rattle.sets.specs.Division as division
use Rattle.sets.specs.Sets as bits

unfoldable pub compute_div : ℤ → ℤ → ℤ
unfolding
    ones_in division.floor_div division.floor_mod bits.has bits.set_from bits.set_of bits.members_from bits.members bits.size bits.union bits.without bits.inter
    bits.single bits.pair bits.some_from bits.count_from bits.dom bits.ran bits.is_partial bits.is_total
compute_div a b = division.floor_div a b
