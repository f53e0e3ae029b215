-- `slot_carriers::place_of` meets its contract. Assumes nothing.
use mathlib.Core.Path.{sym, ap, subst, ◌∙◌}
use mir.Syntax.{w64}
use mir.Facts.{to_z-of_z}
use Prim.Native.Nat.{ℕ, ◌<◌}
use native.Mathlib.Omega.{arith}
use lib.IntN.{ℤ, pos, ◌+ℤ◌}
use Rattle.slot_carriers.proofs.Places.{sought-as}
use Rattle.slot_carriers.proofs.CellLists.{list_rising, list-values, list-long}
use Rattle.slot_carriers.proofs.place_of.Goals as goal

pub returns-then-n-eq0 : goal.returns-then-n-eq0
returns-then-n-eq0 c = λ d h. absurd (omega (arith, c.count_of-n.ensures, c.if-n-eq0.true))

pub lowest-requires : goal.lowest-requires
lowest-requires c = (c.requires.slot_low, c.if-cells-slot-lt-PARTIAL.true)

pub distance-requires : goal.distance-requires
distance-requires c = omega (arith, c.count_of-n.ensures, c.requires.count_low)

pub returns-then-cells-slot-lt-PARTIAL : goal.returns-then-cells-slot-lt-PARTIAL
returns-then-cells-slot-lt-PARTIAL c = sought-as c.distance.result (λ d h. ap (λ (z : ℤ). z +ℤ pos d) (to_z-of_z {w = w64} (record { sfits = c.lowest.type_inv })) ∙ c.lowest.ensures.rises d) c.count_of-n.ensures (to_z-of_z c.ranges.x) c.distance.ensures

pub listed-requires : goal.listed-requires
listed-requires c = λ i j h k. list_rising c.args.cells.now c.args.slot c.count_of-n.result c.requires c.count_of-n.ensures c.if-cells-slot-lt-PARTIAL.false c.if-n-eq0.false i j h (subst (λ (m : ℕ). j < m) (list-long c.args.cells.now c.args.slot c.count_of-n.result c.requires c.count_of-n.ensures c.if-cells-slot-lt-PARTIAL.false c.if-n-eq0.false c.told-cells) k)

pub returns : goal.returns
returns c = sought-as c.listed.result (λ d h. list-values c.args.cells.now c.args.slot c.count_of-n.result c.requires c.count_of-n.ensures c.if-cells-slot-lt-PARTIAL.false c.if-n-eq0.false d (subst (λ (m : ℕ). d < m) (sym c.count_of-n.ensures) h)) (list-long c.args.cells.now c.args.slot c.count_of-n.result c.requires c.count_of-n.ensures c.if-cells-slot-lt-PARTIAL.false c.if-n-eq0.false c.told-cells ∙ c.count_of-n.ensures) (to_z-of_z c.ranges.x) c.listed.ensures
