-- `setup::set_cells` meets its contract: the cells before the i-th are made, and what makes the others makes all. Assumes nothing.
use mathlib.Core.Path.{subst, sym, ◌∙◌}
use Prim.Native.Nat.{ℕ, ◌+◌, ◌<◌}
use native.Mathlib.Omega.{arith}
use Rattle.slot_carriers.specs.TypeNodes.{Placed}
use Rattle.slot_carriers.specs.DeclaredGroups.{Declared, CellsMade}
use Rattle.slot_carriers.proofs.CellLists.{part-long, part_number}
use Rattle.slot_carriers.proofs.KeptCells.{making_start, making-first, making_more, making_done}
use Rattle.slot_carriers.proofs.setup.set_cells.Goals as goal

pub loop-i-init : goal.loop-i-init
loop-i-init c = making_start c.args.table.now c.args.groups.now (c.args.row + 1) c.from-n.result c.args.base c.args.from c.args.cells.now (subst (λ (k : ℕ). Declared c.args.table.now c.args.groups.now (c.args.row + 1) k c.args.from) (sym c.from-n.ensures) c.requires.declared) c.requires.row_bound.3

pub set_cell-at-requires : goal.set_cell-at-requires
set_cell-at-requires c =
    let l = part-long c.args.groups.now (c.args.row + 1) c.from-n.result (omega (arith, c.from-n.ensures, c.requires.row_bound.1, c.told-groups)) in
    let h : c.loop-i.i < c.from-n.result = omega (arith, c.loop-i-test.true) in
    let e = c.from.ensures ∙ part_number c.args.groups.now (c.args.row + 1) c.from-n.result c.loop-i.i h in
    let f = making-first c.loop-i.invariant h in
    record { q_bound = (omega (arith, e, f.inside), omega (arith, c.from-n.ensures, c.requires.row_bound.2), c.loop-i.invariant.behind, f.at_low); placed = subst (λ (k : ℕ). Placed c.args.table.now (k + 4) c.loop-i.at) (sym e) f.first }

pub loop-i-preserved : goal.loop-i-preserved
loop-i-preserved c =
    let l = part-long c.args.groups.now (c.args.row + 1) c.from-n.result (omega (arith, c.from-n.ensures, c.requires.row_bound.1, c.told-groups)) in
    let h : c.loop-i.i < c.from-n.result = omega (arith, c.loop-i-test.true) in
    making_more c.loop-i.invariant h _ _ _ (c.from.ensures ∙ part_number c.args.groups.now (c.args.row + 1) c.from-n.result c.loop-i.i h) (omega (arith, c.from-n.ensures, c.requires.row_bound.2)) c.set_cell-at.ensures

pub returns : goal.returns
returns c =
    let l = part-long c.args.groups.now (c.args.row + 1) c.from-n.result (omega (arith, c.from-n.ensures, c.requires.row_bound.1, c.told-groups)) in
    subst
    (λ (k : ℕ). CellsMade c.args.table.now c.args.groups.now (c.args.row + 1) k c.args.base c.args.from c.args.cells.now c.loop-i.cells c.loop-i.at)
    c.from-n.ensures (making_done c.loop-i.invariant (omega (arith, c.loop-i-test.false)))
