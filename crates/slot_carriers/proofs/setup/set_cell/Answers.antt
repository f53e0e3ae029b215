-- `setup::set_cell` meets its contract: what the node stands for, the cell stands for. Assumes nothing.
use Prim.Native.Nat.{ℕ, ◌+◌, ◌-◌, ◌≤◌}
use mathlib.Core.Path.{◌≡◌, sym, subst, ◌∙◌}
use native.Mathlib.Omega.{arith}
use borrow.Author.Rules.{rules}
use borrow.Rule.Slice.PartMut.{put_mid}
use lib.ListN.{length, take, drop, length-drop}
use lib.Seq.{length-take-le}
use Rattle.slot_carriers.specs.CellGroups.{Others}
use Rattle.slot_carriers.specs.TypeNodes.{Functions}
use Rattle.slot_carriers.proofs.TypeCells.{others-part, functions-part}
use Rattle.slot_carriers.proofs.MadeCells.{list-room, plain-made, listed-made}
use Rattle.slot_carriers.proofs.setup.set_cell.Goals as goal

pub returns-then-t-lt-PARTIAL : goal.returns-then-t-lt-PARTIAL
returns-then-t-lt-PARTIAL c = plain-made c.args.table.now c.args.q c.args.slot c.args.at c.from.result c.from-2.result c.from-3.result c.type_count-n.result c.requires.q_bound.1
    c.from.ensures c.from-2.ensures c.from-3.ensures c.type_count-n.ensures c.args.cells.now c.write_cell.new.cells c.if-t-lt-PARTIAL.true (omega (arith, c.from-3.ensures, c.fits-table c.args.q)) c.write_cell.ensures

pub slice_bounds-set_list-end : goal.slice_bounds-set_list-end
slice_bounds-set_list-end c = omega (
  arith,
  list-room c.args.table.now c.args.q c.args.slot c.args.at c.from.result c.from-2.result c.from-3.result c.type_count-n.result c.requires.q_bound.1
      c.from.ensures c.from-2.ensures c.from-3.ensures c.type_count-n.ensures c.requires.placed c.if-t-lt-PARTIAL.false,
)

pub returns : goal.returns
returns c =
    let n = c.type_count-n.result in
    let cells = c.write_cell-2.new.cells in
    let room =
    list-room c.args.table.now c.args.q c.args.slot c.args.at c.from.result c.from-2.result c.from-3.result n c.requires.q_bound.1
    c.from.ensures c.from-2.ensures c.from-3.ensures c.type_count-n.ensures c.requires.placed c.if-t-lt-PARTIAL.false in
    let size : length cells ≡ 9216 = search rules in
    let cut : length (take (c.args.at + n - c.args.at) (drop c.args.at cells)) ≡ n = length-take-le (c.args.at + n - c.args.at) (drop c.args.at cells) (omega (arith, room, size, length-drop c.args.at cells)) ∙ omega arith in
    let k : c.args.at + n - c.args.at ≡ n = omega arith in
    let long : length c.set_list.new.list ≡ c.args.at + n - c.args.at = omega (arith, c.set_list.ensures.long, cut) in
    let fits : c.args.at + (c.args.at + n - c.args.at) ≤ length cells = omega (arith, room, size) in
    let list = subst (λ (i : ℕ). Functions c.from.result c.from-2.result c.from-3.result 0 i c.set_list.new.list) (cut ∙ sym k) c.set_list.ensures.list in
    let written = put_mid c.args.at (c.args.at + n - c.args.at) cells c.set_list.new.list in
    listed-made c.args.table.now c.args.q c.args.slot c.args.at c.from.result c.from-2.result c.from-3.result n c.requires.q_bound.1
    c.from.ensures c.from-2.ensures c.from-3.ensures c.type_count-n.ensures c.args.cells.now cells written c.if-t-lt-PARTIAL.false c.requires.q_bound.2 room c.write_cell-2.ensures
    (subst (λ (i : ℕ). Functions c.from.result c.from-2.result c.from-3.result c.args.at i written) k (functions-part c.args.at (c.args.at + n - c.args.at) cells c.set_list.new.list long fits c.from.result c.from-2.result c.from-3.result list))
    (subst (λ (i : ℕ). Others 0 cells c.args.at i written) k (others-part c.args.at (c.args.at + n - c.args.at) cells c.set_list.new.list long fits))
