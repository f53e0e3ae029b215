-- `groups::operation_rows` meets its contract: what is written, and the operations left, make the whole. Assumes nothing.
use Prim.Native.Nat.{◌+◌, ◌-◌, ◌*◌}
use mathlib.Core.Path.{refl, ap, ◌∙◌}
use native.Mathlib.Omega.{arith}
use lib.ListN.{length, drop, length-drop}
use lib.Seq.{length-take-le}
use Rattle.table_nodes.proofs.Pieces.{patch-length, part-written}
use Rattle.search_groups.proofs.GroupRows.{rows-first, rows_next, rows-done}
use Rattle.search_groups.proofs.groups.operation_rows.Goals as goal

pub loop-k-init : goal.loop-k-init
loop-k-init c = (omega arith, omega arith, λ os ρ i e a f. rows-first _ _ ρ i os _ a f)

pub loop-k-preserved : goal.loop-k-preserved
loop-k-preserved c =
    let at = 18 + 8 * c.loop-k.k in
    let l = c.loop-k.invariant.1 in
    let k = c.loop-k-test.true in
    let m = c.min-k-end.ensures in
    let d = length-drop at c.loop-k.out in
    let t = c.operation.ensures.long ∙ length-take-le (at + 8 - at) (drop at c.loop-k.out) (omega arith) in
    let w = part-written at (at + 8 - at) c.loop-k.out c.operation.new.rows c.operation.new.rows refl t in
    (omega arith, ap length w ∙ patch-length at c.operation.new.rows c.loop-k.out (omega arith) ∙ l, λ os ρ i e a f. rows_next (c.loop-k.invariant.2 os ρ i e a f) c.operation.ensures w (omega arith) (omega arith))

pub returns : goal.returns
returns c = let m = c.min-k-end.ensures in record { long = omega arith; right = λ os ρ i e l a f. rows-done (c.loop-k.invariant.2 os ρ i e a f) (omega arith) }
