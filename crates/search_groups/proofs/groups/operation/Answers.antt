-- `groups::operation` meets its contract. Assumes nothing.
use Prim.Native.Nat.{◌-◌}
use mathlib.Core.Path.{refl, ap, ◌∙◌}
use mathlib.Core.List.{◌++◌}
use native.Mathlib.Omega.{arith}
use lib.ListN.{length, drop, length-append, length-drop}
use lib.Seq.{length-take-le}
use Rattle.std.proofs.lemmas.List.{take_rest}
use Rattle.table_nodes.proofs.Pieces.{part-written}
use Rattle.search_groups.proofs.GroupPlaces.{front-written, operation-put}
use Rattle.search_groups.proofs.groups.operation.Goals as goal

pub returns : goal.returns
returns c =
    let a = c.group.ensures.long in
    let b = c.group-2.ensures.long in
    let t = length-take-le 4 c.args.rows.now (omega arith) in
    let d = length-drop 4 c.args.rows.now in
    let e = length-append c.group.new.row (drop 4 c.args.rows.now) in
    let mid = c.group.new.row ++ drop 4 c.args.rows.now in
    let r = take_rest mid 4 in
    let f = ap length r ∙ length-drop 4 mid in
    operation-put c.operation-o.ensures.first c.operation-o.ensures.last c.group.ensures (front-written 4 c.group.new.row c.args.rows.now (omega arith)) c.group-2.ensures r
    (part-written 4 (length mid - 4) mid c.group-2.new.row c.group-2.new.row refl (omega arith)) (omega arith)
