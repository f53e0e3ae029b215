-- `groups::groups` meets its contract. Assumes nothing.
use mathlib.Core.Path.{refl}
use mathlib.Core.List.{◌++◌}
use native.Mathlib.Omega.{arith}
use lib.ListN.{drop, length-append, length-drop}
use lib.Seq.{length-take-le}
use Rattle.table_nodes.proofs.Pieces.{part-written}
use Rattle.search_groups.proofs.GroupPlaces.{front-written}
use Rattle.search_groups.proofs.GroupRows.{grouped}
use Rattle.search_groups.proofs.groups.groups.Goals as goal

pub returns : goal.returns
returns c =
    let a = c.group.ensures.long in
    let b = c.group-2.ensures.long in
    let t = length-take-le 9 c.args.out.now (omega arith) in
    let d = length-drop 9 c.args.out.now in
    let e = length-append c.group.new.row (drop 9 c.args.out.now) in
    let f = length-drop 9 (c.group.new.row ++ drop 9 c.args.out.now) in
    let g = length-take-le 9 (drop 9 (c.group.new.row ++ drop 9 c.args.out.now)) (omega arith) in
    grouped c.span-a.ensures.0 c.span-b.ensures.0 c.span-c.ensures.0 c.span-d.ensures.0 c.group.ensures (front-written 9 c.group.new.row c.args.out.now (omega arith)) c.group-2.ensures
    (part-written 9 9 (c.group.new.row ++ drop 9 c.args.out.now) c.group-2.new.row c.group-2.new.row refl (omega arith)) c.operation_rows.ensures (omega arith)
