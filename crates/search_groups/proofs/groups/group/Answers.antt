-- `groups::group` meets its contract. Assumes nothing.
use Prim.Native.Nat.{ℕ, ◌+◌, ◌-◌}
use mathlib.Core.Path.{refl, ap, ◌∙◌}
use native.Mathlib.Omega.{arith}
use borrow.Author.Rules.{rules}
use borrow.Rule.Slice.PartMut.{put_mid}
use lib.ListN.{length, drop, replicate, length-drop, length-replicate}
use lib.Seq.{length-take-le}
use Rattle.std.proofs.lemmas.List.{take_rest}
use Rattle.table_nodes.specs.TableWalkPromises.{patch}
use Rattle.table_nodes.proofs.Pieces.{patch-length, part-written}
use Rattle.search_groups.proofs.GroupPlaces.{group-put}
use Rattle.search_groups.proofs.groups.group.Goals as goal

pub returns : goal.returns
returns c =
    let n : ℕ = 1 + c.picked-c.result in
    let d = ap length (take_rest c.args.row.now 1) ∙ length-drop 1 c.args.row.now in
    let l = c.picked-c.ensures.long in
    let f = c.picked-c.ensures.few in
    let x = part-written 1 (length c.args.row.now - 1) c.args.row.now c.picked-c.new.places c.picked-c.new.places refl (omega arith) in
    let y = ap length x ∙ patch-length 1 c.picked-c.new.places c.args.row.now (omega arith) in
    let row = put_mid 1 (length c.args.row.now - 1) c.args.row.now c.picked-c.new.places in
    let z = c.fill.ensures.after (λ y e. search rules) ∙ ap (λ (k : ℕ). replicate {A = ℕ} k 0) (length-take-le (length row - n) (drop n row) (omega (arith, length-drop n row))) in
    group-put c.picked-c.ensures (take_rest c.args.row.now 1)
    (part-written n (length row - n) row _ (replicate (length row - n) 0) z (length-replicate {A = ℕ} (length row - n) 0) ∙ ap (patch n (replicate (length row - n) 0)) x)
    (omega arith) (omega arith)
