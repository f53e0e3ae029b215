-- `bindings::group` meets its contract: what is left of the declarations multiplies the product so far to that of all of them. Assumes nothing.
use mathlib.Core.Path.{refl}
use Prim.Native.Nat.{◌*◌, ◌/◌, ◌≤◌, ◌<◌}
use native.Mathlib.Omega.{arith}
use lib.ListN.{length, drop, length-drop}
use Rattle.names.proofs.DeclaredNamesArraysCut.{array-cut, array-long}
use Rattle.names.proofs.DeclaredNamesNodePieces.{place, ends-on}
use Rattle.binding_counts.proofs.CappedCounts.{cap-small, counting-start, counting-on, counting-end}
use Rattle.binding_counts.proofs.bindings.group.Goals as goal

pub loop-d-init : goal.loop-d-init
loop-d-init c = let s = counting-start c.args.ending c.args.limit.most c.args.g.now.names.now c.args.g.now.sizes.now c.args.code.now (drop (8 * 0) c.args.code.now) refl in (c.as_chunks.ensures.front, omega arith, s.0, s.1)

pub loop-d-preserved : goal.loop-d-preserved
loop-d-preserved c =
    let code = c.args.code.now in
    let k = c.loop-d.d-index in
    let rest = drop (8 * k) code in
    let below : k < length code / 8 = omega (arith, c.loop-d-test.true, c.as_chunks.ensures.front_len) in
    let cut = array-cut 8 k code _ _ c.as_chunks.ensures.front below in
    let long = array-long 8 k code _ _ c.as_chunks.ensures.front below in
    let e = c.loop-d.invariant.2 in
    (c.as_chunks.ensures.front, omega (arith, c.product-n.ensures, cap-small c.args.limit.most (c.loop-d.n * c.factor.result)), ends-on code _ rest _ 8 cut long e, counting-on c.args.ending c.args.limit.most c.args.g.now.names.now c.args.g.now.sizes.now code _ rest _ c.loop-d.n c.factor.result c.product-n.result cut long e c.factor.ensures c.product-n.ensures c.loop-d.invariant.3)

pub returns : goal.returns
returns c =
    let code = c.args.code.now in
    let many = c.as_chunks.ensures.front_len in
    let end : length code / 8 ≤ c.loop-d.d-index = omega (arith, c.loop-d-test.false, many) in
    let left = length-drop (8 * c.loop-d.d-index) code in
    counting-end c.args.ending c.args.limit.most c.args.g.now.names.now c.args.g.now.sizes.now code (place code (drop (8 * c.loop-d.d-index) code)) c.loop-d.n c.loop-d.invariant.1 (omega (arith, end, left)) c.loop-d.invariant.3
