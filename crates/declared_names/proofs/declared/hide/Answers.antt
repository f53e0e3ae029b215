-- `declared::hide` meets its contract: what is left of the declarations makes of the names as they are what all of them make of the names at entry.
-- Assumes nothing.
use lib.ListN.{length, drop, set, length-drop}
use Prim.Native.Nat.{ℕ, ◌+◌, ◌*◌, ◌/◌, ◌≤◌, ◌<◌}
use native.Mathlib.Omega.{arith}
use mathlib.Core.Path.{refl, ap, ◌∙◌}
use Rattle.declared_names.specs.NamesByNumber.{hidden}
use Rattle.declared_names.proofs.ArraysCut.{array-cut, array-long}
use Rattle.declared_names.proofs.NodePieces.{place, ends-on, none-left}
use Rattle.declared_names.proofs.DeclarationNodes.{hiding, of-piece, walked-on, finished, hidden-on, number-in}
use Rattle.declared_names.proofs.declared.hide.Goals as goal

pub loop-d-preserved : goal.loop-d-preserved
loop-d-preserved c =
    let code = c.args.code.now in
    let j = c.loop-d.d-index in
    let rest = drop (8 * j) code in
    let below : j < length code / 8 = omega (arith, c.loop-d-test.true, c.as_chunks.ensures.front_len) in
    let cut = array-cut 8 j code _ _ c.as_chunks.ensures.front below in
    let long = array-long 8 j code _ _ c.as_chunks.ensures.front below in
    let e = c.loop-d.invariant.1.0 in
    (c.as_chunks.ensures.front, (ends-on code _ rest _ 8 cut long e, walked-on code _ rest _ cut long e (hiding c.args.shift c.args.k) c.args.names.now c.loop-d.names _ c.loop-d.invariant.1.1 (hidden-on code (place code rest) c.loop-d.names _ c.args.shift c.args.k c.from.result (of-piece code _ rest _ cut long e (number-in _ c.from.result c.from.ensures)) (c.put.ensures ∙ ap (λ (n : ℕ). set c.loop-d.names (c.from.result + n) c.args.k) c.from-in-loop-d.ensures))))

pub returns : goal.returns
unfolding hidden
returns c =
    let code = c.args.code.now in
    let j = c.loop-d.d-index in
    let rest = drop (8 * j) code in
    let end : length code / 8 ≤ j = omega (arith, c.loop-d-test.false, c.as_chunks.ensures.front_len) in
    let few = none-left code rest 8 _ c.loop-d.invariant.1.0 (omega (arith, end, length-drop (8 * j) code)) refl in
    finished (hiding c.args.shift c.args.k) code (place code rest) c.args.names.now c.loop-d.names _ c.loop-d.invariant.1.1 few (λ j ρ. refl)
