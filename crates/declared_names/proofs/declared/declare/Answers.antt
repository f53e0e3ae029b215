-- `declared::declare` meets its contract: what is left of the declarations has the first fault of all of them, and makes of the names as they are
-- what all of them make of the names at entry. Assumes nothing.
use mathlib.Core.Path.{refl, sym, ◌∙◌}
use Prim.Native.Nat.{◌*◌, ◌/◌, ◌≤◌, ◌<◌}
use native.Mathlib.Omega.{arith}
use lib.ListN.{length, drop, length-drop}
use Rattle.std.proofs.lemmas.Result.{err_from_is_err_and}
use Rattle.type_rules.specs.TypesByNumber.{fault_key}
use Rattle.type_rules.proofs.FaultOrder.{no-zero}
use Rattle.declared_names.specs.NamesByNumber.{shown, declared_key}
use Rattle.declared_names.proofs.ArraysCut.{array-cut, array-long}
use Rattle.declared_names.proofs.NodePieces.{place, room, ends-on, none-left}
use Rattle.declared_names.proofs.DeclarationNodes.{keyed, showing, of-piece, walked-on, stopped, finished, shown-on, keyed-on, keyed-stop}
use Rattle.declared_names.proofs.declared.declare.Goals as goal

pub returns-in_err-all_well : goal.returns-in_err-all_well
unfolding shown declared_key
returns-in_err-all_well c =
    let code = c.args.code.now in
    let j = c.loop-d.d-index in
    let rest = drop (8 * j) code in
    let below : j < length code / 8 = omega (arith, c.loop-d-test.true, c.as_chunks.ensures.front_len) in
    let cut = array-cut 8 j code _ _ c.as_chunks.ensures.front below in
    let long = array-long 8 j code _ _ c.as_chunks.ensures.front below in
    let e = c.loop-d.invariant.1.0 in
    let p = err_from_is_err_and c.from_residual.result c.from_residual.ensures.1 in
    rw (p.1, p.2) record {
      right = stopped (keyed c.args.sizes.now) code (place code rest) c.args.names.now c.loop-d.names _ c.loop-d.invariant.1.1.0 (room code _ rest _ 8 cut long e)
          (keyed-stop code (place code rest) c.loop-d.names c.loop-d.names c.args.sizes.now _ (of-piece code _ rest _ cut long e (λ x i ρ r q. c.in_err-all_well.ensures ∙ c.declaration_fault.ensures x i ρ r q)) (no-zero _));
      named = λ xs i ρ e q. elim (no-zero _ q) [ ];
    }

pub loop-d-preserved : goal.loop-d-preserved
loop-d-preserved c =
    let code = c.args.code.now in
    let j = c.loop-d.d-index in
    let rest = drop (8 * j) code in
    let below : j < length code / 8 = omega (arith, c.loop-d-test.true, c.as_chunks.ensures.front_len) in
    let cut = array-cut 8 j code _ _ c.as_chunks.ensures.front below in
    let long = array-long 8 j code _ _ c.as_chunks.ensures.front below in
    let e = c.loop-d.invariant.1.0 in
    let reached = of-piece code _ rest _ cut long e c.reach.ensures in
    let faulted = of-piece code _ rest _ cut long e c.declaration_fault.ensures in
    (c.as_chunks.ensures.front, (ends-on code _ rest _ 8 cut long e, (walked-on code _ rest _ cut long e (keyed c.args.sizes.now) c.args.names.now c.loop-d.names _ c.loop-d.invariant.1.1.0 (keyed-on code (place code rest) c.loop-d.names _ c.args.sizes.now (fault_key c.declaration_fault.result) faulted (sym c.in_ok-all_well.ensures) reached), walked-on code _ rest _ cut long e (showing 0) c.args.names.now c.loop-d.names _ c.loop-d.invariant.1.1.1 (shown-on code (place code rest) c.loop-d.names _ 0 reached))))

pub returns : goal.returns
unfolding shown declared_key
returns c =
    let code = c.args.code.now in
    let j = c.loop-d.d-index in
    let rest = drop (8 * j) code in
    let end : length code / 8 ≤ j = omega (arith, c.loop-d-test.false, c.as_chunks.ensures.front_len) in
    let few = none-left code rest 8 _ c.loop-d.invariant.1.0 (omega (arith, end, length-drop (8 * j) code)) refl in
    record {
      right = finished (keyed c.args.sizes.now) code (place code rest) c.args.names.now c.loop-d.names _ c.loop-d.invariant.1.1.0 few (λ j ρ. refl);
      named = λ xs i ρ e q. finished (showing 0) code (place code rest) c.args.names.now c.loop-d.names _ c.loop-d.invariant.1.1.1 few (λ j ρ. refl) xs i ρ e;
    }
