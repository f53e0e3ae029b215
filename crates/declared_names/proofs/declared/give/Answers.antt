-- `declared::give` meets its contract: what is left has the first fault of all given sets, and makes of the names as they are what all of them make of
-- the names at entry; the sets that have ended have their sizes. Assumes nothing.
use lib.ListN.{length, drop, set, length-map, length-drop}
use Prim.Native.Nat.{ℕ, ◌*◌, ◌/◌, ◌≤◌, ◌<◌}
use mathlib.Core.Path.{refl, ap, sym, ◌∙◌, subst}
use native.Mathlib.Omega.{arith}
use Rattle.std.proofs.lemmas.Result.{err_from_is_err_and}
use Rattle.type_rules.specs.TypesByNumber.{fault_key}
use Rattle.type_rules.proofs.FaultOrder.{no-zero}
use Rattle.declared_names.specs.PassPromises.{GivenFaulted}
use Rattle.declared_names.proofs.ArraysCut.{array-cut, array-long}
use Rattle.declared_names.proofs.NodePieces.{place, place-on, piece-at, room, ends-on, none-left}
use Rattle.declared_names.proofs.GivenSetNodes.{GivenOn, given-begin, given-on, halt, ended, counted-at, faulted-at, kind-at, sized-at}
use Rattle.declared_names.proofs.declared.give.Goals as goal

pub loop-n-init : goal.loop-n-init
loop-n-init c = (c.as_chunks.ensures.front, given-begin c.args.code.now c.args.names.now c.args.sizes.now)

pub returns-in_err-all_well : goal.returns-in_err-all_well
returns-in_err-all_well c =
    let code = c.args.code.now in
    let j = c.loop-n.n-index in
    let rest = drop (4 * j) code in
    let below : j < length code / 4 = omega (arith, c.loop-n-test.true, c.as_chunks.ensures.front_len) in
    let cut = array-cut 4 j code _ _ c.as_chunks.ensures.front below in
    let long = array-long 4 j code _ _ c.as_chunks.ensures.front below in
    let e = c.loop-n.invariant.1.0 in
    let same = piece-at code _ rest _ 4 cut long e in
    let p = err_from_is_err_and c.from_residual.result c.from_residual.ensures.1 in
    rw (p.1, p.2) record {
      right = λ gs i ρ q few.
          halt code (place code rest) c.loop-n.g c.loop-n.names c.loop-n.sizes ρ _ _ _ _ (room code _ rest _ 4 cut long e)
          (subst (GivenFaulted code (place code rest) c.loop-n.names) (sym c.in_err-all_well.ensures) (faulted-at _ code (place code rest) same c.loop-n.names _ c.given_fault.ensures)) (no-zero _) (c.loop-n.invariant.1.1 gs i ρ q few);
      named = λ gs i ρ e few q. elim (no-zero _ q) [ ];
      sized = λ gs i ρ e few q. elim (no-zero _ q) [ ];
    }

pub loop-n-preserved : goal.loop-n-preserved
loop-n-preserved c =
    let code = c.args.code.now in
    let j = c.loop-n.n-index in
    let rest = drop (4 * j) code in
    let at = place code rest in
    let below : j < length code / 4 = omega (arith, c.loop-n-test.true, c.as_chunks.ensures.front_len) in
    let cut = array-cut 4 j code _ _ c.as_chunks.ensures.front below in
    let long = array-long 4 j code _ _ c.as_chunks.ensures.front below in
    let e = c.loop-n.invariant.1.0 in
    let same = piece-at code _ rest _ 4 cut long e in
    let g = c.counted-g.result in
    let k = c.given_kind-k.result in
    let on = given-on code at c.loop-n.g g c.args.names.now c.loop-n.names _ c.loop-n.sizes _ k (fault_key c.given_fault.result) (room code _ rest _ 4 cut long e) (rw c.loop-n.auto.sizes c.requires) (counted-at _ code at same c.loop-n.g g c.counted-g.ensures) (kind-at _ code at same g k c.given_kind-k.ensures) (sized-at _ code at same g c.loop-n.sizes _ c.count_given.ensures) (c.put.ensures ∙ ap (λ (m : ℕ). set c.loop-n.names m k) (c.from.ensures ∙ same 1 (omega arith))) (faulted-at _ code at same c.loop-n.names (fault_key c.given_fault.result) c.given_fault.ensures) (sym c.in_ok-all_well.ensures) c.loop-n.invariant.1.1 in
    (c.as_chunks.ensures.front, (ends-on code _ rest _ 4 cut long e, subst (λ (m : ℕ). GivenOn code m g c.args.names.now c.put.new.table c.count_given.new.sizes) (place-on code _ rest _ 4 cut long e) on))

pub returns : goal.returns
returns c =
    let code = c.args.code.now in
    let j = c.loop-n.n-index in
    let rest = drop (4 * j) code in
    let end : length code / 4 ≤ j = omega (arith, c.loop-n-test.false, c.as_chunks.ensures.front_len) in
    let last = none-left code rest 4 _ c.loop-n.invariant.1.0 (omega (arith, end, length-drop (4 * j) code)) refl in
    record {
      right = λ gs i ρ e few. (ended code (place code rest) c.loop-n.g c.loop-n.names c.loop-n.sizes ρ _ _ _ last (c.loop-n.invariant.1.1 gs i ρ e few)).faultless;
      named = λ gs i ρ e few q. (ended code (place code rest) c.loop-n.g c.loop-n.names c.loop-n.sizes ρ _ _ _ last (c.loop-n.invariant.1.1 gs i ρ e few)).all_named;
      sized = λ gs i ρ e few q k h. (ended code (place code rest) c.loop-n.g c.loop-n.names c.loop-n.sizes ρ _ _ _ last (c.loop-n.invariant.1.1 gs i ρ e few)).all_sized k (rw length-map h);
    }
