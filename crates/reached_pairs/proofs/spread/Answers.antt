-- `spread` meets its contract. Assumes nothing.
use mathlib.Core.Path.{refl}
use Rattle.memo.proofs.Memos.{blank_memo}
use Prim.Native.Nat.{◌*◌, ◌≤◌}
use Rattle.step_searches.proofs.LentParts.{lent, returned}
use Rattle.step_searches.specs.StepPromises.{StepsAsked}
use Rattle.reached_pairs.specs.PairPromises.{PairsSpread}
use Rattle.reached_pairs.proofs.SpreadLayers.{operation-spread, pairs-asked, operation-few}
use Rattle.reached_pairs.proofs.spread.Goals as goal

pub prepare-ready-requires : goal.prepare-ready-requires
prepare-ready-requires c = record { prepare_asked = c.requires.prepare_asked; blank = c.blank-made.ensures }

pub invariant_of-s : goal.invariant_of-s
invariant_of-s c = lent StepsAsked c.search.ensures.table c.search.ensures.plan c.search.ensures.cells c.search.ensures.part
    (pairs-asked c.requires.prepare_asked c.requires.pairs_fit c.prepare-ready.ensures).steps

pub spread_pairs-requires : goal.spread_pairs-requires
spread_pairs-requires c = record {
  j_bound = (operation-few c.requires.prepare_asked, c.requires.n_nonzero.0, c.requires.n_nonzero.1);
  room = lent (λ t q x p. p.abstracts.bindings * p.concretes.bindings ≤ 262144) c.search.ensures.table c.search.ensures.plan c.search.ensures.cells c.search.ensures.part
      (pairs-asked c.requires.prepare_asked c.requires.pairs_fit c.prepare-ready.ensures).room;
  memo = blank_memo 8098 refl;
}

pub returns : goal.returns
returns c =
    operation-spread c.prepare-ready.ensures
    (returned (λ t q x p. PairsSpread t q x p c.args.j c.args.n (p.abstracts.bindings * p.concretes.bindings) c.args.marks.now c.spread_pairs.new.marks) c.search.ensures.table c.search.ensures.plan
    c.search.ensures.cells c.search.ensures.part c.spread_pairs.ensures)
