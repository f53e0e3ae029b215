-- `begin` meets its contract. Assumes nothing.
use mathlib.Core.Path.{refl}
use native.Mathlib.Omega.{arith}
use Rattle.memo.proofs.Memos.{blank_memo}
use Rattle.step_searches.proofs.LentParts.{lent, returned}
use Rattle.reached_pairs.specs.PairPromises.{OpenPairsAsked, StatesBegun}
use Rattle.reached_pairs.proofs.BegunPairs.{begun-none, begun_all, open-small}
use Rattle.reached_pairs.proofs.begin.Goals as goal

pub prepare_opening-ready-requires : goal.prepare_opening-ready-requires
prepare_opening-ready-requires c = record { open_asked = c.requires.open_asked; blank = c.blank-made.ensures }

pub overflow_mul-pairs : goal.overflow_mul-pairs
overflow_mul-pairs c = omega (arith, open-small (c.prepare_opening-ready.ensures.searches c.requires.open_asked.dossier c.requires.open_asked.reading))

pub returns-then-pairs-gt-PAIRS : goal.returns-then-pairs-gt-PAIRS
returns-then-pairs-gt-PAIRS c = begun-none _

pub begin_all-requires : goal.begin_all-requires
begin_all-requires c = record {
  open_pairs_asked = lent OpenPairsAsked c.search-s.ensures.table c.search-s.ensures.plan c.search-s.ensures.cells c.search-s.ensures.part
      (record {
        opening = record {
          dossier = c.requires.open_asked.dossier;
          searches = c.prepare_opening-ready.ensures.searches c.requires.open_asked.dossier c.requires.open_asked.reading;
        };
        room = omega (arith, c.if-pairs-gt-PAIRS.false);
      });
  memo = blank_memo 8098 refl;
}

pub returns : goal.returns
returns c =
    begun_all c.prepare_opening-ready.ensures (omega (arith, c.if-pairs-gt-PAIRS.false))
    (returned (λ t q x p. StatesBegun t q x p c.args.marks.now c.begin_all.new.marks) c.search-s.ensures.table c.search-s.ensures.plan c.search-s.ensures.cells
    c.search-s.ensures.part c.begin_all.ensures)
