-- `reports::put_verdict` meets its contract: the lines of a refuted check, or of an accepted one. Assumes nothing.
use native.Mathlib.Omega.{arith}
use Rattle.lexical.specs.Lists.{bytes}
use Rattle.witnesses.proofs.PartLines.{witness-asked}
use Rattle.reports.proofs.VerdictLaws.{all_asked, all_small, search-asked, count-small, place-asked, told-listed, refuted-added, accepted-added}
use Rattle.reports.proofs.put_verdict.Goals as goal

pub total-all-requires : goal.total-all-requires
total-all-requires c = let k = c.requires.asked in all_asked k.dossier k.arrays k.many

pub search-found-requires : goal.search-found-requires
search-found-requires c =
    let k = c.requires.asked in
    record { from_le_end = (omega arith, omega (arith, all_small k.dossier k.arrays k.many c.total-all.ensures)); search_asked = search-asked k.dossier k.arrays k.many c.total-all.ensures }

pub counted-n-requires : goal.counted-n-requires
counted-n-requires c = let k = c.requires.asked in count-small k.dossier k.arrays k.many c.total-all.ensures c.search-found.ensures

pub find-f-requires : goal.find-f-requires
find-f-requires c = let k = c.requires.asked in place-asked k.dossier k.arrays k.many c.total-all.ensures (rw c.in-Some.is at c.search-found.ensures)

pub put_refuted-requires-clause-listed : goal.put_refuted-requires-clause-listed
put_refuted-requires-clause-listed c = let k = c.requires.asked in told-listed k.dossier k.arrays k.many c.total-all.ensures (rw c.in-Some.is at c.search-found.ensures) c.find-f.ensures c.obligation_of.ensures

pub put_witness-requires : goal.put_witness-requires
put_witness-requires c =
    let k = c.requires.asked in
    record {
      at_in_bounds = omega (arith, c.requires.room, c.put_refuted.ensures.written.short, c.put_refuted.ensures.written.long);
      witness_asked = witness-asked (place-asked k.dossier k.arrays k.many c.total-all.ensures (rw c.in-Some.is at c.search-found.ensures)) c.find-f.ensures;
    }

pub returns : goal.returns
returns c = refuted-added c.requires.asked c.total-all.ensures (rw c.in-Some.is at c.search-found.ensures) c.find-f.ensures c.obligation_of.ensures c.put_refuted.ensures c.put_witness.ensures (omega (arith, rw c.in-Some.is at c.counted-n.ensures)) c.put_count-2.ensures

pub returns-in_default : goal.returns-in_default
unfolding bytes
returns-in_default c = accepted-added c.requires.asked c.total-all.ensures (rw c.in_default.is at c.search-found.ensures) c.put_all.ensures (rw c.in_default.is at c.counted-n.ensures) c.put_count.ensures
