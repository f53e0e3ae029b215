-- `explanations::failing` meets its contract: the arrays are asked as the search over all places asks them. Assumes nothing.
use native.Mathlib.Omega.{arith}
use Rattle.reports.proofs.VerdictLaws.{all_asked, all_small, search-asked, place-asked}
use Rattle.explanations.proofs.failing.Goals as goal

pub total-all-requires : goal.total-all-requires
total-all-requires c = let k = c.d.invariant in all_asked k.dossier k.reading k.many

pub search-requires : goal.search-requires
search-requires c =
    let k = c.d.invariant in
    record { from_le_end = (omega arith, omega (arith, all_small k.dossier k.reading k.many c.total-all.ensures)); search_asked = search-asked k.dossier k.reading k.many c.total-all.ensures }

pub find-requires : goal.find-requires
find-requires c = let k = c.d.invariant in place-asked k.dossier k.reading k.many c.total-all.ensures (rw c.in_ok-place.was at c.search.ensures)
