-- `explanations::explain` meets its contract: what was read is asked as the explanation asks it. Assumes nothing.
use mathlib.Core.Path.{sym, ap, ◌∙◌}
use Rattle.std.specs.Prelude.{Ok}
use Rattle.text_readings.proofs.LentArrays.{reads_lent}
use Rattle.text_readings.proofs.ReadTexts.{text-held}
use Rattle.explanations.proofs.explain.Goals as goal

pub invariant_of-dossier : goal.invariant_of-dossier
invariant_of-dossier c =
    let h = text-held (reads_lent c.dossier-arrays.ensures c.read-answer.ensures) (c.in-Ok.is ∙ ap Ok (sym c.dossier-arrays.ensures.operations_are)) in
    record { dossier = h.dossier; reading = h.held.arrays; many = h.many }
