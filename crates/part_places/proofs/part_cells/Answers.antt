-- `part_places::part_cells` meets its contract: each obligation's part by its number.
use Rattle.parts.proofs.PartNumbers.{part-opens, part-applies, part-corrects}
use Rattle.part_places.proofs.PartsSetUp.{states-asked, applicability-low, correctness-low, operation-asked, opening-set, applicability-set, correctness-set}
use Rattle.part_places.proofs.part_cells.Goals as goal

pub opening-requires : goal.opening-requires
opening-requires c = record { states_asked = states-asked c.requires.part_asked; blank = c.requires.blank }

pub returns-in-Initialisation : goal.returns-in-Initialisation
returns-in-Initialisation c = opening-set (part-opens c.obligation_of.ensures c.in-Initialisation.is) c.opening.ensures.cells_set c.opening.ensures.part_is

pub applicability-requires : goal.applicability-requires
applicability-requires c =
    let l = applicability-low c.requires.part_asked c.in-Applicability.j (part-applies c.obligation_of.ensures c.in-Applicability.j c.in-Applicability.is) in
    record { operation_asked = operation-asked c.requires.part_asked c.in-Applicability.j l; blank = c.requires.blank }

pub returns-in-Applicability : goal.returns-in-Applicability
returns-in-Applicability c = applicability-set c.in-Applicability.j c.applicability.ensures.cells_set (part-applies c.obligation_of.ensures c.in-Applicability.j c.in-Applicability.is) c.applicability.ensures.part_is

pub correctness-requires : goal.correctness-requires
correctness-requires c =
    let l = correctness-low c.requires.part_asked c.in-Correctness.j (part-corrects c.obligation_of.ensures c.in-Correctness.j c.in-Correctness.is) in
    record { operation_asked = operation-asked c.requires.part_asked c.in-Correctness.j l; blank = c.requires.blank }

pub returns-in-Correctness : goal.returns-in-Correctness
returns-in-Correctness c = correctness-set c.in-Correctness.j c.correctness.ensures.cells_set (part-corrects c.obligation_of.ensures c.in-Correctness.j c.in-Correctness.is) c.correctness.ensures.part_is
