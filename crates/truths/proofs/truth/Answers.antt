-- `truths::truth` meets its contract: what stands in the table gives the truth of the definitions. Assumes nothing.
use Rattle.truths.proofs.TruthLaws.{asked-inside, asked-runs, answered}
use Rattle.truths.proofs.truth.Goals as goal

pub holds-requires : goal.holds-requires
holds-requires c = record { inside = asked-inside c.requires; truth_runs = asked-runs c.requires }

pub returns : goal.returns
returns c = record { answers = answered c.holds.ensures.answers; kept = c.holds.ensures.kept }
