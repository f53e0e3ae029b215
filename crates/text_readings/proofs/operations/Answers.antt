-- `operations` meets its contract.
use Rattle.text_readings.proofs.operations.Goals as goal

pub returns : goal.returns
returns c = record { exact = λ d ρ l e few short. (c.spans.ensures.exact d ρ l e few short).0 }
