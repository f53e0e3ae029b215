-- `witnesses::operation_row` meets its contract.
use native.Mathlib.Omega.{arith}
use Rattle.part_places.proofs.PartsPartNumbers.{part-opens}
use Rattle.witnesses.proofs.PartLines.{operation-of}
use Rattle.witnesses.proofs.operation_row.Goals as goal

pub overflow_mul-result : goal.overflow_mul-result
overflow_mul-result c = omega (arith, c.requires, operation-of c.obligation_of.ensures c.in-Applicability.j c.in-Applicability.is)

pub returns-in-Initialisation : goal.returns-in-Initialisation
returns-in-Initialisation c = let e = part-opens c.obligation_of.ensures c.in-Initialisation.is in (omega (arith, e), omega arith)

pub returns-in-Applicability : goal.returns-in-Applicability
returns-in-Applicability c =
    let e = operation-of c.obligation_of.ensures c.in-Applicability.j c.in-Applicability.is in
    (omega (arith, e), omega (arith, e, c.requires))
