-- `ready::set_part` meets its contract: each obligation's part by its number.
use Rattle.parts.proofs.PartNumbers.{part-opens, part-applies, part-corrects}
use Rattle.parts.proofs.SetupLaws.{asked-as, ready-as}
use Rattle.parts.proofs.LookLaws.{opening-ready, applicability-ready, correctness-ready}
use Rattle.parts.proofs.ready.set_part.Goals as goal

pub ready_opening-requires : goal.ready_opening-requires
ready_opening-requires c = record { look_asked = asked-as c.requires.look_asked (part-opens c.obligation_of.ensures c.in-Initialisation.is); blank = c.requires.blank }

pub set_applicability-requires : goal.set_applicability-requires
set_applicability-requires c = record { look_asked = asked-as c.requires.look_asked (part-applies c.obligation_of.ensures c.in-Applicability.j c.in-Applicability.is); blank = c.requires.blank }

pub ready_correctness-requires : goal.ready_correctness-requires
ready_correctness-requires c = record { look_asked = asked-as c.requires.look_asked (part-corrects c.obligation_of.ensures c.in-Correctness.j c.in-Correctness.is); blank = c.requires.blank }

pub returns-in-Initialisation : goal.returns-in-Initialisation
returns-in-Initialisation c = ready-as (opening-ready c.ready_opening.ensures) (part-opens c.obligation_of.ensures c.in-Initialisation.is)

pub returns-in-Applicability : goal.returns-in-Applicability
returns-in-Applicability c = ready-as (applicability-ready c.set_applicability.ensures) (part-applies c.obligation_of.ensures c.in-Applicability.j c.in-Applicability.is)

pub returns-in-Correctness : goal.returns-in-Correctness
returns-in-Correctness c = ready-as (correctness-ready c.ready_correctness.ensures) (part-corrects c.obligation_of.ensures c.in-Correctness.j c.in-Correctness.is)
