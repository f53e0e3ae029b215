-- `parts::look` meets its contract: what is set up is the k-th part, for every dossier whose reading the arrays are.
use Rattle.parts.proofs.SetupLaws.{blank}
use Rattle.parts.proofs.PartLaws.{ready-asked, part-answers}
use Rattle.parts.proofs.look.Goals as goal

pub set_part-part-requires : goal.set_part-part-requires
set_part-part-requires c = record { look_asked = c.requires.look_asked; blank = blank 9216 }

pub sweep_part-requires : goal.sweep_part-requires
sweep_part-requires c = record { from_le_end = c.requires.from_le_end; part_asked = ready-asked c.set_part-part.ensures c.requires.look_asked }

pub returns : goal.returns
returns c = part-answers c.set_part-part.ensures c.sweep_part.ensures
