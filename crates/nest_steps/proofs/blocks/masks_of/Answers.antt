-- `blocks::masks_of` meets its contract. Assumes nothing.
use native.Mathlib.Omega.{arith}
use Rattle.nest_steps.proofs.IdleGroups.{few-abstracts, few-concretes, plan-asked, masks-found}
use Rattle.nest_steps.proofs.blocks.masks_of.Goals as goal

pub idle_of-pairs-requires : goal.idle_of-pairs-requires
idle_of-pairs-requires c = record { m_bound = omega (arith, few-abstracts c.requires.nest); plan_asked = plan-asked c.requires.nest }

pub idle_of-wholes-requires : goal.idle_of-wholes-requires
idle_of-wholes-requires c = record { m_bound = omega (arith, few-abstracts c.requires.nest); plan_asked = plan-asked c.requires.nest }

pub idle_of-concretes-requires : goal.idle_of-concretes-requires
idle_of-concretes-requires c = record { m_bound = omega (arith, few-concretes c.requires.nest); plan_asked = plan-asked c.requires.nest }

pub returns : goal.returns
returns c = masks-found c.idle_of-pairs.ensures c.idle_of-wholes.ensures c.idle_of-concretes.ensures
