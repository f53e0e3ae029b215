-- `placing::put_parameters` meets its contract: the outputs leave the slots of the inputs. Assumes nothing.
use Rattle.state_facts.proofs.PlacedGroups.{parameters-bound}
use Rattle.state_facts.proofs.placing.put_parameters.Goals as goal

pub bind_below-requires : goal.bind_below-requires
bind_below-requires c = record { group = c.requires.inward; is = c.requires.are.inputs }

pub bind_below-requires-2 : goal.bind_below-requires-2
bind_below-requires-2 c = record { group = c.requires.outward; is = c.requires.are.outputs }

pub returns : goal.returns
returns c = parameters-bound c.requires c.bind_below.ensures.values c.bind_below.ensures.others c.bind_below-2.ensures.values c.bind_below-2.ensures.others
