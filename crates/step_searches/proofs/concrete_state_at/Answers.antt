-- `step_searches::concrete_state_at` meets its contract: the slots hold the c-th binding, and the test of the concrete state's predicate answers for it. Assumes nothing.
use mathlib.Core.Path.{refl}
use Rattle.step_searches.proofs.ConcreteStates.{bind-grouped, bind-counted, context-asked, context-answers}
use Rattle.step_searches.proofs.concrete_state_at.Goals as goal

pub bind-requires : goal.bind-requires
bind-requires c = record { k_lt_w = c.requires.c_lt_nc; grouped = bind-grouped c.requires.concrete_asked; counts = bind-counted c.requires.concrete_asked }

pub context_holds-requires : goal.context_holds-requires
context_holds-requires c = context-asked c.requires.c_lt_nc refl c.bind.ensures.values c.bind.ensures.others c.requires.concrete_asked

pub returns : goal.returns
returns c = context-answers c.requires.c_lt_nc refl c.bind.ensures.values c.bind.ensures.others c.context_holds.ensures.answers
