-- `nest_steps::bind_inputs` meets its contract: the arrays then show the point with that binding. Assumes nothing.
use mathlib.Core.Path.{ap, ◌∙◌}
use Rattle.points.specs.Points.{span}
use Rattle.points.proofs.PointBindings.{span-counts}
use Rattle.nest_steps.proofs.ReadyInputs.{bound-inputs}
use Rattle.nest_steps.proofs.bind_inputs.Goals as goal

pub bind-requires : goal.bind-requires
bind-requires c =
    let z = c.requires.input_asked.asked.nest.sized in
    record { k_lt_w = c.requires.i_lt_ni; grouped = z.grouped; counts = span-counts _ _ _ _ (z.inputs.counted ∙ ap (span _) z.inputs_are) }

pub returns : goal.returns
returns c = λ table plan. bound-inputs c.requires.i_lt_ni c.bind.ensures.values c.bind.ensures.others
