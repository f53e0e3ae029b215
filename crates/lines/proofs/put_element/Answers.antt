-- `lines::put_element` meets its contract. Assumes nothing.
use mathlib.Core.Path.{◌∙◌}
use Rattle.lines.proofs.LineLaws.{element-written}
use Rattle.lines.proofs.put_element.Goals as goal

pub returns : goal.returns
returns c =
    element-written c.args.names.now.text.now c.args.names.now.labels.now c.args.g c.args.k (c.from-3.ensures ∙ c.label.ensures) c.from.ensures c.from-2.ensures c.put_letters.ensures
