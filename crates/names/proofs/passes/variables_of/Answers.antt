-- `passes::variables_of` meets its contract. Assumes nothing.
use lib.Seq.{length-take-le}
use mathlib.Core.Path.{◌∙◌, refl, sym}
use Rattle.std.proofs.lemmas.List.{take_rest}
use Rattle.names.proofs.PassSteps.{no-heading}
use Rattle.names.proofs.WholePass.{variables-short, variables-seen}
use Rattle.names.proofs.passes.variables_of.Goals as goal

pub returns-in_default : goal.returns-in_default
returns-in_default c = variables-short c.args.code.now _ (no-heading c.in_default.ensures.lookup.0)

pub slice_bounds-result-end : goal.slice_bounds-result-end
slice_bounds-result-end c = sym (length-take-le _ _ c.declared_end-e.ensures.within)

pub returns : goal.returns
returns c = variables-seen c.args.code.now _ _ c.declared_end-e.result c.declared_end-e.ensures (c.in-Some.ensures.lookup.0.2 ∙ take_rest c.args.code.now 4) refl
