-- `kinds::over_fault` meets its contract. Assumes nothing.
use mathlib.Core.Path.{sym, ◌∙◌}
use Rattle.refusals.specs.Refusals.{number_of}
use Rattle.type_rules.proofs.TypeNumbers.{over-fault, no-first, no-second}
use Rattle.type_rules.proofs.kinds.over_fault.Goals as goal

pub returns-in-Some-Some : goal.returns-in-Some-Some
unfolding number_of
returns-in-Some-Some c = over-fault c.args.sizes.now c.args.k c.args.l c.args.i c.in-Some-Some.g c.in-Some-Some.h c.from.result c.from-in-Some-Some.result _ c.product_fits-fits.result (sym c.given.ensures ∙ c.in-Some-Some.is-0) (sym c.given-2.ensures ∙ c.in-Some-Some.is-1) c.from.ensures c.from-in-Some-Some.ensures c.product_fits-fits.ensures c.unless.ensures

pub returns-in_default : goal.returns-in_default
returns-in_default c = no-second c.args.sizes.now c.args.k c.args.l c.args.i (sym c.given-2.ensures ∙ c.in_default.is-1)

pub returns-in_default-2 : goal.returns-in_default-2
returns-in_default-2 c = no-first c.args.sizes.now c.args.k c.args.l c.args.i (sym c.given.ensures ∙ c.in_default.is-0)
