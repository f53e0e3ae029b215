-- `kinds::brace_fault` meets its contract. Assumes nothing.
use mathlib.Core.Path.{refl, sym, ◌∙◌}
use Rattle.refusals.specs.Refusals.{number_of}
use Rattle.type_rules.proofs.TypeNumbers.{brace-pairs, brace-other}
use Rattle.type_rules.proofs.kinds.brace_fault.Goals as goal

pub returns-in-Some : goal.returns-in-Some
unfolding number_of
returns-in-Some c = brace-pairs c.args.sizes.now c.args.k c.args.i c.in-Some.g c.in-Some.h c.from.result c.from-in-Some.result c.from-in-Some-2.result _ c.product_fits-fits.result (sym c.pairs.ensures ∙ c.in-Some.is) c.from.ensures c.from-in-Some.ensures c.from-in-Some-2.ensures c.product_fits-fits.ensures c.unless.ensures

pub returns-in-None : goal.returns-in-None
unfolding number_of
returns-in-None c = brace-other c.args.sizes.now c.args.k c.args.i c.from-in-None.result _ (sym c.pairs.ensures ∙ c.in-None.is) c.from-in-None.ensures refl
