-- `leaves::empty_set` meets its contract. Assumes nothing.
use mathlib.Core.Path.{refl}
use Rattle.lowering.proofs.TableWalkTerms.{term-empty}
use Rattle.lowering.proofs.leaves.empty_set.Goals as goal

pub returns : goal.returns
returns c = λ s W z. term-empty c.args.code.now c.args.end s c.requires.inside c.requires.far c.args.names.now W z c.args.out.now c.requires.fits _ _ c.from.result c.entry-e.result c.element_of.result c.requires.shape c.from.ensures c.entry-e.ensures c.element_of.ensures c.set_node.ensures c.set_of.ensures refl
