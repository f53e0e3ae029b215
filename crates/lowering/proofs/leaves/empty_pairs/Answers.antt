-- `leaves::empty_pairs` meets its contract. Assumes nothing.
use mathlib.Core.Path.{refl}
use Rattle.lowering.proofs.TableWalkTerms.{term-empty-pairs}
use Rattle.lowering.proofs.leaves.empty_pairs.Goals as goal

pub returns : goal.returns
returns c = λ s W z. term-empty-pairs c.args.code.now c.args.end s c.requires.inside c.requires.far c.args.names.now W z c.args.out.now c.requires.fits _ _ c.from.result c.from-2.result c.entry-g.result c.entry-h.result c.element_of.result c.element_of-2.result c.requires.shape c.from.ensures c.from-2.ensures c.entry-g.ensures c.entry-h.ensures c.element_of.ensures c.element_of-2.ensures c.set_node.ensures c.pair_with.ensures refl
