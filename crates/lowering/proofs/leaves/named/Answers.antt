-- `leaves::named` meets its contract. Assumes nothing.
use mathlib.Core.Path.{refl}
use Rattle.table_nodes.proofs.TableNumbers.{placed-slot, placed-element}
use Rattle.lowering.proofs.TableWalkTerms.{term-name}
use Rattle.lowering.proofs.leaves.named.Goals as goal

pub returns-then-w-lt-ELEMENTS : goal.returns-then-w-lt-ELEMENTS
returns-then-w-lt-ELEMENTS c = λ s z. term-name c.args.code.now c.args.end s c.requires.inside c.requires.far c.args.names.now c.args.places.now z c.args.out.now c.requires.fits _ _ _ c.from-x.result c.look-w.result c.requires.shape c.from-x.ensures c.look-w.ensures refl (placed-slot c.look-w.result c.if-w-lt-ELEMENTS.true) c.set_node.ensures c.entry-e.ensures refl

pub returns : goal.returns
returns c = λ s z. term-name c.args.code.now c.args.end s c.requires.inside c.requires.far c.args.names.now c.args.places.now z c.args.out.now c.requires.fits _ _ _ c.from-x.result c.look-w.result c.requires.shape c.from-x.ensures c.look-w.ensures refl (placed-element c.look-w.result c.if-w-lt-ELEMENTS.false) c.set_node-2.ensures c.entry-e.ensures refl
