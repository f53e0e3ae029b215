-- `leaves::number` meets its contract. Assumes nothing.
use mathlib.Core.Path.{refl}
use Rattle.lowering.proofs.TableWalkTerms.{term-number}
use Rattle.lowering.proofs.leaves.number.Goals as goal

pub returns : goal.returns
returns c = λ s T W z. term-number c.args.code.now c.args.end s c.requires.inside c.requires.far T W z c.args.out.now c.requires.fits _ _ _ c.requires.shape refl c.set_node.ensures refl refl
