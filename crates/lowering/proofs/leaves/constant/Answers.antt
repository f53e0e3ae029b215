-- `leaves::constant` meets its contract. Assumes nothing.
use mathlib.Core.Path.{refl}
use Rattle.lowering.proofs.TableWalkPreds.{pred_constant}
use Rattle.lowering.proofs.leaves.constant.Goals as goal

pub returns : goal.returns
returns c = λ s T W z. pred_constant c.args.code.now c.args.end s c.requires.inside c.requires.far T W z c.args.out.now c.requires.fits _ _ _ c.truth_of.result c.requires.shape refl c.truth_of.ensures c.set_node.ensures refl refl
