-- `pieces::Writer::put_decimal` meets its contract. Assumes nothing.
use mathlib.Core.Path.{ap}
use native.Mathlib.Omega.{arith}
use lib.ListN.{length}
use Rattle.pieces.proofs.WrittenPieces.{piece_is}
use Rattle.pieces.proofs.Digits.{decimal-length, decimal-printed}
use Rattle.pieces.proofs.Writer.put_decimal.Goals as goal

pub put_number-requires : goal.put_number-requires
put_number-requires c = omega (arith, ap length (decimal-printed c.args.n c.ranges.n.fits), decimal-length c.args.n c.ranges.n.fits, c.requires)

pub returns : goal.returns
returns c = piece_is (decimal-printed c.args.n c.ranges.n.fits) c.put_number.ensures
