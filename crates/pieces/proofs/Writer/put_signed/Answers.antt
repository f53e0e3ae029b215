-- `pieces::Writer::put_signed` meets its contract. Assumes nothing.
use mathlib.Core.Path.{◌≡◌, ap, ◌∙◌}
use native.Mathlib.Omega.{arith}
use lib.ListN.{length}
use lib.IntN.{ℤ}
use mir.Syntax.{w64}
use mir.Val.{SFits, of_z, to_z}
use mir.Facts.{to_z-of_z}
use Rattle.std.specs.Fmt as Fmt
use Rattle.obligations.specs.Report.{signed_decimal}
use Rattle.pieces.proofs.WrittenPieces.{piece_is}
use Rattle.pieces.proofs.Signs.{signed-length, signed-printed}
use Rattle.pieces.proofs.Writer.put_signed.Goals as goal

printed : (x : ℤ) → SFits w64 x → Fmt.signed_decimal (to_z w64 (of_z w64 x)) ≡ signed_decimal x
printed x f = ap Fmt.signed_decimal (to_z-of_z f) ∙ signed-printed x f

pub put_number-requires : goal.put_number-requires
put_number-requires c = omega (arith, ap length (printed c.args.x c.ranges.x), signed-length c.args.x c.ranges.x, c.requires)

pub returns : goal.returns
returns c = piece_is (printed c.args.x c.ranges.x) c.put_number.ensures
