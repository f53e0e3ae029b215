-- `pieces::Writer::put_all` meets its contract. Assumes nothing.
use mathlib.Core.Path.{refl}
use native.Mathlib.Omega.{arith}
use Rattle.pieces.proofs.WrittenPieces.{text-written}
use Rattle.pieces.proofs.Writer.put_all.Goals as goal

pub returns : goal.returns
returns c = record { same_bytes = refl; written = text-written _ _ _ _ _ _ (omega arith) c.copy_from_slice.ensures.after refl c.requires }
