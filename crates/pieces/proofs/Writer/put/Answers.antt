-- `pieces::Writer::put` meets its contract. Assumes nothing.
use mathlib.Core.Path.{refl}
use Rattle.pieces.proofs.WrittenPieces.{byte-written}
use Rattle.pieces.proofs.Writer.put.Goals as goal

pub returns : goal.returns
returns c = record { same_bytes = refl; written = byte-written _ _ _ c.requires }
