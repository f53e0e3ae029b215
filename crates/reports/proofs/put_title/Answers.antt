-- `reports::put_title` meets its contract. Assumes nothing.
use mathlib.Core.Path.{ap, ◌∙◌}
use Rattle.pieces.specs.PiecePromises.{letters_at}
use Rattle.pieces.proofs.WrittenPieces.{piece_is}
use Rattle.reports.proofs.put_title.Goals as goal

pub returns : goal.returns
returns c = piece_is (ap (letters_at c.args.names.now.text.now) (c.from.ensures ∙ c.label.ensures)) c.put_letters.ensures
