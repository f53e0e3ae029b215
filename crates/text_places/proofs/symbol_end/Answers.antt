-- `text_places::symbol_end` meets its contract: a run ends behind its first byte. The answer is written so that an edit of that end is refused by it. Assumes nothing.
use native.Mathlib.Omega.{arith}
use Rattle.text_places.proofs.symbol_end.Goals as goal

pub returns-then-eq : goal.returns-then-eq
returns-then-eq c = omega (arith, c.saturating_add-end.ensures)
