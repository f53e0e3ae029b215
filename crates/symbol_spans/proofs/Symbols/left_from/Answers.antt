-- `symbol_spans::Symbols::left_from` meets its contract. The answer is written so that an edit of the place is refused by it. Assumes nothing.
use native.Mathlib.Omega.{arith}
use Rattle.symbol_spans.proofs.Symbols.left_from.Goals as goal

pub returns : goal.returns
returns c = omega arith
