-- `lexical::marks::mark_at` meets its contract: no mark is longer than three bytes. Assumes nothing.
use mathlib.Core.Path.{refl, ap, ◌∙◌}
use Rattle.lexical.specs.SymbolPromises.{token_of}
use Rattle.lexical.proofs.MarkLaws.{bytes-at}
use Rattle.lexical.proofs.marks.mark_at.Goals as goal

pub returns : goal.returns
returns c = c.mark_of.ensures ∙ ap token_of (bytes-at c.args.s.now c.args.at refl c.at_or.ensures c.at_or-2.ensures)
