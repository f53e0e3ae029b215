-- `symbols::texts::token_at` meets its contract, class by class. Assumes nothing.
use mathlib.Core.Path.{sym, ap, ◌∙◌}
use native.Mathlib.Omega.{arith}
use Rattle.lexical.specs.Promises.{class_is}
use Rattle.lexical.specs.SymbolPromises.{token_of}
use Rattle.name_numbers.proofs.ScanLaws.{class-here}
use Rattle.lexical.specs.Symbols.{by_class}
use Rattle.symbols.proofs.texts.token_at.Goals as goal

pub number_at-requires : goal.number_at-requires
number_at-requires c = (omega arith, sym c.class_of-c.ensures ∙ ap class_is c.in-Digit.is)

pub returns-in-Letter : goal.returns-in-Letter
returns-in-Letter c = c.word_at.ensures ∙ ap token_of (class-here c.args.s.now c.args.at (sym c.class_of-c.ensures ∙ ap class_is c.in-Letter.is))

pub returns-in-Digit : goal.returns-in-Digit
returns-in-Digit c = c.number_at.ensures ∙ ap token_of (class-here c.args.s.now c.args.at (sym c.class_of-c.ensures ∙ ap class_is c.in-Digit.is))

pub returns-in-Mark : goal.returns-in-Mark
unfolding by_class
returns-in-Mark c = c.mark_at.ensures ∙ ap token_of (class-here c.args.s.now c.args.at (sym c.class_of-c.ensures ∙ ap class_is c.in-Mark.is))

pub returns-in-Blank : goal.returns-in-Blank
unfolding by_class
returns-in-Blank c = ap token_of (class-here c.args.s.now c.args.at (sym c.class_of-c.ensures ∙ ap class_is c.in-Blank.is))

pub returns-in-Other : goal.returns-in-Other
unfolding by_class
returns-in-Other c = ap token_of (class-here c.args.s.now c.args.at (sym c.class_of-c.ensures ∙ ap class_is c.in-Other.is))
