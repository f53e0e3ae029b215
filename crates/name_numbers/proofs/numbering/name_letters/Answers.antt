-- `name_numbers::numbering::name_letters` meets its contract. Assumes nothing.
use lib.ListN.{drop, length-drop, length}
use mathlib.Core.Bool.{cond, Bool}
use mathlib.Core.Path.{sym, ap, ◌∙◌}
use native.Mathlib.Omega.{arith}
use Rattle.lexical.specs.Symbols.{run}
use Rattle.lexical.proofs.WordLaws.{run_length}
use Rattle.name_numbers.proofs.numbering.name_letters.Goals as goal

pub returns-then-is_name : goal.returns-then-is_name
returns-then-is_name c = record { letters = c.run_from.ensures ∙ sym (ap (λ (x : Bool). cond x (length (run (drop c.args.at c.args.s.now))) 0) (sym c.is_name.ensures ∙ c.if-is_name.true)); inside = omega (arith, run_length (drop c.args.at c.args.s.now), length-drop c.args.at c.args.s.now) }

pub returns : goal.returns
returns c = record { letters = sym (ap (λ (x : Bool). cond x (length (run (drop c.args.at c.args.s.now))) 0) (sym c.is_name.ensures ∙ c.if-is_name.false)); inside = omega arith }
