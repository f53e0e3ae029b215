-- `lexical::words::word_of` meets its contract, case by case. Assumes nothing.
use mathlib.Core.Path.{◌≡◌, sym, ap, ◌∙◌}
use Prim.Native.Nat.{ℕ, ◌+◌}
use native.Mathlib.Omega.{arith}
use Rattle.lexical.specs.Kinds.{code_of}
use Rattle.lexical.specs.Symbols.{kind_of_name, ending_length}
use Rattle.lexical.specs.SymbolPromises.{ending_is}
use Rattle.lexical.specs.declared.Ending as ending
use Rattle.lexical.specs.declared.Token.TheVariants.{Listed}
use Rattle.lexical.proofs.WordLaws.{word-plain, word-ended, name-long, name-short, ended}
use Rattle.lexical.proofs.words.word_of.Goals as goal

pub returns-in-Plain : goal.returns-in-Plain
returns-in-Plain c = λ r o l q. word-plain r (ending_is c.args.ending) o l (sym c.in-Some.is ∙ q) (ap ending_is c.in-Plain.is)

pub returns-in-Prime : goal.returns-in-Prime
returns-in-Prime c = λ r o l q. word-ended r (ending_is c.args.ending) o l (sym c.in-Some.is ∙ q) (ended c.in-Prime.is)

pub returns-then-n-gt-NAME_LETTERS : goal.returns-then-n-gt-NAME_LETTERS
returns-then-n-gt-NAME_LETTERS c = λ r o l q. name-long r (ending_is c.args.ending) o l (sym c.in_default.is ∙ q) c.if-n-gt-NAME_LETTERS.true

pub returns-in-Plain-ending : goal.returns-in-Plain-ending
unfolding code_of
returns-in-Plain-ending c = λ r o l q. let z : c.args.n ≡ c.args.n + 0 = omega arith in ap (λ (i : ℕ). Listed 2 i 0) z ∙ ap (λ (x : ending.Ending). Listed (code_of (kind_of_name (ending_is x))) (c.args.n + ending_length (ending_is x)) 0) (sym c.in-Plain-ending.is) ∙ name-short r (ending_is c.args.ending) o l (sym c.in_default.is ∙ q) (omega arith)

pub returns-in-Prime-ending : goal.returns-in-Prime-ending
unfolding code_of
returns-in-Prime-ending c = λ r o l q. ap (λ (x : ending.Ending). Listed (code_of (kind_of_name (ending_is x))) (c.args.n + ending_length (ending_is x)) 0) (sym c.in-Prime-ending.is) ∙ name-short r (ending_is c.args.ending) o l (sym c.in_default.is ∙ q) (omega arith)

pub returns-in-Query : goal.returns-in-Query
unfolding code_of
returns-in-Query c = λ r o l q. ap (λ (x : ending.Ending). Listed (code_of (kind_of_name (ending_is x))) (c.args.n + ending_length (ending_is x)) 0) (sym c.in-Query.is) ∙ name-short r (ending_is c.args.ending) o l (sym c.in_default.is ∙ q) (omega arith)

pub returns-in-Shriek : goal.returns-in-Shriek
unfolding code_of
returns-in-Shriek c = λ r o l q. ap (λ (x : ending.Ending). Listed (code_of (kind_of_name (ending_is x))) (c.args.n + ending_length (ending_is x)) 0) (sym c.in-Shriek.is) ∙ name-short r (ending_is c.args.ending) o l (sym c.in_default.is ∙ q) (omega arith)
