-- The letters that occur in a text; what the names and numbers of its symbols are like.
use Rattle.std.specs.Prelude.{◌≡◌, List, [], ◌∷◌, ℕ, ◌≤◌, get_or}
use Rattle.lexical.specs.Kinds as kind
use Rattle.lexical.specs.Symbols.{Name, Symbol, fixed, numeral, name}
use Rattle.form.specs.Tree.{Letters}
use Rattle.parser.specs.Promises.{text_symbols}

-- some symbol of the text is a name with the letters x
pub record Occurs (text : List ℕ) (x : Letters) : Type 0 where
  pub at : ℕ
  pub called : Name
  pub stands : get_or (text_symbols text) at (fixed kind.END) ≡ name called
  pub spelt : called.letters ≡ x

-- names have letters of P, and numbers are at most 1,000
abbrev pub Fits : (Letters → Type 0) → Symbol → Type 0
Fits P (fixed k) = Unit {0}
Fits P (numeral n) = n ≤ 1000
Fits P (name x) = P x.letters

pub data AllFit (P : Letters → Type 0) : List Symbol → Type 0 where
  none_fit : AllFit P []
  one_fits : {s : Symbol} {w : List Symbol} → Fits P s → AllFit P w → AllFit P (s ∷ w)
