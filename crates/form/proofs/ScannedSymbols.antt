-- The symbols of a text are spelled: a fixed symbol is of the kind of a mark or of a reserved word.
use mathlib.Core.Path.{◌≡◌, refl}
use mathlib.Core.Bool.{true}
use mathlib.Core.List.{List, map}
use Prim.Native.Nat.{ℕ}
use Prim.Native.String.{String}
use Rattle.lexical.specs.Lists.{all}
use Rattle.lexical.specs.Kinds.{Kind, code_of, marks, words}
use Rattle.lexical.specs.Symbols.{Symbol, Placed, scan, symbols}
use Rattle.lexical.proofs.FoundSymbols.{scan-has}
use Rattle.form.proofs.Table.{is_fixed, Spelled, AllSpelled}

words-fixed : all (λ (e : String × Kind). is_fixed e.1) words ≡ true
unfolding all code_of
words-fixed = refl

marks-fixed : all (λ (e : String × Kind). is_fixed e.1) marks ≡ true
unfolding all code_of
marks-fixed = refl

-- the symbols alone
abbrev pub text_symbols : List Placed → List Symbol
text_symbols l = map (λ (x : Placed). x.symbol) l

-- every text's symbols are spelled
pub scan-spelled : (text : List ℕ) → AllSpelled (text_symbols (symbols (scan text)))
scan-spelled text = scan-has Spelled is_fixed (λ k h. h) (λ n h. tt) (λ x. tt) words-fixed marks-fixed AllSpelled tt (λ s w h r. (h, r)) text
