-- Short texts and their symbols: the longest match, endings, names of 16 and 17, leading zeros, reserved words, values.
use mathlib.Core.Path.{◌≡◌, refl}
use mathlib.Core.Bool.{Bool, true}
use mathlib.Core.List.{List, [], ◌∷◌, map}
use Prim.Native.Nat.{ℕ}
use Prim.Native.String.{String}
use Rattle.lexical.specs.Lists.{bytes, same, begins, all, any}
use Rattle.lexical.specs.Kinds.{Kind, number, plain, primed, input, output, up_to, less, at_most, iff, minus, total, relation, maplet, implies, IN, EXISTS, EXISTS1, code_of}
use Rattle.refusals.specs.Refusals.{Fault}
use Rattle.lexical.specs.Symbols.{Placed, kind_of, scan, scan_from, symbols, scan_faults, symbol_at, by_class, longest, word_of, ending_of, reserved, number_found, is_number, decimal_from, run, class_of, between}
use Rattle.lexical.specs.Promises.{value_in, first_named}

-- the kinds of a text's symbols, or the place of what is not listed
pub data Sample : Type 0 where
  kinds : String → List Kind → Sample
  unlisted : String → (place : ℕ) → Sample
  values : String → List ℕ → Sample

abbrev kinds_of : String → List ℕ
kinds_of t = map (λ (x : Placed). code_of (kind_of x.symbol)) (symbols (scan (bytes t)))

abbrev values_of : List Placed → List ℕ
values_of l = map (λ (x : Placed). value_in l x.symbol) l

abbrev places : List Fault → List ℕ
places fs = map (λ (f : Fault). f.place) fs

pub samples : List Sample
samples =
    kinds "<-1 <--> <->" (less ∷ minus ∷ number ∷ less ∷ total ∷ relation ∷ [])
    ∷ kinds "k'k x? y! 0..1000" (primed ∷ plain ∷ input ∷ output ∷ number ∷ up_to ∷ number ∷ [])
    ∷ kinds "a<=>b=>c|->d<=e" (plain ∷ iff ∷ plain ∷ implies ∷ plain ∷ maplet ∷ plain ∷ at_most ∷ plain ∷ [])
    ∷ kinds "exists exists1 exists2 in In" (EXISTS ∷ EXISTS1 ∷ plain ∷ IN ∷ plain ∷ [])
    ∷ kinds "abcdefghijklmnop' abcdefghijklmnop" (primed ∷ plain ∷ [])
    ∷ unlisted "k abcdefghijklmnopq" 2
    ∷ unlisted "x and' y" 2
    ∷ unlisted "01" 0
    ∷ unlisted "1001" 0
    ∷ unlisted "1a" 0
    ∷ unlisted "x''" 2
    ∷ unlisted "..." 2
    ∷ unlisted "a > b" 2
    ∷ values "x y x' 5 in y! 0 z x? abcdefghijklmnop abcdefghijklmno" (0 ∷ 1 ∷ 0 ∷ 5 ∷ 0 ∷ 1 ∷ 0 ∷ 7 ∷ 0 ∷ 9 ∷ 10 ∷ [])
    ∷ []

pub passes : Sample → Bool
passes (kinds t ks) = same (kinds_of t) (map code_of ks)
passes (values t vs) = same (values_of (symbols (scan (bytes t)))) vs
passes (unlisted t p) = same (places (scan_faults 0 (scan (bytes t)))) (p ∷ [])

pub all_pass : all passes samples ≡ true
unfolding first_named samples passes bytes same begins all any code_of scan scan_from symbols scan_faults symbol_at by_class longest word_of ending_of reserved number_found is_number decimal_from run class_of between
all_pass = refl
