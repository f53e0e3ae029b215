-- What `scan` promises: its answer, as a refusal by name and place, and what it leaves in the lent arrays.
use Rattle.std.specs.Prelude.{◌≡◌, List, [], ◌∷◌, ◌++◌, map, Bool, true, false, cond, ℕ, suc, ◌≤◌, ltb, length, take, drop, Ok, Err}
use Rattle.std.specs.Prelude as prelude
use Rattle.std.proofs.Math.Option.{Option, none, some}
use Rattle.lexical.specs.Lists.{same}
use Rattle.lexical.specs.Kinds.{code_of}
use Rattle.refusals.specs.Refusals.{Fault, least}
use Rattle.lexical.specs.Symbols.{Class, letter, digit, mark, blank, other, Symbol, fixed, numeral, name, kind_of}
use Rattle.lexical.specs.Symbols.{Placed, scan, symbols, scan_faults, length_faults}
use Rattle.lexical.specs.declared.Class as byteClass
use Rattle.lexical.specs.declared.Class.TheVariants.{Letter, Digit, Mark, Blank, Other}
use Rattle.refusals.specs.declared.Fault as refusals
use Rattle.refusals.specs.RefusalNames.{fault_is}

-- the class that the code's class is
abbrev pub class_is : byteClass.Class → Class
class_is Letter = letter
class_is Digit = digit
class_is Mark = mark
class_is Blank = blank
class_is Other = other

-- the value of a number, 0 of another symbol
abbrev pub number_in : Symbol → ℕ
number_in (fixed k) = 0
number_in (numeral n) = n
number_in (name x) = 0

abbrev pub code_in : Symbol → ℕ
code_in s = code_of (kind_of s)

-- a scan's answer: the count of the symbols, or a fault
abbrev pub Scanned : Type 0
Scanned = prelude.Result ℕ refusals.Fault

-- the refusal that an answer is, by its name and place
abbrev pub fault_of : Scanned → Option Fault
fault_of (Ok n) = none
fault_of (Err f) = some (fault_is f)

-- the symbols that there is room for
abbrev pub taken : List ℕ → List Placed
taken text = take 4096 (symbols (scan text))

-- an array whose first places hold what f says of the symbols, and the others what they held
abbrev pub filled : (Placed → ℕ) → List Placed → List ℕ → List ℕ
filled f l old = map f l ++ drop (length l) old

-- the fault of the first pass that has one: "Passes: 1; 2 and 3"
abbrev pub first_of : Option Fault → Option Fault → Option Fault
first_of none g = g
first_of (some f) g = some f

abbrev pub fault_in : List ℕ → Option Fault
fault_in text = first_of (least (length_faults text)) (least (scan_faults 0 (scan text)))

-- the symbols that are written: none of a text that is too long
abbrev pub written : List ℕ → List Placed
written text = cond (ltb 32768 (length text)) [] (taken text)

-- the letters of a name are these
abbrev pub has_letters : List ℕ → Symbol → Bool
has_letters a (fixed k) = false
has_letters a (numeral n) = false
has_letters a (name x) = same a x.letters

-- the number of the first symbol that is a name with these letters, whatever its ending
unfoldable pub first_named : List ℕ → List Placed → ℕ
first_named a [] = 0
first_named a (x ∷ l) = elim (has_letters a x.symbol) [ true ↦ 0 | false ↦ suc (first_named a l) ]

-- the value of a symbol among those of its text: of a number its value, of a name the number of the first name with its letters, else 0
abbrev pub value_in : List Placed → Symbol → ℕ
value_in l (fixed k) = 0
value_in l (numeral n) = n
value_in l (name x) = first_named x.letters l

-- the values: of a text with a fault the numbers alone
abbrev pub value_at : Scanned → List Placed → Symbol → ℕ
value_at (Ok n) l y = value_in l y
value_at (Err f) l y = number_in y

-- what a scan answers, of any text, and what it leaves in the three arrays
pub record Scans (text codes₀ starts₀ values₀ codes starts values : List ℕ) (r : Scanned) : Type 0 where
  pub answer : fault_of r ≡ fault_in text
  pub counted : (n : ℕ) → r ≡ Ok n → n ≡ length (symbols (scan text))
  pub few : (n : ℕ) → r ≡ Ok n → n ≤ 4096
  pub coded : codes ≡ filled (λ (x : Placed). code_in x.symbol) (written text) codes₀
  pub placed : starts ≡ filled (λ (x : Placed). x.place) (written text) starts₀
  pub valued : values ≡ filled (λ (x : Placed). value_at r (symbols (scan text)) x.symbol) (written text) values₀
