-- Document 01, "Refusals that come from the input" and "from the state": each by its name, with the paper's number.
use Rattle.std.specs.Prelude.{Bool, true, false, ◌&&◌, ◌||◌, List, [], ◌∷◌, ℕ, eqb, ltb}
use Rattle.std.proofs.Math.Option.{Option, none, some}

pub data Refusal : Type 0 where
  long_text unlisted_symbol many_symbols no_dossier deep many_declared heading_differs name_in_use name_unknown types_misfit wide_type many_bindings large_size zero_divisor : Refusal
  advance_range short_bytes : Refusal
  nothing_held something_held check_finished no_counterexample : Refusal

unfoldable pub number_of : Refusal → ℕ
number_of long_text = 1
number_of unlisted_symbol = 2
number_of many_symbols = 3
number_of no_dossier = 4
number_of deep = 5
number_of many_declared = 6
number_of heading_differs = 7
number_of name_in_use = 8
number_of name_unknown = 9
number_of types_misfit = 10
number_of wide_type = 11
number_of many_bindings = 12
number_of large_size = 13
number_of zero_divisor = 14
number_of advance_range = 15
number_of short_bytes = 16
number_of nothing_held = 21
number_of something_held = 22
number_of check_finished = 23
number_of no_counterexample = 24

-- "Each returns its number, 1 to 14 also the place"
pub record Fault : Type 0 where
  pub place : ℕ
  pub refusal : Refusal

abbrev pub fault : ℕ → Refusal → Fault
fault p r = record { place = p; refusal = r }

-- "then the least place, then the least number"
unfoldable pub before : Fault → Fault → Bool
before f g = ltb f.place g.place || eqb f.place g.place && ltb (number_of f.refusal) (number_of g.refusal)

unfoldable pub lesser : Fault → Option Fault → Fault
lesser f none = f
lesser f (some g) = elim (before g f) [ true ↦ g | false ↦ f ]

-- the fault of a pass that decides
unfoldable pub least : List Fault → Option Fault
least [] = none
least (f ∷ fs) = some (lesser f (least fs))

-- the fault f, unless all is well
unfoldable pub unless : Bool → Fault → List Fault
unless true f = []
unless false f = f ∷ []
