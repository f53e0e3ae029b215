-- How many symbols the parts of a dossier are written with that have no terms and no predicates in them.
use mathlib.Core.Path.{◌≡◌}
use mathlib.Core.Bool.{Bool, true, false, cond}
use mathlib.Core.List.{List, [], ◌∷◌}
use Prim.Native.Nat.{ℕ, suc, ◌+◌}
use native.Mathlib.Omega.{arith}
use lib.ListN.{length}
use Rattle.lexical.specs.Kinds as kind
use Rattle.form.specs.Tree.{Letters, End, Range, TypeForm, given_type, power_type, range_type, arrow_type, Given, elements}
use Rattle.form.specs.Written.{Written, bare, digits, minus_of, write_end, write_range, write_type, write_elements, write_givens}
use Rattle.form.specs.Codes.{end_width, type_width}
use Rattle.form.specs.Headings.{given_length}

pub end-length : (e : End) (w : List Written) → length (write_end e w) ≡ end_width e + length w
end-length e w = at e.negative
  where
    at : (b : Bool) → length (minus_of b (digits e.magnitude ∷ w)) ≡ cond b 2 1 + length w
    at true = omega arith
    at false = omega arith

pub range_length : (r : Range) (w : List Written) → length (write_range r w) ≡ end_width r.lower + 1 + end_width r.upper + length w
range_length r w = omega (arith, end-length r.lower (bare kind.up_to ∷ write_end r.upper w), end-length r.upper w)

pub type-length : (t : TypeForm) (w : List Written) → length (write_type t w) ≡ type_width t + length w
unfolding write_type type_width
type-length (given_type g) w = omega arith
type-length (power_type g) w = omega arith
type-length (range_type r) w = omega (arith, range_length r w, range_length r [])
type-length (arrow_type a g h) w = omega arith

pub elements-length : (n : ℕ) (es : List Letters) (w : List Written) → length (write_elements n es w) ≡ length es + length w
unfolding write_elements
elements-length n [] w = omega arith
elements-length n (e ∷ es) w = omega (arith, elements-length (suc n) es w)

abbrev pub givens_width : List Given → ℕ
givens_width [] = 0
givens_width (g ∷ gs) = 3 + length (elements g) + givens_width gs

pub givens-length : (n : ℕ) (gs : List Given) (w : List Written) → length (write_givens n gs w) ≡ givens_width gs + length w
unfolding write_givens
givens-length n [] w = omega arith
givens-length n (g ∷ gs) w = omega (arith, elements-length 0 (elements g) (bare kind.END ∷ write_givens (suc n) gs w), givens-length (suc n) gs w)

pub given-length : (g : Given) → given_length g ≡ 3 + length (elements g)
unfolding given_length
given-length g = omega (arith, givens-length 0 (g ∷ []) [])
