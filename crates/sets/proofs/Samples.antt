-- Sets of pairs between sets of 2 and 3 elements, and division with each pair of signs.
use mathlib.Core.Path.{◌≡◌, refl}
use mathlib.Core.Bool.{Bool, true, false}
use mathlib.Core.List.{List, [], ◌∷◌}
use Prim.Native.Nat.{ℕ}
use lib.IntN.{ℤ, pos, negsuc}
use Rattle.sets.specs.Sets.{size, union, without, inter, dom, ran, is_partial, is_total}
use Rattle.sets.specs.Division.{floor_div, floor_mod}
use Rattle.sets.specs.Computed.{compute_div}

-- pair (0, 2) is bit 2, pair (1, 0) bit 3
pub sets : List ℕ
sets = size 0b111001 ∷ union 0b0011 0b0110 ∷ without 0b0011 0b0110 ∷ inter 0b0011 0b0110 ∷ dom 2 3 0b001000 ∷ ran 2 3 0b001100 ∷ []

pub sets-are : sets ≡ 4 ∷ 0b0111 ∷ 0b0001 ∷ 0b0010 ∷ 0b10 ∷ 0b101 ∷ []
unfolding sets compute_div
sets-are = refl

pub functions : List Bool
functions = is_partial 2 3 0b001100 ∷ is_partial 2 3 0b000100 ∷ is_partial 2 3 0b000110 ∷ is_total 2 3 0b001100 ∷ is_total 2 3 0b000100 ∷ []

pub functions-are : functions ≡ true ∷ true ∷ false ∷ true ∷ false ∷ []
unfolding functions compute_div
functions-are = refl

-- 7, -7 by 2, -2
pub quotients : List ℤ
quotients = floor_div (pos 7) (pos 2) ∷ floor_div (negsuc 6) (pos 2) ∷ floor_div (pos 7) (negsuc 1) ∷ floor_div (negsuc 6) (negsuc 1) ∷ []

pub quotients-are : quotients ≡ pos 3 ∷ negsuc 3 ∷ negsuc 3 ∷ pos 3 ∷ []
unfolding quotients compute_div
quotients-are = refl

pub remainders : List ℤ
remainders = floor_mod (pos 7) (pos 2) ∷ floor_mod (negsuc 6) (pos 2) ∷ floor_mod (pos 7) (negsuc 1) ∷ floor_mod (negsuc 6) (negsuc 1) ∷ []

pub remainders-are : remainders ≡ pos 1 ∷ pos 1 ∷ negsuc 0 ∷ negsuc 0 ∷ []
unfolding remainders compute_div
remainders-are = refl
