-- Values: a number is itself, an element its place in its given set, a set its bits.
use Rattle.std.specs.Prelude.{Bool, true, false, not, ℕ, eqb, ℤ, pos, negsuc, neg_ℤ, ◌+ℤ◌, ◌-ℤ◌, ◌*ℤ◌}
use Rattle.std.specs.Int.Signed.{le_z, lt_z}
use Rattle.sets.specs.Sets as sets
use Rattle.sets.specs.Division.{floor_div, floor_mod}
use Rattle.static_rules.specs.FormTree.{Prefix, negate, size, dom, ran, Operator, plus, minus, union, without, times, inter, Division, quotient, remainder, Comparison, equals, differs, less, at_most}
use Rattle.static_rules.specs.FormTree.{Membership, is_in, not_in, Connective, and, or, implies, iff}

-- the number, place or bits; and how many elements the given sets have that it is over: an element's or a set's, the first and the second of a set of pairs
pub record Value : Type 0 where
  pub code : ℤ
  pub first : ℕ
  pub second : ℕ

abbrev pub number : ℤ → Value
number z = record { code = z; first = 0; second = 0 }

abbrev pub element : (n i : ℕ) → Value
element n i = record { code = pos i; first = n; second = 0 }

abbrev pub set : (n s : ℕ) → Value
set n s = record { code = pos s; first = n; second = 0 }

abbrev pub pairs : (n m s : ℕ) → Value
pairs n m s = record { code = pos s; first = n; second = m }

-- an element's place, a set's bits
abbrev pub natural : ℤ → ℕ
natural (pos n) = n
natural (negsuc n) = 0

abbrev pub bits : Value → ℕ
bits v = natural v.code

-- a set over the same given sets
abbrev pub with_bits : Value → ℕ → Value
with_bits v s = pairs v.first v.second s

abbrev pub same_integer : ℤ → ℤ → Bool
same_integer (pos a) (pos b) = eqb a b
same_integer (pos a) (negsuc b) = false
same_integer (negsuc a) (pos b) = false
same_integer (negsuc a) (negsuc b) = eqb a b

unfoldable pub prefix_value : Prefix → Value → Value
prefix_value negate v = number (neg_ℤ v.code)
prefix_value size v = number (pos (sets.size (bits v)))
prefix_value dom v = set v.first (sets.dom v.first v.second (bits v))
prefix_value ran v = set v.second (sets.ran v.first v.second (bits v))

unfoldable pub operator_value : Operator → Value → Value → Value
operator_value plus u v = number (u.code +ℤ v.code)
operator_value minus u v = number (u.code -ℤ v.code)
operator_value times u v = number (u.code *ℤ v.code)
operator_value union u v = with_bits u (sets.union (bits u) (bits v))
operator_value without u v = with_bits u (sets.without (bits u) (bits v))
operator_value inter u v = with_bits u (sets.inter (bits u) (bits v))

unfoldable pub division_value : Division → Value → ℤ → Value
division_value quotient v z = number (floor_div v.code z)
division_value remainder v z = number (floor_mod v.code z)

-- {v}, {u |-> v}, and the bit of the pair
unfoldable pub singleton : Value → Value
singleton v = set v.first (sets.single (bits v))

unfoldable pub pair_bit : Value → Value → ℕ
pair_bit u v = sets.pair v.first (bits u) (bits v)

unfoldable pub single_pair : Value → Value → Value
single_pair u v = pairs u.first v.first (sets.single (pair_bit u v))

unfoldable pub compare : Comparison → Value → Value → Bool
compare equals u v = same_integer u.code v.code
compare differs u v = not (same_integer u.code v.code)
compare less u v = lt_z u.code v.code
compare at_most u v = le_z u.code v.code

abbrev pub asked : Membership → Bool → Bool
asked is_in b = b
asked not_in b = not b

-- the manual's connectives (3.7)
unfoldable pub connect : Connective → Bool → Bool → Bool
connect and true b = b
connect and false b = false
connect or true b = true
connect or false b = b
connect implies true b = b
connect implies false b = true
connect iff true b = b
connect iff false b = not b
