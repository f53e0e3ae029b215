-- What operators do to the codes of values, by the codes of their symbols (lexical/specs/Kinds): a number is itself, an element its place, a set its bits.
-- That these are the operators of meaning/specs/Values is proofs/OperatorsAgree, of ranges proofs/RangesAgree, of prefixes proofs/TypedCodes. Nothing here need be believed.
use Rattle.std.specs.Prelude.{◌≡◌, Bool, true, false, not, ◌&&◌, ◌||◌, ℕ, ◌%◌, ◌<◌, eqb, ltb, ℤ, pos, neg_ℤ, nat_abs, ◌+ℤ◌, ◌-ℤ◌, ◌*ℤ◌}
use Rattle.std.specs.Int.Signed.{le_z, lt_z}
use Rattle.value_types.specs.StaticRulesCarriers.{signed}
use Rattle.sets.specs.Sets as sets
use Rattle.sets.specs.Division.{floor_div, floor_mod}
use Rattle.value_types.specs.MeaningValues.{natural, same_integer}

-- one of two types
abbrev pub pick : Bool → Type 0 → Type 0 → Type 0
pick true A B = A
pick false A B = B

-- a number that number 13 lets through; an element's place or a pair's bit; a set's bits
abbrev pub Small : ℤ → Type 0
Small x = nat_abs x < 2147483648

pub record IsPlace (x : ℤ) : Type 0 where
  pub natural_is : x ≡ pos (natural x)
  pub low : natural x < 16

pub record IsBits (x : ℤ) : Type 0 where
  pub natural_is : x ≡ pos (natural x)
  pub low : natural x < 65536

-- 29 -, 31 #, 63 dom, and ran; the sides of a set of pairs have n and m elements
unfoldable pub prefixed : (code n m : ℕ) → ℤ → ℤ
prefixed code n m x =
    elim (eqb code 29) [
      | true ↦ neg_ℤ x
      | false ↦ elim (eqb code 31) [
        | true ↦ pos (sets.size (natural x))
        | false ↦ elim (eqb code 63) [ true ↦ pos (sets.dom n m (natural x)) | false ↦ pos (sets.ran n m (natural x)) ]
      ]
    ]

unfoldable pub PrefixTakes : (code : ℕ) → ℤ → Type 0
PrefixTakes code x = pick (eqb code 29) (Small x) (IsBits x)

-- how is 1 for a - before the divisor, and 2 more for mod
unfoldable pub divisor : (magnitude how : ℕ) → ℤ
divisor n how = signed (eqb (how % 2) 1) n

unfoldable pub divided : (magnitude how : ℕ) → ℤ → ℤ
divided n how x = elim (ltb how 2) [ true ↦ floor_div x (divisor n how) | false ↦ floor_mod x (divisor n how) ]

-- 28 +, 29 -, 30 *, 58 union, 59 minus, and inter
unfoldable pub operated : (code : ℕ) → (x y : ℤ) → ℤ
operated code x y =
    elim (eqb code 28) [
      | true ↦ x +ℤ y
      | false ↦ elim (eqb code 29) [
        | true ↦ x -ℤ y
        | false ↦ elim (eqb code 30) [
          | true ↦ x *ℤ y
          | false ↦ elim (eqb code 58) [
            | true ↦ pos (sets.union (natural x) (natural y))
            | false ↦ elim (eqb code 59) [
              | true ↦ pos (sets.without (natural x) (natural y))
              | false ↦ pos (sets.inter (natural x) (natural y))
            ]
          ]
        ]
      ]
    ]

unfoldable pub OperatorTakes : (code : ℕ) → (x y : ℤ) → Type 0
OperatorTakes code x y = pick (eqb code 28 || eqb code 29 || eqb code 30) (Small x × Small y) (IsBits x × IsBits y)

-- 22 =, 23 /=, 24 <, and <=
unfoldable pub compared : (code : ℕ) → (x y : ℤ) → Bool
compared code x y =
    elim (eqb code 22) [
      | true ↦ same_integer x y
      | false ↦ elim (eqb code 23) [ true ↦ not (same_integer x y) | false ↦ elim (eqb code 24) [ true ↦ lt_z x y | false ↦ le_z x y ] ]
    ]

-- 51 and, 52 or, 26 =>, and <=>
unfoldable pub connected : (code : ℕ) → (p q : Bool) → Bool
connected code p q =
    elim (eqb code 51) [
      | true ↦ elim p [ true ↦ q | false ↦ false ]
      | false ↦ elim (eqb code 52) [
        | true ↦ elim p [ true ↦ true | false ↦ q ]
        | false ↦ elim (eqb code 26) [ true ↦ elim p [ true ↦ q | false ↦ true ] | false ↦ elim p [ true ↦ q | false ↦ not q ] ]
      ]
    ]

-- a question, or its opposite: in and notin
abbrev pub asked : Bool → Bool → Bool
asked true b = b
asked false b = not b

-- one of the n numbers from low on
unfoldable pub in_range : (low : ℤ) (n : ℕ) → ℤ → Bool
in_range low n x = le_z low x && lt_z x (low +ℤ pos n)
