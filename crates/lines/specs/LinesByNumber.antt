-- The lines of a witness by labels and values in slots. That they are the lines of document 01 is proofs/LabelledLines. Nothing here need be believed.
use Rattle.std.specs.Prelude.{List, [], ◌∷◌, ◌++◌, map, cond, ℕ, zero, suc, ◌+◌, ◌*◌, ◌/◌, ◌%◌, eqb, ℤ, pos, get_or, Option, Some, None}
use Rattle.std.specs.Int.NonZero.{non_zero_u16_get}
use Rattle.std.specs.declared.num.NonZeroU16.{NonZeroU16}
use Rattle.lexical.specs.Lists.{bytes}
use Rattle.lexical.specs.Symbols.{Ending, no_ending, prime, query, shriek}
use Rattle.sets.specs.Sets.{members}
use Rattle.meaning.specs.Values.{natural}
use Rattle.obligations.specs.Report.{signed_decimal, braced}
use Rattle.labels.specs.Labels.{label_of}
use Rattle.pieces.specs.PiecePromises.{letters_at}

-- the ending of a name as a byte, 0 where there is none
abbrev pub ending_byte : Ending → ℕ
ending_byte no_ending = 0
ending_byte prime = 39
ending_byte query = 63
ending_byte shriek = 33

-- how many elements the second of two given sets has, 0 of one
abbrev pub size_of : Option NonZeroU16 → ℕ
size_of None = 0
size_of (Some m) = non_zero_u16_get m

-- one byte or none
abbrev pub byte_piece : Option ℕ → List ℕ
byte_piece None = []
byte_piece (Some b) = b ∷ []

module _ (text labels : List ℕ) where
  -- element k of the given set g
  unfoldable pub element_piece : (g k : ℕ) → List ℕ
  element_piece g k = letters_at text (get_or labels (8 * g + k) 0)

  -- pair k of two given sets, the second of which has m elements
  unfoldable pub pair_piece : (sides m k : ℕ) → List ℕ
  pair_piece n m k = element_piece (n / 8) (k / m) ++ (bytes " |-> " ++ element_piece (n % 8) (k % m))

  -- a member of a set: a pair where m is not 0
  unfoldable pub member_piece : (sides m k : ℕ) → List ℕ
  member_piece n m k = cond (eqb m 0) (element_piece n k) (pair_piece n m k)

  unfoldable pub value_piece : (shape sides m : ℕ) → ℤ → List ℕ
  value_piece s n m x =
      cond (eqb s 1) (element_piece n (natural x))
      (cond (eqb s 2) (signed_decimal x)
      (cond (eqb s 3) (braced (map (member_piece n 0) (members (natural x)))) (braced (map (member_piece n m) (members (natural x))))))

  -- the ending of a name as a byte, 0 where there is none
  abbrev pub ending_piece : ℕ → List ℕ
  ending_piece e = cond (eqb e 0) [] (e ∷ [])

  -- the line of the variable at the place i of the groups
  unfoldable pub line_piece : (i ending : ℕ) → ℤ → List ℕ
  line_piece i e x =
      letters_at text (label_of labels i 0)
      ++ (ending_piece e ++ (bytes " = " ++ (value_piece (label_of labels i 1) (label_of labels i 2) (label_of labels i 3) x ++ bytes "\n")))

  -- the lines of n variables, with values in the slots from s on
  unfoldable pub group_piece : (i n s ending : ℕ) → List ℤ → List ℕ
  group_piece i zero s e σ = []
  group_piece i (suc n) s e σ = line_piece i e (get_or σ s (pos 0)) ++ group_piece (suc i) n (suc s) e σ
