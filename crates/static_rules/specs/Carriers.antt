-- Document 01, "Types": what a declared type stands for once its given sets are known.
use Rattle.std.specs.Prelude.{Bool, true, false, List, ℕ, ◌+◌, ◌*◌, ◌^◌, max, eqb, ℤ, pos, neg_ℤ, ◌-ℤ◌, nat_abs, length}
use Rattle.std.proofs.Math.Option.{Option, none, some}
use Rattle.form.specs.LexicalLists.{same, find}
use Rattle.form.specs.LexicalSymbols.{Name, Ending, no_ending, prime, query, shriek}
use Rattle.form.specs.Tree.{Letters, End, Range, Arrow, relation, partial, total, Given, elements, TypeForm, given_type, power_type, range_type, arrow_type}

-- "A given set; a range a..b; P G; relations; partial functions; total functions"
pub data Carrier : Type 0 where
  elements_of : Given → Carrier
  numbers : (a b : ℤ) → Carrier
  subsets_of : Given → Carrier
  pairs_in : Arrow → Given → Given → Carrier

pub record Variable : Type 0 where
  pub called : Name
  pub carrier : Carrier

abbrev pub size_of : Given → ℕ
size_of g = length (elements g)

-- "ends may carry -"
abbrev pub signed : Bool → ℕ → ℤ
signed true n = neg_ℤ (pos n)
signed false n = pos n

abbrev pub end_value : End → ℤ
end_value e = signed e.negative e.magnitude

abbrev pub range_carrier : Range → Carrier
range_carrier r = numbers (end_value r.lower) (end_value r.upper)

-- how many values a carrier has
unfoldable pub arrow_count : Arrow → (n m : ℕ) → ℕ
arrow_count relation n m = 2 ^ (n * m)
arrow_count partial n m = (m + 1) ^ n
arrow_count total n m = m ^ n

unfoldable pub count_of : Carrier → ℕ
count_of (elements_of g) = size_of g
count_of (numbers a b) = nat_abs (b -ℤ a) + 1
count_of (subsets_of g) = 2 ^ size_of g
count_of (pairs_in a g h) = arrow_count a (size_of g) (size_of h)

-- 13. "a variable its largest absolute value"
unfoldable pub largest : Carrier → ℕ
largest (elements_of g) = 0
largest (numbers a b) = max (nat_abs a) (nat_abs b)
largest (subsets_of g) = 0
largest (pairs_in a g h) = 0

-- two names are one exactly if their letters and endings are equal
abbrev pub ending_code : Ending → ℕ
ending_code no_ending = 0
ending_code prime = 1
ending_code query = 2
ending_code shriek = 3

unfoldable pub same_name : Name → Name → Bool
same_name x y = elim (eqb (ending_code x.ending) (ending_code y.ending)) [ true ↦ same x.letters y.letters | false ↦ false ]

abbrev pub plain : Letters → Name
plain x = record { letters = x; ending = no_ending }

-- the given set of this name
unfoldable pub given_of : List Given → Name → Option Given
given_of gs x = find (λ (g : Given). same_name (plain g.title) x) gs

abbrev pub for_given : (Given → Carrier) → Option Given → Option Carrier
for_given f none = none
for_given f (some g) = some (f g)

abbrev pub for_givens : (Given → Given → Carrier) → Option Given → Option Given → Option Carrier
for_givens f none h = none
for_givens f (some g) none = none
for_givens f (some g) (some h) = some (f g h)

-- the carrier of a type all of whose given sets are known
unfoldable pub carrier_of : List Given → TypeForm → Option Carrier
carrier_of gs (given_type g) = for_given elements_of (given_of gs g)
carrier_of gs (power_type g) = for_given subsets_of (given_of gs g)
carrier_of gs (range_type r) = some (range_carrier r)
carrier_of gs (arrow_type a g h) = for_givens (pairs_in a) (given_of gs g) (given_of gs h)
