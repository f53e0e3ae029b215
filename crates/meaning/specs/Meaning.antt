-- What terms and predicates mean, over an environment of names.
use Rattle.std.specs.Prelude.{Bool, true, false, not, ◌&&◌, List, ◌∷◌, map, ℕ, ◌+◌, eqb, ℤ, pos, ◌+ℤ◌, ◌-ℤ◌, nat_abs}
use Rattle.std.proofs.Math.Option.{Option, none, some}
use Rattle.std.specs.Int.Signed.{le_z}
use Rattle.static_rules.specs.LexicalLists.{all, any, count, find, upward}
use Rattle.static_rules.specs.LexicalSymbols.{Name}
use Rattle.static_rules.specs.FormTree.{Letters, Range, Domain, given_set, range, Quantifier, forall, exists, exists1, union}
use Rattle.static_rules.specs.FormTree.{Term, number, name, group, prefix, binary, divided, listed, pairs, such, empty_set, empty_pairs, Items, only, also, Pairs, only_pair, also_pair}
use Rattle.static_rules.specs.FormTree.{Pred, truth, falsity, negation, paren, quantified, connected, compared, member, within, related, Given, elements}
use Rattle.static_rules.specs.Carriers.{size_of, end_value, same_name, plain, given_of}
use Rattle.static_rules.specs.Scope.{element_of, place_in}
use Rattle.sets.specs.Sets as sets
use Rattle.meaning.specs.Values as val
use Rattle.meaning.specs.Values.{Value, bits, prefix_value, operator_value, division_value, singleton, pair_bit, single_pair, compare, asked, connect}

-- "Variables are joined by name.": a binding gives names their values
abbrev pub Binding : Type 0
Binding = List (Name × Value)

pub record Environment : Type 0 where
  pub givens : List Given
  pub values : Binding

abbrev pub element_value : Option Given → Name → Value
element_value none x = val.element 0 0
element_value (some g) x = val.element (size_of g) (place_in (elements g) x)

abbrev pub or_element : Option (Name × Value) → Value → Value
or_element none v = v
or_element (some b) v = b.1

-- the value of a name: bound or a variable's; else an element's
unfoldable pub value_of : Environment → Name → Value
value_of ρ x = or_element (find (λ (b : Name × Value). same_name b.0 x) ρ.values) (element_value (element_of ρ.givens x) x)

-- the environment in which x has the value v
abbrev pub with : Environment → Letters → Value → Environment
with ρ x v = record { givens = ρ.givens; values = (plain x, v) ∷ ρ.values }

abbrev or_none : Option Given → ℕ
or_none none = 0
or_none (some g) = size_of g

-- how many elements the given set of this name has
unfoldable pub size_of_given : Environment → Name → ℕ
size_of_given ρ g = or_none (given_of ρ.givens g)

-- "Elements go as listed, numbers upward"
unfoldable pub element_values : ℕ → List Value
element_values n = map (val.element n) (upward 0 n)

unfoldable pub number_values : (a b : ℤ) → List Value
number_values a b = map (λ (k : ℕ). val.number (a +ℤ pos k)) (upward 0 (nat_abs (b -ℤ a) + 1))

unfoldable pub domain_values : Environment → Domain → List Value
domain_values ρ (given_set g) = element_values (size_of_given ρ g)
domain_values ρ (range r) = number_values (end_value r.lower) (end_value r.upper)

unfoldable pub quantify : Quantifier → (Value → Bool) → List Value → Bool
quantify forall f vs = all f vs
quantify exists f vs = any f vs
quantify exists1 f vs = eqb (count f vs) 1

unfoldable pub in_range : Value → Range → Bool
in_range v r = le_z (end_value r.lower) v.code && le_z v.code (end_value r.upper)

unfoldable pub is_member : Value → Value → Bool
is_member v s = sets.has (bits s) (bits v)

unfoldable pub is_pair_of : Value → Value → Value → Bool
is_pair_of u v s = sets.has (bits s) (pair_bit u v)

unfoldable mutual
  pub value : Term → Environment → Value
  value (number n) ρ = val.number (pos n)
  value (name x) ρ = value_of ρ x
  value (group t) ρ = value t ρ
  value (prefix o t) ρ = prefix_value o (value t ρ)
  value (binary o t u) ρ = operator_value o (value t ρ) (value u ρ)
  value (divided o t e) ρ = division_value o (value t ρ) (end_value e)
  value (listed ts) ρ = items_value ts ρ
  value (pairs ts) ρ = pairs_value ts ρ
  value (such x g p) ρ = let n : ℕ = size_of_given ρ g in val.set n (sets.set_of n (λ k. holds p (with ρ x (val.element n k))))
  value (empty_set g) ρ = val.set (size_of_given ρ g) 0
  value (empty_pairs g h) ρ = val.pairs (size_of_given ρ g) (size_of_given ρ h) 0

  pub items_value : Items → Environment → Value
  items_value (only t) ρ = singleton (value t ρ)
  items_value (also t ts) ρ = operator_value union (singleton (value t ρ)) (items_value ts ρ)

  pub pairs_value : Pairs → Environment → Value
  pairs_value (only_pair t u) ρ = single_pair (value t ρ) (value u ρ)
  pairs_value (also_pair t u ts) ρ = operator_value union (single_pair (value t ρ) (value u ρ)) (pairs_value ts ρ)

  pub holds : Pred → Environment → Bool
  holds truth ρ = true
  holds falsity ρ = false
  holds (negation p) ρ = not (holds p ρ)
  holds (paren p) ρ = holds p ρ
  holds (quantified q x t p) ρ = quantify q (λ (v : Value). holds p (with ρ x v)) (domain_values ρ t)
  holds (connected o p q) ρ = let b : Bool = holds q ρ in connect o (holds p ρ) b
  holds (compared o t u) ρ = compare o (value t ρ) (value u ρ)
  holds (member o t u) ρ = asked o (is_member (value t ρ) (value u ρ))
  holds (within o t r) ρ = asked o (in_range (value t ρ) r)
  holds (related o t u v) ρ = asked o (is_pair_of (value t ρ) (value u ρ) (value v ρ))
