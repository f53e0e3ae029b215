-- The operators by number are those of the definitions, one equation for each kind of operator. Assumes nothing.
use mathlib.Core.Path.{◌≡◌, refl, ap}
use mathlib.Core.Bool.{Bool, true, false, not}
use mathlib.Core.List.{map}
use Prim.Native.Nat.{ℕ, zero, suc, ◌+◌}
use native.Mathlib.Omega.{arith}
use lib.Dec.{eqb}
use lib.IntN.{ℤ}
use Rattle.lexical.specs.Kinds.{code_of}
use Rattle.lexical.specs.Lists.{all, any, count, upward}
use Rattle.table_places.specs.FormTree.{End, Operator, plus, minus, union, without, times, inter, Division, quotient, remainder, Comparison, equals, differs, less, at_most}
use Rattle.table_places.specs.FormTree.{Membership, is_in, not_in, Connective, and, or, implies, iff, Quantifier, forall, exists, exists1}
use Rattle.table_places.specs.FormWritten.{operator_kind, connective_kind, quantifier_kind, comparison_kind, membership_kind}
use Rattle.table_places.specs.FormCodes.{sign_of, division_number}
use Rattle.value_types.specs.StaticRulesCarriers.{end_value}
use Rattle.sets.specs.Sets as sets
use Rattle.value_types.specs.MeaningValues as val
use Rattle.value_types.specs.MeaningValues.{Value, operator_value, division_value, compare, connect}
use Rattle.value_types.specs.MeaningMeaning.{quantify}
use Rattle.table_places.specs.TableNodesTableByNumber.{related_shape}
use Rattle.evaluation.specs.OperatorsByNumber.{divided, divisor, operated, compared, connected, asked}
use Rattle.evaluation.specs.EvaluationByNumber.{quantified}

pub operators-agree : (o : Operator) (u v : Value) → (operator_value o u v).code ≡ operated (code_of (operator_kind o)) u.code v.code
unfolding operator_value operated code_of
operators-agree plus u v = refl
operators-agree minus u v = refl
operators-agree union u v = refl
operators-agree without u v = refl
operators-agree times u v = refl
operators-agree inter u v = refl

divisors : (o : Division) (b : Bool) (m : ℕ) (x : ℤ) → (division_value o (val.number x) (end_value (record { negative = b; magnitude = m }))).code ≡ divided m (sign_of b + division_number o) x
unfolding division_value divided divisor
divisors quotient true m x = refl
divisors quotient false m x = refl
divisors remainder true m x = refl
divisors remainder false m x = refl

division-code : (o : Division) (v : Value) (z : ℤ) → (division_value o v z).code ≡ (division_value o (val.number v.code) z).code
unfolding division_value
division-code quotient v z = refl
division-code remainder v z = refl

pub divisions_agree : (o : Division) (v : Value) (e : End) → (division_value o v (end_value e)).code ≡ divided e.magnitude (sign_of e.negative + division_number o) v.code
divisions_agree o v e = rw (division-code o v (end_value e)) (divisors o e.negative e.magnitude v.code)

pub comparisons_agree : (o : Comparison) (u v : Value) → compare o u v ≡ compared (code_of (comparison_kind o)) u.code v.code
unfolding compare compared code_of
comparisons_agree equals u v = refl
comparisons_agree differs u v = refl
comparisons_agree less u v = refl
comparisons_agree at_most u v = refl

pub connectives-agree : (o : Connective) (p q : Bool) → connect o p q ≡ connected (code_of (connective_kind o)) p q
unfolding connect connected code_of
connectives-agree and true q = refl
connectives-agree and false q = refl
connectives-agree or true q = refl
connectives-agree or false q = refl
connectives-agree implies true q = refl
connectives-agree implies false q = refl
connectives-agree iff true q = refl
connectives-agree iff false q = refl

-- in and notin, by the symbol or by the shape of the node
pub memberships-agree : (o : Membership) (b : Bool) → val.asked o b ≡ asked (eqb (code_of (membership_kind o)) 56) b
unfolding code_of
memberships-agree is_in b = refl
memberships-agree not_in b = refl

pub relations-agree : (o : Membership) (b : Bool) → val.asked o b ≡ asked (eqb (related_shape o) 22) b
relations-agree is_in b = refl
relations-agree not_in b = refl

-- ---- quantifiers: the values of a list, by their numbers

module _ (f : Value → Bool) (at : ℕ → Value) where
  all-some : (k n : ℕ) → all f (map at (upward k n)) ≡ not (sets.some_from (λ j. not (f (at j))) k n)
  unfolding all upward sets.some_from
  all-some k zero = refl
  all-some k (suc n) = go (f (at k)) (all-some (suc k) n)
    where
      go : (b : Bool) → all f (map at (upward (suc k) n)) ≡ not (sets.some_from (λ j. not (f (at j))) (suc k) n)
          → ◌≡◌ {A = Bool} (elim b [ true ↦ all f (map at (upward (suc k) n)) | false ↦ false ]) (not (elim (not b) [ true ↦ true | false ↦ sets.some_from (λ j. not (f (at j))) (suc k) n ]))
      go true h = h
      go false h = refl

  any_some : (k n : ℕ) → any f (map at (upward k n)) ≡ sets.some_from (λ j. f (at j)) k n
  unfolding any upward sets.some_from
  any_some k zero = refl
  any_some k (suc n) = go (f (at k)) (any_some (suc k) n)
    where
      go : (b : Bool) → any f (map at (upward (suc k) n)) ≡ sets.some_from (λ j. f (at j)) (suc k) n
          → ◌≡◌ {A = Bool} (elim b [ true ↦ true | false ↦ any f (map at (upward (suc k) n)) ]) (elim b [ true ↦ true | false ↦ sets.some_from (λ j. f (at j)) (suc k) n ])
      go true h = refl
      go false h = h

  count-counts : (k n : ℕ) → count f (map at (upward k n)) ≡ sets.count_from (λ j. f (at j)) k n
  unfolding count upward sets.count_from
  count-counts k zero = refl
  count-counts k (suc n) = go (f (at k)) (count-counts (suc k) n)
    where
      go : (b : Bool) → count f (map at (upward (suc k) n)) ≡ sets.count_from (λ j. f (at j)) (suc k) n
          → ◌≡◌ {A = ℕ} (elim b [ true ↦ suc (count f (map at (upward (suc k) n))) | false ↦ count f (map at (upward (suc k) n)) ]) (sets.bit b + sets.count_from (λ j. f (at j)) (suc k) n)
      go true h = omega (arith, h)
      go false h = omega (arith, h)

  pub quantifiers-agree : (q : Quantifier) (n : ℕ) → quantify q f (map at (upward 0 n)) ≡ quantified (code_of (quantifier_kind q)) n (λ k. f (at k))
  unfolding quantify quantified code_of
  quantifiers-agree forall n = all-some 0 n
  quantifiers-agree exists n = any_some 0 n
  quantifiers-agree exists1 n = ap (λ (k : ℕ). eqb k 1) (count-counts 0 n)
