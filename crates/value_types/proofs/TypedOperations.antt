-- Operations on values of types that fit: the result has its type.
use mathlib.Core.Path.{◌≡◌, sym, ap₂, subst}
use mathlib.Core.Bool.{true, ◌&&◌, false≢true}
use mathlib.Core.List.{List, [], ◌∷◌, ◌++◌, map}
use mathlib.Core.Option.{Option, none, some}
use Prim.Native.Nat.{ℕ, ◌*◌, ◌^◌, ◌<◌, ◌≤◌}
use native.Mathlib.Omega.{arith}
use lib.ListN.{take, drop}
use borrow.Author.Tests.{leb-true}
use Rattle.meaning.specs.FormTree.{Letters, Given, Prefix, negate, size, dom, ran, Operator, plus, minus, union, without, times, inter}
use Rattle.meaning.specs.StaticRulesCarriers.{size_of, plain, given_of}
use Rattle.meaning.specs.StaticRulesTypes.{Sort, is_number, is_element, is_set, is_pairs, Ty, has, same_type, set_of, pairs_of_types, is_any_set, are_numbers, prefix_fits, prefix_type, operator_fits}
use Rattle.meaning.specs.StaticRulesScope.{Scope}
use Rattle.meaning.specs.StaticRulesNames.{pairs_fault, over_fault}
use Rattle.sets.specs.Sets as sets
use Rattle.meaning.proofs.LexicalBooleanTests.{and_left, and_right}
use Rattle.meaning.specs.Values.{Value, bits, with_bits, prefix_value, operator_value, singleton, single_pair}
use Rattle.meaning.specs.Meaning.{Environment, size_of_given}
use Rattle.value_types.specs.TypedValues.{OfSort, HasType, Carried}
use Rattle.value_types.proofs.SetBounds.{union-below, inter-below, without-below, dom-set, ran-set, single-set, single-pairs, both-sets, both-pairs}
use Rattle.value_types.proofs.Reach.{size_in, named-size}
use Rattle.refusals.proofs.FaultLists.{unless-nil}
use Rattle.meaning.proofs.StaticRulesSameTypes.{has-sort, same-type}

-- of types over at most 16 pairs
pub pairs-few : (o p : Option Given) (i : ℕ) → pairs_fault o p i ≡ [] → size_in o * size_in p ≤ 16
unfolding pairs_fault
pairs-few none p i e = omega arith
pairs-few (some g) none i e = omega arith
pairs-few (some g) (some h) i e = leb-true (size_of g * size_of h) 16 (unless-nil _ _ e)

module _ (ρ : Environment) where
  abbrev pub sizes : List Letters → List ℕ
  sizes gs = map (λ (g : Letters). size_of_given ρ (plain g)) gs

  -- a type that is of the sort s
  pub as-sort : (t : Ty) (s : Sort) (v : Value) → has t s ≡ true → HasType ρ t v → OfSort s (sizes t.over) v
  as-sort t s v e h = subst (λ (r : Sort). OfSort r (sizes t.over) v) (has-sort t s e) h

  pub number-typed : (t : Ty) (v : Value) → has t is_number ≡ true → HasType ρ t v
  unfolding OfSort
  number-typed t v e = subst (λ (r : Sort). OfSort r (sizes t.over) v) (sym (has-sort t is_number e)) tt

  dom-typed : (gs : List Letters) (v : Value) → OfSort is_pairs (sizes gs) v → OfSort is_set (sizes (take 1 gs)) (prefix_value dom v)
  unfolding OfSort
  dom-typed [] v h = absurd h
  dom-typed (g ∷ []) v h = absurd h
  dom-typed (g ∷ k ∷ []) v h = dom-set h
  dom-typed (g ∷ k ∷ l ∷ ls) v h = absurd h

  ran-typed : (gs : List Letters) (v : Value) → OfSort is_pairs (sizes gs) v → OfSort is_set (sizes (drop 1 gs)) (prefix_value ran v)
  unfolding OfSort
  ran-typed [] v h = absurd h
  ran-typed (g ∷ []) v h = absurd h
  ran-typed (g ∷ k ∷ []) v h = ran-set h
  ran-typed (g ∷ k ∷ l ∷ ls) v h = absurd h

  pub prefix-value : (o : Prefix) (t : Ty) (v : Value) → prefix_fits o t ≡ true → HasType ρ t v → HasType ρ (prefix_type o t) (prefix_value o v)
  unfolding OfSort
  prefix-value negate t v e h = tt
  prefix-value size t v e h = tt
  prefix-value dom t v e h = dom-typed t.over v (as-sort t is_pairs v e h)
  prefix-value ran t v e h = ran-typed t.over v (as-sort t is_pairs v e h)

  -- ---- two sets of one type

  module _ (op : ℕ → ℕ → ℕ) (keeps : (n a b : ℕ) → n ≤ 16 → a < 2 ^ n → b < 2 ^ n → op a b < 2 ^ n) where
    both-over : (s : Sort) (gs : List Letters) (v w : Value) → is_any_set (record { sort = s; over = gs }) ≡ true → OfSort s (sizes gs) v → OfSort s (sizes gs) w
        → OfSort s (sizes gs) (with_bits v (op (bits v) (bits w)))
    unfolding OfSort is_any_set has
    both-over is_number gs v w e h k = tt
    both-over is_element gs v w e h k = absurd (false≢true e)
    both-over is_set [] v w e h k = absurd h
    both-over is_set (g ∷ []) v w e h k = both-sets op keeps h k
    both-over is_set (g ∷ l ∷ ls) v w e h k = absurd h
    both-over is_pairs [] v w e h k = absurd h
    both-over is_pairs (g ∷ []) v w e h k = absurd h
    both-over is_pairs (g ∷ l ∷ []) v w e h k = both-pairs op keeps h k
    both-over is_pairs (g ∷ l ∷ m ∷ ms) v w e h k = absurd h

    pub both_typed : (t u : Ty) (v w : Value) → (is_any_set t && same_type t u) ≡ true → HasType ρ t v → HasType ρ u w
        → HasType ρ t (with_bits v (op (bits v) (bits w)))
    both_typed t u v w e h k =
        both-over t.sort t.over v w (and_left (is_any_set t) (same_type t u) e) h
        (subst (λ (r : Ty). HasType ρ r w) (sym (same-type t u (and_right (is_any_set t) (same_type t u) e))) k)

  pub operator-value : (o : Operator) (t u : Ty) (v w : Value) → operator_fits o t u ≡ true → HasType ρ t v → HasType ρ u w → HasType ρ t (operator_value o v w)
  unfolding operator_value are_numbers
  operator-value plus t u v w e h k = number-typed t _ (and_left (has t is_number) (has u is_number) e)
  operator-value minus t u v w e h k = number-typed t _ (and_left (has t is_number) (has u is_number) e)
  operator-value union t u v w e h k = both_typed sets.union union-below t u v w e h k
  operator-value without t u v w e h k = both_typed sets.without without-below t u v w e h k
  operator-value times t u v w e h k = number-typed t _ (and_left (has t is_number) (has u is_number) e)
  operator-value inter t u v w e h k = both_typed sets.inter inter-below t u v w e h k

  -- ---- braces

  single-over : (gs : List Letters) (v : Value) → OfSort is_element (sizes gs) v → OfSort is_set (sizes gs) (singleton v)
  unfolding OfSort
  single-over [] v h = absurd h
  single-over (g ∷ []) v h = single-set h
  single-over (g ∷ k ∷ ks) v h = absurd h

  pub single-typed : (t : Ty) (v : Value) → has t is_element ≡ true → HasType ρ t v → HasType ρ (set_of t) (singleton v)
  single-typed t v e h = single-over t.over v (as-sort t is_element v e h)

  module _ (Γ : Scope) (c : Carried Γ ρ) where
    pub over-few : (g h : Letters) (i : ℕ) → over_fault Γ.givens (g ∷ h ∷ []) i ≡ [] → size_of_given ρ (plain g) * size_of_given ρ (plain h) ≤ 16
    over-few g h i e =
        subst (λ (n : ℕ). n ≤ 16) (sym (ap₂ ◌*◌ (named-size Γ ρ c (plain g)) (named-size Γ ρ c (plain h))))
        (pairs-few (given_of Γ.givens (plain g)) (given_of Γ.givens (plain h)) i e)

    pair-over : (gs hs : List Letters) (v w : Value) (i : ℕ) → OfSort is_element (sizes gs) v → OfSort is_element (sizes hs) w
        → over_fault Γ.givens (gs ++ hs) i ≡ []
        → OfSort is_pairs (sizes (gs ++ hs)) (single_pair v w)
    unfolding OfSort
    pair-over [] hs v w i p q e = absurd p
    pair-over (g ∷ []) [] v w i p q e = absurd q
    pair-over (g ∷ []) (h ∷ []) v w i p q e = single-pairs p q (over-few g h i e)
    pair-over (g ∷ []) (h ∷ l ∷ ls) v w i p q e = absurd q
    pair-over (g ∷ k ∷ ks) hs v w i p q e = absurd p

    pub pair_typed : (t u : Ty) (v w : Value) (i : ℕ) → has t is_element ≡ true → has u is_element ≡ true → HasType ρ t v → HasType ρ u w
        → over_fault Γ.givens (pairs_of_types t u).over i ≡ [] → HasType ρ (pairs_of_types t u) (single_pair v w)
    pair_typed t u v w i p q h k e = pair-over t.over u.over v w i (as-sort t is_element v p h) (as-sort u is_element w q k) e
