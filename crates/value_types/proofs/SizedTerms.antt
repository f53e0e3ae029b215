-- A number that is a term's value is no larger than number 13's size of the term, and that size is at most 2,147,483,647. So the value of every term
-- without faults, whatever its type, is below 2,147,483,648.
use mathlib.Core.Path.{◌≡◌, refl, sym, subst}
use mathlib.Core.Bool.{Bool, true, false, false≢true}
use mathlib.Core.List.{List, [], ◌∷◌, map}
use mathlib.Core.Option.{Option, none, some, none-ne-some, some-injective}
use Prim.Native.Nat.{ℕ, suc, ◌+◌, ◌*◌, ◌^◌, ◌<◌, ◌≤◌}
use native.Mathlib.Nat.{mul-le-mul, lt_of_lt_of_le}
use native.Mathlib.Omega.{arith}
use lib.IntN.{ℤ, pos, ◌+ℤ◌, ◌-ℤ◌, nat_abs}
use lib.Pow.{pow_mono}
use Rattle.lexical.specs.Lists.{find, upward}
use Rattle.lexical.specs.Symbols.{Name}
use Rattle.meaning.specs.FormTree.{End, Given, Prefix, negate, size, dom, ran, Operator, plus, minus, union, without, times, inter, Division, quotient, remainder}
use Rattle.meaning.specs.FormTree.{Term, number, name, group, prefix, binary, divided, listed, pairs, such, empty_set, empty_pairs}
use Rattle.meaning.specs.StaticRulesCarriers.{Carrier, elements_of, numbers, subsets_of, pairs_in, Variable, largest, end_value, same_name, plain}
use Rattle.meaning.specs.StaticRulesTypes.{Sort, is_number, is_element, is_set, is_pairs, Ty, type_of, has, same_type, is_any_set, are_numbers, prefix_fits, prefix_type, operator_fits, brace_type, brace_fits, pairs_type, pairs_fit}
use Rattle.meaning.specs.StaticRulesScope.{Scope, element_of, or_element, type_of_name}
use Rattle.meaning.specs.StaticRulesNames.{judge_term, judge_items, judge_pairs}
use Rattle.meaning.specs.StaticRulesLimits.{operator_size, prefix_size, division_size, size_term}
use Rattle.meaning.proofs.LexicalBooleanTests.{and_left, and_right}
use Rattle.meaning.specs.Values as val
use Rattle.meaning.specs.Values.{Value, bits, prefix_value, operator_value, division_value}
use Rattle.meaning.specs.Meaning.{or_element as value_found, Environment, element_value, value_of, size_of_given, number_values, value}
use Rattle.meaning.specs.Bindings.{values_of, Among}
use Rattle.meaning.proofs.Members.{map-among}
use Rattle.meaning.proofs.UpwardNumbers.{among-upward}
use Rattle.value_types.specs.TypedValues.{OfSort, CarrierFits, CarriersFit, InReach, Carried, TermWithin, sizes_in}
use Rattle.value_types.proofs.FaultlessParts as parts
use Rattle.value_types.proofs.TypeTests.{sort-has, set-no-number, items_of, pairs_of}
use Rattle.value_types.proofs.SetBounds.{size_few}
use Rattle.value_types.proofs.Reach.{Looked, nowhere, reached, looked}
use Rattle.value_types.proofs.Binders.{end-abs}
use Rattle.sets.proofs.Floor.{floor_abs, times_abs}
use Rattle.value_types.proofs.Magnitudes.{negate_abs, plus_abs, minus-abs, remainder_abs, range-abs}
use Rattle.value_types.proofs.TypedTerms.{term-typed}

-- ---- operations

pub prefix-sized : (o : Prefix) (t : Ty) (v : Value) (a : ℕ) → prefix_fits o t ≡ true → has (prefix_type o t) is_number ≡ true
    → (has t is_number ≡ true → nat_abs v.code ≤ a) → nat_abs (prefix_value o v).code ≤ prefix_size o a
unfolding prefix_value has
prefix-sized negate t v a e h k = subst (λ (n : ℕ). n ≤ a) (sym (negate_abs v.code)) (k e)
prefix-sized size t v a e h k = size_few (bits v)
prefix-sized dom t v a e h k = absurd (false≢true h)
prefix-sized ran t v a e h k = absurd (false≢true h)

pub operator-sized : (o : Operator) (t u : Ty) (v w : Value) (a b : ℕ) → operator_fits o t u ≡ true → has t is_number ≡ true
    → (has t is_number ≡ true → nat_abs v.code ≤ a) → (has u is_number ≡ true → nat_abs w.code ≤ b) → nat_abs (operator_value o v w).code ≤ operator_size o a b
unfolding operator_value are_numbers
operator-sized plus t u v w a b e h k l = omega (arith, plus_abs v.code w.code, k h, l (and_right (has t is_number) (has u is_number) e))
operator-sized minus t u v w a b e h k l = omega (arith, minus-abs v.code w.code, k h, l (and_right (has t is_number) (has u is_number) e))
operator-sized union t u v w a b e h k l = absurd (set-no-number t (and_left (is_any_set t) (same_type t u) e) h)
operator-sized without t u v w a b e h k l = absurd (set-no-number t (and_left (is_any_set t) (same_type t u) e) h)
operator-sized times t u v w a b e h k l =
    subst (λ (n : ℕ). n ≤ a * b) (sym (times_abs v.code w.code)) (mul-le-mul (k h) (l (and_right (has t is_number) (has u is_number) e)))
operator-sized inter t u v w a b e h k l = absurd (set-no-number t (and_left (is_any_set t) (same_type t u) e) h)

pub division-sized : (o : Division) (v : Value) (e : End) (a : ℕ) → 0 < e.magnitude → nat_abs v.code ≤ a
    → nat_abs (division_value o v (end_value e)).code ≤ division_size o a e
unfolding division_value
division-sized quotient v e a h k = omega (arith, floor_abs v.code (end_value e))
division-sized remainder v e a h k = omega (arith, end-abs e, remainder_abs v.code (end_value e) (omega (arith, end-abs e)))

-- ---- names

abbrev size_found : Option (Name × ℕ) → ℕ
size_found none = 0
size_found (some x) = x.1

carrier-sized : (gs : List Given) (k : Carrier) (v : Value) → CarrierFits gs k → Among v (values_of k) → has (type_of k) is_number ≡ true
    → nat_abs v.code ≤ largest k
unfolding CarrierFits values_of number_values largest has
carrier-sized gs (elements_of g) v f m e = absurd (false≢true e)
carrier-sized gs (numbers a b) v f m e =
    let r = map-among (λ (k : ℕ). val.number (a +ℤ pos k)) v (upward 0 (nat_abs (b -ℤ a) + 1)) m in
    subst (λ (w : Value). nat_abs w.code ≤ largest (numbers a b)) (sym r.2)
    (range-abs a b r.0 f.2 (omega (arith, (among-upward 0 (nat_abs (b -ℤ a) + 1) r.0 r.1).1)))
carrier-sized gs (subsets_of g) v f m e = absurd (false≢true e)
carrier-sized gs (pairs_in a g h) v f m e = absurd (false≢true e)

found-sized : {gs : List Given} {o : Option Variable} {p : Option (Name × Value)} {q : Option (Name × ℕ)} → Looked gs o p q → (x : Name) (g : Option Given) (t : Ty)
    → or_element o g ≡ some t → has t is_number ≡ true → nat_abs (value_found p (element_value g x)).code ≤ size_found q
unfolding has
found-sized nowhere x none t e h = absurd (none-ne-some t e)
found-sized nowhere x (some g) t e h = absurd (false≢true (subst (λ (u : Ty). has u is_number ≡ true) (sym (some-injective (type_of (elements_of g)) t e)) h))
found-sized {gs = gs} (reached v b f m) x g t e h =
    carrier-sized gs v.carrier b.1 f m (subst (λ (u : Ty). has u is_number ≡ true) (sym (some-injective (type_of v.carrier) t e)) h)

carrier-bounded : (gs : List Given) (k : Carrier) → CarrierFits gs k → largest k ≤ 1000
unfolding CarrierFits largest
carrier-bounded gs (elements_of g) f = omega arith
carrier-bounded gs (numbers a b) f = omega (arith, f.0, f.1)
carrier-bounded gs (subsets_of g) f = omega arith
carrier-bounded gs (pairs_in a g h) f = omega arith

name-bounded : (gs : List Given) (vs : List Variable) (x : Name) → CarriersFit gs vs
    → size_found (find (λ (y : Name × ℕ). same_name y.0 x) (map (λ (v : Variable). (v.called, largest v.carrier)) vs)) ≤ 1000
unfolding find CarriersFit
name-bounded gs [] x f = omega arith
name-bounded gs (v ∷ vs) x f = on (same_name v.called x) (name-bounded gs vs x f.1)
  where
    on : (b : Bool) → size_found (find (λ (y : Name × ℕ). same_name y.0 x) (map (λ (w : Variable). (w.called, largest w.carrier)) vs)) ≤ 1000
        → size_found (elim b as (λ (c : Bool). Option (Name × ℕ))
        [ true ↦ some (v.called, largest v.carrier) | false ↦ find (λ (y : Name × ℕ). same_name y.0 x) (map (λ (w : Variable). (w.called, largest w.carrier)) vs) ]) ≤ 1000
    on true r = carrier-bounded gs v.carrier f.0
    on false r = r

-- ---- terms

module _ (Γ : Scope) (s : InReach Γ) where
  pub term-bounded : (t : Term) (j : ℕ) → TermWithin t → (size_term t (sizes_in Γ) j).faults ≡ [] → (size_term t (sizes_in Γ) j).bound ≤ 2147483647
  unfolding size_term TermWithin
  term-bounded (number n) j w e = omega (arith, w)
  term-bounded (name x) j w e = omega (arith, name-bounded Γ.givens Γ.reach x s.fit)
  term-bounded (group t) j w e = term-bounded t (suc j) w e
  term-bounded (prefix negate t) j w e = term-bounded t (suc j) w e
  term-bounded (prefix size t) j w e = omega arith
  term-bounded (prefix dom t) j w e = omega arith
  term-bounded (prefix ran t) j w e = omega arith
  term-bounded (binary o t u) j w e = (parts.binary-sizes o t u (sizes_in Γ) j e).2
  term-bounded (divided quotient t d) j w e = term-bounded t j w.0 e
  term-bounded (divided remainder t d) j w e = omega (arith, w.1)
  term-bounded (listed ts) j w e = omega arith
  term-bounded (pairs ts) j w e = omega arith
  term-bounded (such x g p) j w e = omega arith
  term-bounded (empty_set g) j w e = omega arith
  term-bounded (empty_pairs g h) j w e = omega arith

  module _ (ρ : Environment) (c : Carried Γ ρ) where
    name-sized : (x : Name) (t : Ty) (j : ℕ) → type_of_name Γ x ≡ some t → has t is_number ≡ true → nat_abs (value_of ρ x).code ≤ (size_term (name x) (sizes_in Γ) j).bound
    unfolding type_of_name value_of size_term
    name-sized x t j e h =
        subst (λ (gs : List Given). nat_abs (value_found (find (λ (b : Name × Value). same_name b.0 x) ρ.values) (element_value (element_of gs x) x)).code
        ≤ size_found (find (λ (y : Name × ℕ). same_name y.0 x) (sizes_in Γ))) (sym c.givens)
        (found-sized (looked Γ.givens Γ.reach ρ.values x s.fit c.over) x (element_of Γ.givens x) t e h)

    brace-no-number : (ts : List Ty) → brace_fits ts ≡ true → has (brace_type ts) is_number ≡ true → ⊥
    unfolding has
    brace-no-number ts e h = false≢true (subst (λ (u : Ty). has u is_number ≡ true) (items_of ts e).2 h)

    pairs-no-number : (ts : List (Ty × Ty)) → pairs_fit ts ≡ true → has (pairs_type ts) is_number ≡ true → ⊥
    unfolding has
    pairs-no-number ts e h = false≢true (subst (λ (u : Ty). has u is_number ≡ true) (pairs_of ts e).3 h)

    pub term-sized : (t : Term) (i j : ℕ) → (judge_term t Γ i).faults ≡ [] → has (judge_term t Γ i).type is_number ≡ true
        → nat_abs (value t ρ).code ≤ (size_term t (sizes_in Γ) j).bound
    unfolding judge_term value size_term has
    term-sized (number n) i j e h = omega arith
    term-sized (name x) i j e h =
        let k = parts.name-parts x Γ i e in
        name-sized x k.0 j k.1 (subst (λ (u : Ty). has u is_number ≡ true) k.2 h)
    term-sized (group t) i j e h = term-sized t (suc i) (suc j) e h
    term-sized (prefix o t) i j e h =
        let k = parts.prefix-parts o t Γ i e in
        prefix-sized o (judge_term t Γ (suc i)).type (value t ρ) (size_term t (sizes_in Γ) (suc j)).bound k.1 h (λ l. term-sized t (suc i) (suc j) k.0 l)
    term-sized (binary o t u) i j e h =
        let k = parts.binary-parts o t u Γ i e in
        let m = suc (judge_term t Γ i).next in
        let n = suc (size_term t (sizes_in Γ) j).next in
        operator-sized o (judge_term t Γ i).type (judge_term u Γ m).type (value t ρ) (value u ρ) (size_term t (sizes_in Γ) j).bound
        (size_term u (sizes_in Γ) n).bound k.2 h (λ l. term-sized t i j k.0 l) (λ l. term-sized u m n k.1 l)
    term-sized (divided o t d) i j e h =
        let k = parts.divided-parts o t d Γ i e in
        division-sized o (value t ρ) d (size_term t (sizes_in Γ) j).bound k.2 (term-sized t i j k.0 k.1)
    term-sized (listed ts) i j e h = absurd (brace-no-number (judge_items ts Γ (suc i)).types (parts.listed-parts ts Γ i e).1 h)
    term-sized (pairs ts) i j e h = absurd (pairs-no-number (judge_pairs ts Γ (suc i)).types (parts.pairs-parts ts Γ i e).1 h)
    term-sized (such x g p) i j e h = absurd (false≢true h)
    term-sized (empty_set g) i j e h = absurd (false≢true h)
    term-sized (empty_pairs g k) i j e h = absurd (false≢true h)

-- ---- the theorems

-- an element is below 8, a set's bits below 2 ^ 8, those of a set of pairs below 2 ^ 16
small-code : (v : Value) (k : ℕ) → v.code ≡ pos k → k < 65536 → nat_abs v.code < 2147483648
small-code v k e h = subst (λ (z : ℤ). nat_abs z < 2147483648) (sym e) (omega arith)

below_power : (b n m : ℕ) → n ≤ m → b < 2 ^ n → b < 2 ^ m
below_power b n m h l = lt_of_lt_of_le l (pow_mono {i = n} {j = m} h)

small-sort : (s : Sort) (ns : List ℕ) (v : Value) → OfSort s ns v → (s ≡ is_number → nat_abs v.code ≤ 2147483647) → nat_abs v.code < 2147483648
unfolding OfSort
small-sort is_number ns v h k = omega (arith, k refl)
small-sort is_element [] v h k = absurd h
small-sort is_element (n ∷ []) v h k = small-code v h.place h.is (omega (arith, h.below, h.few))
small-sort is_element (n ∷ m ∷ ns) v h k = absurd h
small-sort is_set [] v h k = absurd h
small-sort is_set (n ∷ []) v h k = small-code v h.bits h.is (below_power h.bits n 16 (omega (arith, h.few)) h.below)
small-sort is_set (n ∷ m ∷ ns) v h k = absurd h
small-sort is_pairs [] v h k = absurd h
small-sort is_pairs (n ∷ []) v h k = absurd h
small-sort is_pairs (n ∷ m ∷ []) v h k = small-code v h.bits h.is (below_power h.bits (n * m) 16 h.few h.below)
small-sort is_pairs (n ∷ m ∷ l ∷ ns) v h k = absurd h

pub sized-term : (t : Term) (Γ : Scope) (ρ : Environment) (i j : ℕ) → InReach Γ → Carried Γ ρ → TermWithin t → (judge_term t Γ i).faults ≡ []
    → (size_term t (sizes_in Γ) j).faults ≡ []
    → has (judge_term t Γ i).type is_number ≡ true → nat_abs (value t ρ).code ≤ (size_term t (sizes_in Γ) j).bound
sized-term t Γ ρ i j s c w e f h = term-sized Γ s ρ c t i j e h

pub bounded-term : (t : Term) (Γ : Scope) (j : ℕ) → InReach Γ → TermWithin t → (size_term t (sizes_in Γ) j).faults ≡ [] → (size_term t (sizes_in Γ) j).bound ≤ 2147483647
bounded-term t Γ j s w f = term-bounded Γ s t j w f

pub small-term : (t : Term) (Γ : Scope) (ρ : Environment) (i j : ℕ) → InReach Γ → Carried Γ ρ → TermWithin t → (judge_term t Γ i).faults ≡ []
    → (size_term t (sizes_in Γ) j).faults ≡ []
    → nat_abs (value t ρ).code < 2147483648
small-term t Γ ρ i j s c w e f =
    let u : Ty = (judge_term t Γ i).type in
    small-sort u.sort (map (λ (g : List ℕ). size_of_given ρ (plain g)) u.over) (value t ρ) (term-typed Γ ρ s c t i e)
    (λ h. omega (arith, term-sized Γ s ρ c t i j e (sort-has u is_number h), term-bounded Γ s t j w f))
