-- A term without faults has a value of its type, in every environment of its scope.
use mathlib.Core.Path.{◌≡◌, refl, sym, ap, ap₂, subst}
use mathlib.Core.Bool.{true}
use mathlib.Core.List.{List, [], ◌∷◌}
use mathlib.Core.Option.{Option, none, some, none-ne-some, some-injective}
use Prim.Native.Nat.{ℕ, suc, ◌+◌, ◌*◌, ◌^◌, ◌<◌, ◌≤◌}
use lib.Pow.{pow_pos}
use Rattle.lexical.specs.Lists.{find}
use Rattle.lexical.specs.Symbols.{Name}
use Rattle.meaning.specs.FormTree.{Letters, Given, elements, union, relation}
use Rattle.meaning.specs.FormTree.{Term, number, name, group, prefix, binary, divided, listed, pairs, such, empty_set, empty_pairs, Items, only, also, Pairs, only_pair, also_pair}
use Rattle.meaning.specs.StaticRulesCarriers.{Variable, elements_of, size_of, same_name, given_of}
use Rattle.meaning.specs.StaticRulesTypes.{Ty, is_pairs, type_of, set_of, pairs_of_types, is_any_set, has, brace_type, brace_fits, pairs_type, pairs_fit}
use Rattle.meaning.specs.StaticRulesScope.{Scope, element_of, place_in, or_element, type_of_name}
use Rattle.meaning.specs.StaticRulesNames.{known, over_fault, judge_term, judge_items, judge_pairs}
use Rattle.std.proofs.lemmas.Bool.{and_from}
use Rattle.sets.proofs.Members.{set_below}
use Rattle.sets.specs.Sets as sets
use Rattle.meaning.specs.Values as val
use Rattle.meaning.specs.Values.{Value, operator_value, singleton, single_pair}
use Rattle.meaning.specs.Meaning.{or_element as value_found, Environment, element_value, value_of, with, size_of_given, value, items_value, pairs_value, holds}
use Rattle.value_types.specs.TypedValues.{OfSort, HasType, InReach, Carried, TermWithin, ItemsWithin, PairsWithin}
use Rattle.value_types.proofs.FaultlessParts as parts
use Rattle.value_types.proofs.FaultlessParts.{bound_over}
use Rattle.value_types.proofs.TypeTests.{type-refl, ItemsOf, items_of, items-split, PairsOf, pairs_of, pairs-split}
use Rattle.value_types.proofs.Reach.{size_in, given_is, element-is, place-below, given-size, element-value, set_value, pairs-value, carrier-value, Looked, nowhere, reached, looked}
use Rattle.value_types.proofs.TypedOperations.{pairs-few, prefix-value, operator-value, single-typed, pair_typed}
use Rattle.meaning.proofs.StaticRulesFaultless.{given-known}

module _ (Γ : Scope) (ρ : Environment) (s : InReach Γ) (c : Carried Γ ρ) where
  found-typed : {o : Option Variable} {p : Option (Name × Value)} {q : Option (Name × ℕ)} → Looked Γ.givens o p q → (x : Name) (g : Option Given)
      → element_of Γ.givens x ≡ g → (t : Ty) → or_element o g ≡ some t → HasType ρ t (value_found p (element_value g x))
  found-typed nowhere x none e t h = absurd (none-ne-some t h)
  found-typed nowhere x (some g) e t h =
      let k = element-is Γ.givens x g e in
      subst (λ (u : Ty). HasType ρ u (val.element (size_of g) (place_in (elements g) x))) (some-injective (type_of (elements_of g)) t h)
      (element-value Γ ρ s c g (place_in (elements g) x) k.0 (place-below (elements g) x k.1))
  found-typed (reached v b f m) x g e t h =
      subst (λ (u : Ty). HasType ρ u b.1) (some-injective (type_of v.carrier) t h) (carrier-value Γ ρ s c v.carrier b.1 f m)

  pub name_typed : (x : Name) (t : Ty) → type_of_name Γ x ≡ some t → HasType ρ t (value_of ρ x)
  unfolding type_of_name value_of
  name_typed x t e =
      subst (λ (gs : List Given). HasType ρ t (value_found (find (λ (b : Name × Value). same_name b.0 x) ρ.values) (element_value (element_of gs x) x)))
      (sym c.givens)
      (found-typed (looked Γ.givens Γ.reach ρ.values x s.fit c.over) x (element_of Γ.givens x) refl t e)

  -- a set over a given set that is named
  over-typed : (g : Name) (b : ℕ → ℕ) → ((n : ℕ) → b n < 2 ^ n) → (i : ℕ) → known (given_of Γ.givens g) i ≡ []
      → HasType ρ (set_of (type_of (bound_over (given_of Γ.givens g)))) (val.set (size_of_given ρ g) (b (size_of_given ρ g)))
  over-typed g b h i e =
      let k = given-known (given_of Γ.givens g) i e in
      subst (λ (o : Option Given). HasType ρ (set_of (type_of (bound_over o))) (val.set (size_of_given ρ g) (b (size_of_given ρ g)))) (sym k.1)
      (subst (λ (n : ℕ). HasType ρ (set_of (type_of (elements_of k.0))) (val.set n (b n))) (sym (given-size Γ ρ s c g k.0 k.1))
      (set_value Γ ρ s c k.0 (b (size_of k.0)) (given_is Γ.givens g k.0 k.1).0 (h (size_of k.0))))

  empty-pairs-typed : (g h : Name) (i : ℕ) → (judge_term (empty_pairs g h) Γ i).faults ≡ []
      → HasType ρ (record { sort = is_pairs; over = g.letters ∷ h.letters ∷ [] }) (val.pairs (size_of_given ρ g) (size_of_given ρ h) 0)
  empty-pairs-typed g h i e =
      let f = parts.empty-pairs-parts g h Γ i e in
      let k = given-known (given_of Γ.givens g) (suc i) f.0 in
      let l = given-known (given_of Γ.givens h) (i + 2) f.1 in
      let gk = given_is Γ.givens g k.0 k.1 in
      let hl = given_is Γ.givens h l.0 l.1 in
      let few : size_of k.0 * size_of l.0 ≤ 16 =
      subst (λ (n : ℕ). n ≤ 16) (ap₂ (λ (o p : Option Given). size_in o * size_in p) k.1 l.1)
      (pairs-few (given_of Γ.givens g) (given_of Γ.givens h) i f.2) in
      moved k.0.title g.letters l.0.title h.letters (size_of k.0) (size_of_given ρ g) (size_of l.0) (size_of_given ρ h)
      (ap (λ (x : Name). x.letters) gk.1) (ap (λ (x : Name). x.letters) hl.1)
      (sym (given-size Γ ρ s c g k.0 k.1)) (sym (given-size Γ ρ s c h l.0 l.1))
      (pairs-value Γ ρ s c relation k.0 l.0 0 gk.0 hl.0 few (pow_pos (size_of k.0 * size_of l.0)))
    where
      moved : (a b d e : Letters) (n m k l : ℕ) → a ≡ b → d ≡ e → n ≡ m → k ≡ l → HasType ρ (record { sort = is_pairs; over = a ∷ d ∷ [] }) (val.pairs n k 0)
          → HasType ρ (record { sort = is_pairs; over = b ∷ e ∷ [] }) (val.pairs m l 0)
      moved a b d e n m k l p q r t h =
          subst (λ (v : Value). HasType ρ (record { sort = is_pairs; over = b ∷ e ∷ [] }) v) (ap₂ (λ (x y : ℕ). val.pairs x y 0) r t)
          (subst (λ (u : Ty). HasType ρ u (val.pairs n k 0)) (ap₂ (λ (x y : Letters). record { sort = is_pairs; over = x ∷ y ∷ [] }) p q) h)

  -- ---- braces

  joined : (u : Ty) (v w : Value) → is_any_set u ≡ true → HasType ρ u v → HasType ρ u w → HasType ρ u (operator_value union v w)
  joined u v w e h k = operator-value ρ union u u v w (and_from _ _ e (type-refl u)) h k

  item-typed : (u a : Ty) (bs : List Ty) (v : Value) → ItemsOf u (a ∷ bs) → HasType ρ a v → HasType ρ (set_of u) (singleton v)
  item-typed u a bs v h k = single-typed ρ u v h.element (subst (λ (t : Ty). HasType ρ t v) (sym (items-split u a bs h).0) k)

  also-typed : (u a : Ty) (bs : List Ty) (v w : Value) → ItemsOf u (a ∷ bs) → HasType ρ a v → HasType ρ (set_of u) w
      → HasType ρ (set_of u) (operator_value union (singleton v) w)
  unfolding is_any_set has
  also-typed u a bs v w h k l = joined (set_of u) (singleton v) w refl (item-typed u a bs v h k) l

  pair-item-typed : (u w a b : Ty) (ps : List (Ty × Ty)) (x y : Value) (j : ℕ) → PairsOf u w ((a, b) ∷ ps) → over_fault Γ.givens (pairs_of_types u w).over j ≡ []
      → HasType ρ a x → HasType ρ b y → HasType ρ (pairs_of_types u w) (single_pair x y)
  pair-item-typed u w a b ps x y j h f k l =
      let e = pairs-split u w (a, b) ps h in
      pair_typed ρ Γ c u w x y j h.first h.second (subst (λ (t : Ty). HasType ρ t x) (sym e.0) k) (subst (λ (t : Ty). HasType ρ t y) (sym e.1) l) f

  also-pair-typed : (u w a b : Ty) (ps : List (Ty × Ty)) (x y z : Value) (j : ℕ) → PairsOf u w ((a, b) ∷ ps) → over_fault Γ.givens (pairs_of_types u w).over j ≡ []
      → HasType ρ a x → HasType ρ b y → HasType ρ (pairs_of_types u w) z → HasType ρ (pairs_of_types u w) (operator_value union (single_pair x y) z)
  unfolding is_any_set has
  also-pair-typed u w a b ps x y z j h f k l m = joined (pairs_of_types u w) (single_pair x y) z refl (pair-item-typed u w a b ps x y j h f k l) m

  brace-typed : (ts : List Ty) (v : Value) → brace_fits ts ≡ true → ((u : Ty) → ItemsOf u ts → HasType ρ (set_of u) v) → HasType ρ (brace_type ts) v
  brace-typed ts v e h = let r = items_of ts e in subst (λ (u : Ty). HasType ρ u v) (sym r.2) (h r.0 r.1)

  pairs-brace-typed : (ts : List (Ty × Ty)) (v : Value) (j : ℕ) → pairs_fit ts ≡ true → over_fault Γ.givens (pairs_type ts).over j ≡ []
      → ((u w : Ty) → PairsOf u w ts → over_fault Γ.givens (pairs_of_types u w).over j ≡ [] → HasType ρ (pairs_of_types u w) v) → HasType ρ (pairs_type ts) v
  pairs-brace-typed ts v j e f h =
      let r = pairs_of ts e in
      subst (λ (u : Ty). HasType ρ u v) (sym r.3) (h r.0 r.1 r.2 (subst (λ (u : Ty). over_fault Γ.givens u.over j ≡ []) r.3 f))

  -- ---- the induction

  mutual
    unfolding judge_term value OfSort

    pub term-typed : (t : Term) (i : ℕ) → (judge_term t Γ i).faults ≡ [] → HasType ρ (judge_term t Γ i).type (value t ρ)
    term-typed (number n) i e = tt
    term-typed (name x) i e = let k = parts.name-parts x Γ i e in subst (λ (u : Ty). HasType ρ u (value_of ρ x)) (sym k.2) (name_typed x k.0 k.1)
    term-typed (group t) i e = term-typed t (suc i) e
    term-typed (prefix o t) i e =
        let k = parts.prefix-parts o t Γ i e in
        prefix-value ρ o (judge_term t Γ (suc i)).type (value t ρ) k.1 (term-typed t (suc i) k.0)
    term-typed (binary o t u) i e =
        let k = parts.binary-parts o t u Γ i e in
        let j = suc (judge_term t Γ i).next in
        operator-value ρ o (judge_term t Γ i).type (judge_term u Γ j).type (value t ρ) (value u ρ) k.2 (term-typed t i k.0) (term-typed u j k.1)
    term-typed (divided o t d) i e = tt
    term-typed (listed ts) i e =
        let k = parts.listed-parts ts Γ i e in
        brace-typed (judge_items ts Γ (suc i)).types (items_value ts ρ) k.1 (λ u h. items-typed ts (suc i) k.0 u h)
    term-typed (pairs ts) i e =
        let k = parts.pairs-parts ts Γ i e in
        pairs-brace-typed (judge_pairs ts Γ (suc i)).types (pairs_value ts ρ) i k.1 k.2 (λ u w h f. pairs-typed ts (suc i) k.0 u w h i f)
    term-typed (such x g p) i e =
        over-typed g (λ n. sets.set_of n (λ k. holds p (with ρ x (val.element n k)))) (λ n. set_below n _) (i + 3)
        (parts.such-parts x g p Γ i e).1
    term-typed (empty_set g) i e = over-typed g (λ n. 0) (λ n. pow_pos n) (suc i) e
    term-typed (empty_pairs g h) i e = empty-pairs-typed g h i e

    pub items-typed : (ts : Items) (i : ℕ) → (judge_items ts Γ i).faults ≡ [] → (u : Ty) → ItemsOf u (judge_items ts Γ i).types
        → HasType ρ (set_of u) (items_value ts ρ)
    items-typed (only t) i e u h = item-typed u (judge_term t Γ i).type [] (value t ρ) h (term-typed t i e)
    items-typed (also t ts) i e u h =
        let k = parts.also-parts t ts Γ i e in
        let j = suc (judge_term t Γ i).next in
        let l = (judge_items ts Γ j).types in
        also-typed u (judge_term t Γ i).type l (value t ρ) (items_value ts ρ) h (term-typed t i k.0)
        (items-typed ts j k.1 u (items-split u (judge_term t Γ i).type l h).1)

    pub pairs-typed : (ts : Pairs) (i : ℕ) → (judge_pairs ts Γ i).faults ≡ [] → (u w : Ty) → PairsOf u w (judge_pairs ts Γ i).types
        → (j : ℕ) → over_fault Γ.givens (pairs_of_types u w).over j ≡ [] → HasType ρ (pairs_of_types u w) (pairs_value ts ρ)
    pairs-typed (only_pair t r) i e u w h j f =
        let k = parts.only-pair-parts t r Γ i e in
        let m = suc (judge_term t Γ i).next in
        pair-item-typed u w (judge_term t Γ i).type (judge_term r Γ m).type [] (value t ρ) (value r ρ) j h f (term-typed t i k.0) (term-typed r m k.1)
    pairs-typed (also_pair t r ts) i e u w h j f =
        let k = parts.also-pair-parts t r ts Γ i e in
        let m = suc (judge_term t Γ i).next in
        let n = suc (judge_term r Γ m).next in
        let l = (judge_pairs ts Γ n).types in
        also-pair-typed u w (judge_term t Γ i).type (judge_term r Γ m).type l (value t ρ) (value r ρ) (pairs_value ts ρ) j h f
        (term-typed t i k.0) (term-typed r m k.1)
        (pairs-typed ts n k.2 u w (pairs-split u w ((judge_term t Γ i).type, (judge_term r Γ m).type) l h).2 j f)

-- ---- the theorems

pub typed-term : (t : Term) (Γ : Scope) (ρ : Environment) (i : ℕ) → InReach Γ → Carried Γ ρ → TermWithin t → (judge_term t Γ i).faults ≡ []
    → HasType ρ (judge_term t Γ i).type (value t ρ)
typed-term t Γ ρ i s c w e = term-typed Γ ρ s c t i e

-- the items of a brace that fits
pub typed-items : (ts : Items) (Γ : Scope) (ρ : Environment) (i : ℕ) → InReach Γ → Carried Γ ρ → ItemsWithin ts → (judge_items ts Γ i).faults ≡ []
    → brace_fits (judge_items ts Γ i).types ≡ true → HasType ρ (brace_type (judge_items ts Γ i).types) (items_value ts ρ)
typed-items ts Γ ρ i s c w e f = brace-typed Γ ρ s c (judge_items ts Γ i).types (items_value ts ρ) f (λ u h. items-typed Γ ρ s c ts i e u h)

-- the pairs of a brace that fits and is over at most 16 pairs
pub typed-pairs : (ts : Pairs) (Γ : Scope) (ρ : Environment) (i j : ℕ) → InReach Γ → Carried Γ ρ → PairsWithin ts → (judge_pairs ts Γ i).faults ≡ []
    → pairs_fit (judge_pairs ts Γ i).types ≡ true → over_fault Γ.givens (pairs_type (judge_pairs ts Γ i).types).over j ≡ []
    → HasType ρ (pairs_type (judge_pairs ts Γ i).types) (pairs_value ts ρ)
typed-pairs ts Γ ρ i j s c w e f o =
    pairs-brace-typed Γ ρ s c (judge_pairs ts Γ i).types (pairs_value ts ρ) j f o (λ u r h k. pairs-typed Γ ρ s c ts i e u r h j k)
