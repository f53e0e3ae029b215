-- Names in reach: which given set a name stands for, what a carrier's values are, and that the value found for a name is of the carrier found for it.
use mathlib.Core.Path.{◌≡◌, refl, sym, ap, ◌∙◌, subst}
use mathlib.Core.Bool.{Bool, true, false, false≢true}
use mathlib.Core.Logic.{inl, inr}
use mathlib.Core.List.{List, [], ◌∷◌, map}
use mathlib.Core.Option.{Option, none, some, none-ne-some, some-injective}
use Prim.Native.Nat.{ℕ, suc, ◌*◌, ◌^◌, ◌<◌, ◌≤◌}
use native.Mathlib.Omega.{arith}
use lib.ListN.{length}
use Rattle.lexical.specs.Lists.{any, find, upward}
use Rattle.lexical.specs.Symbols.{Name, Ending, no_ending, prime, query, shriek}
use Rattle.lexical.proofs.WordLaws.{same_true}
use Rattle.meaning.specs.FormTree.{Letters, Arrow, relation, partial, total, Given, elements}
use Rattle.meaning.specs.StaticRulesCarriers.{Carrier, elements_of, numbers, subsets_of, pairs_in, Variable, size_of, largest, same_name, plain, given_of}
use Rattle.meaning.specs.StaticRulesTypes.{type_of}
use Rattle.meaning.specs.StaticRulesScope.{Scope, element_of, place_in}
use Rattle.sets.specs.Sets as sets
use Rattle.meaning.specs.Values as val
use Rattle.meaning.specs.Values.{Value}
use Rattle.meaning.specs.Meaning.{Binding, Environment, size_of_given, element_values}
use Rattle.meaning.specs.Bindings.{pair_sets, values_of, Among, Over}
use Rattle.meaning.proofs.Members.{map-among}
use Rattle.meaning.proofs.Distinct.{filter-among}
use Rattle.meaning.proofs.UpwardNumbers.{among-upward}
use Rattle.value_types.specs.TypedValues.{IsElementOf, IsSetOver, IsPairsOver, OfSort, HasType, CarrierFits, CarriersFit, InReach, Carried}

-- ---- lists

pub find-among : {A : Type 0} (f : A → Bool) (x : A) (xs : List A) → find f xs ≡ some x → Among x xs × (f x ≡ true)
unfolding find Among
find-among f x [] e = absurd (none-ne-some x e)
find-among {A = A} f x (y ∷ ys) e = on (f y) refl (find-among f x ys) e
  where
    on : (b : Bool) → f y ≡ b → (find f ys ≡ some x → Among x ys × (f x ≡ true)) → ◌≡◌ {A = Option A} (elim b [ true ↦ some y | false ↦ find f ys ]) (some x)
        → Among x (y ∷ ys) × (f x ≡ true)
    on true p r h = let q : y ≡ x = some-injective y x h in (inl (sym q), ap f (sym q) ∙ p)
    on false p r h = let k = r h in (inr k.0, k.1)

-- ---- given sets by their names

plain-name : (t : Letters) (y : Name) → same_name (plain t) y ≡ true → plain t ≡ y
unfolding same_name
plain-name t y e = on y.letters y.ending e
  where
    on : (l : Letters) (d : Ending) → same_name (plain t) (record { letters = l; ending = d }) ≡ true → plain t ≡ record { letters = l; ending = d }
    on l no_ending h = ap plain (same_true t l h)
    on l prime h = absurd (false≢true h)
    on l query h = absurd (false≢true h)
    on l shriek h = absurd (false≢true h)

pub given_is : (gs : List Given) (x : Name) (g : Given) → given_of gs x ≡ some g → Among g gs × (plain g.title ≡ x)
unfolding given_of
given_is gs x g e =
    let h = find-among (λ (k : Given). same_name (plain k.title) x) g gs e in
    (h.0, plain-name g.title x h.1)

pub element-is : (gs : List Given) (x : Name) (g : Given) → element_of gs x ≡ some g → Among g gs × (any (λ (e : Letters). same_name (plain e) x) (elements g) ≡ true)
unfolding element_of
element-is gs x g e = find-among (λ (k : Given). any (λ (l : Letters). same_name (plain l) x) (elements k)) g gs e

pub place-below : (es : List Letters) (x : Name) → any (λ (e : Letters). same_name (plain e) x) es ≡ true → place_in es x < length es
unfolding any place_in
place-below [] x e = absurd (false≢true e)
place-below (l ∷ es) x e = on (same_name (plain l) x) (place-below es x) e
  where
    on : (b : Bool) → (any (λ (k : Letters). same_name (plain k) x) es ≡ true → place_in es x < length es)
        → ◌≡◌ {A = Bool} (elim b [ true ↦ true | false ↦ any (λ (k : Letters). same_name (plain k) x) es ]) true
        → (elim b as (λ (c : Bool). ℕ) [ true ↦ 0 | false ↦ suc (place_in es x) ]) < suc (length es)
    on true r h = omega arith
    on false r h = omega (arith, r h)

abbrev pub size_in : Option Given → ℕ
size_in none = 0
size_in (some g) = size_of g

pair-sets-below : (a : Arrow) (n m s : ℕ) → Among s (pair_sets a n m) → s < 2 ^ (n * m)
unfolding pair_sets
pair-sets-below relation n m s h = omega (arith, (among-upward 0 (2 ^ (n * m)) s h).1)
pair-sets-below partial n m s h = omega (arith, (among-upward 0 (2 ^ (n * m)) s (filter-among (sets.is_partial n m) s (upward 0 (2 ^ (n * m))) h)).1)
pair-sets-below total n m s h = omega (arith, (among-upward 0 (2 ^ (n * m)) s (filter-among (sets.is_total n m) s (upward 0 (2 ^ (n * m))) h)).1)

pub named-size : (Γ : Scope) (ρ : Environment) → Carried Γ ρ → (x : Name) → size_of_given ρ x ≡ size_in (given_of Γ.givens x)
unfolding size_of_given
named-size Γ ρ c x = ap (λ (gs : List Given). size_in (given_of gs x)) c.givens

module _ (Γ : Scope) (ρ : Environment) (s : InReach Γ) (c : Carried Γ ρ) where
  pub given-size : (x : Name) (g : Given) → given_of Γ.givens x ≡ some g → size_of_given ρ x ≡ size_of g
  given-size x g e = named-size Γ ρ c x ∙ ap size_in e

  pub title-size : (g : Given) → Among g Γ.givens → size_of_given ρ (plain g.title) ≡ size_of g
  title-size g m = given-size (plain g.title) g (s.titled g m)

  -- ---- values of carriers

  pub element-value : (g : Given) (i : ℕ) → Among g Γ.givens → i < size_of g → HasType ρ (type_of (elements_of g)) (val.element (size_of g) i)
  unfolding OfSort
  element-value g i m h =
      subst (λ (n : ℕ). IsElementOf n (val.element (size_of g) i)) (sym (title-size g m))
      (record { over = refl; few = s.few g m; place = i; is = refl; below = h })

  pub set_value : (g : Given) (b : ℕ) → Among g Γ.givens → b < 2 ^ size_of g → HasType ρ (type_of (subsets_of g)) (val.set (size_of g) b)
  unfolding OfSort
  set_value g b m h =
      subst (λ (n : ℕ). IsSetOver n (val.set (size_of g) b)) (sym (title-size g m))
      (record { over = refl; few = s.few g m; bits = b; is = refl; below = h })

  pub pairs-value : (a : Arrow) (g h : Given) (b : ℕ) → Among g Γ.givens → Among h Γ.givens → size_of g * size_of h ≤ 16 → b < 2 ^ (size_of g * size_of h)
      → HasType ρ (type_of (pairs_in a g h)) (val.pairs (size_of g) (size_of h) b)
  unfolding OfSort
  pairs-value a g h b m k few l =
      subst (λ (n : ℕ). IsPairsOver n (size_of_given ρ (plain h.title)) (val.pairs (size_of g) (size_of h) b)) (sym (title-size g m))
      (subst (λ (n : ℕ). IsPairsOver (size_of g) n (val.pairs (size_of g) (size_of h) b)) (sym (title-size h k))
      (record { first_over = refl; second_over = refl; first_few = s.few g m; second_few = s.few h k; few = few; bits = b; is = refl; below = l }))

  pub carrier-value : (k : Carrier) (v : Value) → CarrierFits Γ.givens k → Among v (values_of k) → HasType ρ (type_of k) v
  unfolding CarrierFits values_of element_values OfSort
  carrier-value (elements_of g) v f m =
      let r = map-among (val.element (size_of g)) v (upward 0 (size_of g)) m in
      subst (HasType ρ (type_of (elements_of g))) (sym r.2) (element-value g r.0 f (omega (arith, (among-upward 0 (size_of g) r.0 r.1).1)))
  carrier-value (numbers a b) v f m = tt
  carrier-value (subsets_of g) v f m =
      let r = map-among (val.set (size_of g)) v (upward 0 (2 ^ size_of g)) m in
      subst (HasType ρ (type_of (subsets_of g))) (sym r.2) (set_value g r.0 f (omega (arith, (among-upward 0 (2 ^ size_of g) r.0 r.1).1)))
  carrier-value (pairs_in a g h) v f m =
      let r = map-among (val.pairs (size_of g) (size_of h)) v (pair_sets a (size_of g) (size_of h)) m in
      subst (HasType ρ (type_of (pairs_in a g h))) (sym r.2)
      (pairs-value a g h r.0 f.0 f.1 f.2 (pair-sets-below a (size_of g) (size_of h) r.0 r.1))

-- ---- names in reach

-- what is found for a name among the variables, among their values and among number 13's sizes
pub data Looked (gs : List Given) : Option Variable → Option (Name × Value) → Option (Name × ℕ) → Type 0 where
  nowhere : Looked gs none none none
  reached : (v : Variable) (b : Name × Value) → CarrierFits gs v.carrier → Among b.1 (values_of v.carrier)
      → Looked gs (some v) (some b) (some (v.called, largest v.carrier))

pub looked : (gs : List Given) (vs : List Variable) (bs : Binding) (x : Name) → CarriersFit gs vs → Over vs bs
    → Looked gs (find (λ (v : Variable). same_name v.called x) vs) (find (λ (b : Name × Value). same_name b.0 x) bs)
    (find (λ (y : Name × ℕ). same_name y.0 x) (map (λ (v : Variable). (v.called, largest v.carrier)) vs))
unfolding find CarriersFit Over
looked gs [] [] x f o = nowhere
looked gs [] (b ∷ bs) x f o = absurd o
looked gs (v ∷ vs) [] x f o = absurd o
looked gs (v ∷ vs) (b ∷ bs) x f o =
    on (same_name v.called x) (same_name b.0 x) (ap (λ (y : Name). same_name y x) (sym o.0)) (looked gs vs bs x f.1 o.2)
  where
    on : (p q : Bool) → p ≡ q
        → Looked gs (find (λ (w : Variable). same_name w.called x) vs) (find (λ (d : Name × Value). same_name d.0 x) bs)
        (find (λ (y : Name × ℕ). same_name y.0 x) (map (λ (w : Variable). (w.called, largest w.carrier)) vs))
        → Looked gs (elim p as (λ (c : Bool). Option Variable) [ true ↦ some v | false ↦ find (λ (w : Variable). same_name w.called x) vs ])
        (elim q as (λ (c : Bool). Option (Name × Value)) [ true ↦ some b | false ↦ find (λ (d : Name × Value). same_name d.0 x) bs ])
        (elim p as (λ (c : Bool). Option (Name × ℕ))
        [ true ↦ some (v.called, largest v.carrier) | false ↦ find (λ (y : Name × ℕ). same_name y.0 x) (map (λ (w : Variable). (w.called, largest w.carrier)) vs) ])
    on true true e r = reached v b f.0 o.1
    on true false e r = absurd (false≢true (sym e))
    on false true e r = absurd (false≢true e)
    on false false e r = r
