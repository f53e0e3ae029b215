-- Elements of given sets without faults: the table has each one's place in its set, and no variable has the name of an element.
use mathlib.Core.Path.{◌≡◌, refl, ap, ◌∙◌, sym}
use mathlib.Core.Bool.{Bool, true, false, cond, false≢true}
use mathlib.Core.List.{List, [], ◌∷◌, ◌++◌}
use mathlib.Core.Option.{Option, none, some, none-ne-some, some-injective}
use Prim.Native.Nat.{ℕ, suc, ◌+◌}
use native.Mathlib.Omega.{arith}
use Rattle.lexical.specs.Lists.{any, find}
use Rattle.lexical.specs.Symbols.{Name, Ending, no_ending, prime, query, shriek}
use Rattle.form.specs.Tree.{Letters, Given, elements}
use Rattle.form.specs.Headings.{given_length}
use Rattle.form.specs.Codes.{Numbering}
use Rattle.static_rules.specs.Carriers.{ending_code, same_name, plain}
use Rattle.static_rules.specs.Scope.{element_of, place_in, given_names}
use Rattle.static_rules.specs.Names.{new_name, element_faults, given_faults}
use Rattle.names.proofs.ReachTables.{Numbered}
use Rattle.names.proofs.PassAgreesUse.{in_use, use-left, use-right, use-here, use-there, elements-new, given-new, givens_new, element-use}
use Rattle.names.proofs.PassAgreesGivens.{AllIn, none_in, one_in, GivensIn, no_givens, one_given, Holds, entered}
use Rattle.names.proofs.PassAgreesParameters.{name_of, use-ending}
use Rattle.table_nodes.specs.TableByNumber.{Places}
use Rattle.table_places.specs.ResolvedTable.{slot_of, Slots}
use Rattle.table_places.specs.DossierTableByNumber.{elements_placed, givens_placed}
use Rattle.search_groups.proofs.ScopePlaces.{slot-there}
use Rattle.tables.proofs.SlotPlaces.{into, into-none, Elements, write}
use Rattle.refusals.proofs.FaultLists.{append_nil-both}

-- the places of elements, as slots from 64 on
unfoldable pub element_slots : (j : ℕ) → List Letters → Slots
element_slots j [] = []
element_slots j (e ∷ es) = (plain e, 64 + j) ∷ element_slots (suc j) es

unfoldable pub into_givens : List Given → (Name → ℕ) → Name → ℕ
into_givens [] f = f
into_givens (g ∷ gs) f = into_givens gs (into (element_slots 0 (elements g)) f)

-- ---- the table ----

module _ (ρ : Numbering) (P : Letters → Type 0) (ν : Numbered ρ P) where
  elements-hold : {es : List Letters} → AllIn P es → (j : ℕ) {T : Places} {f : Name → ℕ} → Holds ρ P T f → Holds ρ P (elements_placed es j T ρ) (into (element_slots j es) f)
  unfolding elements_placed element_slots into
  elements-hold none_in j h = h
  elements-hold (one_in {x = x} p k) j h = elements-hold k (suc j) (write ρ P ν h (plain x) p (64 + j))

  pub givens-hold : {gs : List Given} → GivensIn P gs → {T : Places} {f : Name → ℕ} → Holds ρ P T f → Holds ρ P (givens_placed gs T ρ) (into_givens gs f)
  unfolding givens_placed into_givens
  givens-hold no_givens h = h
  givens-hold (one_given p q r) h = givens-hold r (elements-hold q 0 h)

-- ---- the entries ----

place_here : (e : Letters) (es : List Letters) (y : Name) → same_name (plain e) y ≡ true → place_in (e ∷ es) y ≡ 0
unfolding place_in
place_here e es y h = ap (λ (b : Bool). elim b as (λ (c : Bool). ℕ) [ true ↦ 0 | false ↦ suc (place_in es y) ]) h

place-there : (e : Letters) (es : List Letters) (y : Name) → same_name (plain e) y ≡ false → place_in (e ∷ es) y ≡ suc (place_in es y)
unfolding place_in
place-there e es y h = ap (λ (b : Bool). elim b as (λ (c : Bool). ℕ) [ true ↦ 0 | false ↦ suc (place_in es y) ]) h

element-none : (j : ℕ) (es : List Letters) (y : Name) → in_use es y ≡ false → slot_of (element_slots j es) y ≡ none
unfolding element_slots any find
element-none j [] y e = refl
element-none j (x ∷ es) y e = on (same_name (plain x) y) refl e (element-none (suc j) es y)
  where
    on : (b : Bool) → same_name (plain x) y ≡ b → ◌≡◌ {A = Bool} (elim b [ true ↦ true | false ↦ in_use es y ]) false
        → (in_use es y ≡ false → slot_of (element_slots (suc j) es) y ≡ none) → slot_of ((plain x, 64 + j) ∷ element_slots (suc j) es) y ≡ none
    on true k h r = absurd (false≢true (sym h))
    on false k h r = slot-there (plain x, 64 + j) (element_slots (suc j) es) y k ∙ r h

element-at : (xs : List Letters) (i : ℕ) (es : List Letters) → element_faults xs i es ≡ [] → (j : ℕ) (f : Name → ℕ) (y : Name) → in_use es y ≡ true
    → into (element_slots j es) f y ≡ 64 + (j + place_in es y)
unfolding element_slots element_faults into any
element-at xs i [] n j f y e = absurd (false≢true e)
element-at xs i (x ∷ es) n j f y e =
    let a = (append_nil-both (new_name xs x i) (element_faults (x ∷ xs) (suc i) es) n).1 in
    on a (same_name (plain x) y) refl e (element-at (x ∷ xs) (suc i) es a (suc j) (entered (plain x) (64 + j) f) y)
  where
    on : element_faults (x ∷ xs) (suc i) es ≡ [] → (b : Bool) → same_name (plain x) y ≡ b → ◌≡◌ {A = Bool} (elim b [ true ↦ true | false ↦ in_use es y ]) true
        → (in_use es y ≡ true → into (element_slots (suc j) es) (entered (plain x) (64 + j) f) y ≡ 64 + (suc j + place_in es y))
        → into (element_slots (suc j) es) (entered (plain x) (64 + j) f) y ≡ 64 + (j + place_in (x ∷ es) y)
    on a true k h r =
        let p = place_here x es y k in
        let m : 64 + j ≡ 64 + (j + place_in (x ∷ es) y) = omega arith in
        into-none (element_slots (suc j) es) (entered (plain x) (64 + j) f) y (element-none (suc j) es y (elements-new (x ∷ xs) (suc i) es a y (use-here x xs y k)))
        ∙ ap (λ (b : Bool). cond b (64 + j) (f y)) k ∙ m
    on a false k h r =
        let p = place-there x es y k in
        let m : 64 + (suc j + place_in es y) ≡ 64 + (j + place_in (x ∷ es) y) = omega arith in
        r h ∙ m

givens-none : (gs : List Given) (f : Name → ℕ) (y : Name) → element_of gs y ≡ none → into_givens gs f y ≡ f y
unfolding into_givens element_of find
givens-none [] f y e = refl
givens-none (g ∷ gs) f y e = on (in_use (elements g) y) refl e (givens-none gs (into (element_slots 0 (elements g)) f) y)
  where
    on : (b : Bool) → in_use (elements g) y ≡ b → ◌≡◌ {A = Option Given} (elim b [ true ↦ some g | false ↦ element_of gs y ]) none
        → (element_of gs y ≡ none → into_givens gs (into (element_slots 0 (elements g)) f) y ≡ into (element_slots 0 (elements g)) f y)
        → into_givens gs (into (element_slots 0 (elements g)) f) y ≡ f y
    on true k h r = absurd (none-ne-some _ (sym h))
    on false k h r = r h ∙ into-none (element_slots 0 (elements g)) f y (element-none 0 (elements g) y k)

pub givens-at : (xs : List Letters) (i : ℕ) (gs : List Given) → given_faults xs i gs ≡ [] → (f : Name → ℕ) → Elements gs (into_givens gs f)
unfolding into_givens element_of find
givens-at xs i [] n f y h e = absurd (none-ne-some _ e)
givens-at xs i (g ∷ gs) n f y h e =
    let w = (given-new xs i g gs n).rest in
    on w (in_use (elements g) y) refl e (givens-at (given_names (g ∷ []) ++ xs) (i + given_length g) gs w (into (element_slots 0 (elements g)) f) y h)
  where
    on : given_faults (given_names (g ∷ []) ++ xs) (i + given_length g) gs ≡ [] → (b : Bool) → in_use (elements g) y ≡ b
        → ◌≡◌ {A = Option Given} (elim b [ true ↦ some g | false ↦ element_of gs y ]) (some h)
        → (element_of gs y ≡ some h → into_givens gs (into (element_slots 0 (elements g)) f) y ≡ 64 + place_in (elements h) y)
        → into_givens gs (into (element_slots 0 (elements g)) f) y ≡ 64 + place_in (elements h) y
    on w true k q r =
        let m : 64 + (0 + place_in (elements g) y) ≡ 64 + place_in (elements g) y = omega arith in
        givens-none gs (into (element_slots 0 (elements g)) f) y
        (givens_new (given_names (g ∷ []) ++ xs) (i + given_length g) gs w y (element-use g xs y k)).no_element
        ∙ element-at (g.title ∷ xs) (i + 2) (elements g) (given-new xs i g gs n).elements_are 0 f y k ∙ m
        ∙ ap (λ (k : Given). 64 + place_in (elements k) y) (some-injective g h q)
    on w false k q r = r q

-- ---- names of elements are in use ----

element-used : (gs : List Given) (y : Name) (h : Given) → element_of gs y ≡ some h → in_use (given_names gs) y ≡ true
unfolding element_of find given_names
element-used [] y h e = absurd (none-ne-some _ e)
element-used (g ∷ gs) y h e = on (in_use (elements g) y) refl e (element-used gs y h)
  where
    on : (b : Bool) → in_use (elements g) y ≡ b → ◌≡◌ {A = Option Given} (elim b [ true ↦ some g | false ↦ element_of gs y ]) (some h)
        → (element_of gs y ≡ some h → in_use (given_names gs) y ≡ true) → in_use (given_names (g ∷ gs)) y ≡ true
    on true k q r = use-there g.title (elements g ++ given_names gs) y (use-left (elements g) (given_names gs) y k)
    on false k q r = use-there g.title (elements g ++ given_names gs) y (use-right (elements g) (given_names gs) y (r q))

plain-is : (y : Name) → ending_code y.ending ≡ 0 → y ≡ plain y.letters
plain-is y e = on y.ending e
  where
    on : (d : Ending) → ending_code d ≡ 0 → name_of y.letters d ≡ plain y.letters
    on no_ending h = refl
    on prime h = absurd (omega arith)
    on query h = absurd (omega arith)
    on shriek h = absurd (omega arith)

pub element-plain : (gs : List Given) (y : Name) (h : Given) → element_of gs y ≡ some h → ending_code y.ending ≡ 0
element-plain gs y h e = use-ending (given_names gs) y (element-used gs y h e)

pub element-letters : (gs : List Given) (y : Name) (h : Given) → element_of gs y ≡ some h → in_use (given_names gs) (plain y.letters) ≡ true
element-letters gs y h e = sym (ap (λ (n : Name). in_use (given_names gs) n) (plain-is y (element-plain gs y h e))) ∙ element-used gs y h e
