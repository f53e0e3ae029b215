-- Where the values of names are found: the places that a table shows for each name, and what a binder makes of both.
use mathlib.Core.Path.{◌≡◌, refl, ap, ◌∙◌, sym}
use mathlib.Core.Bool.{Bool, true, false, cond, false≢true}
use mathlib.Core.List.{List, [], ◌∷◌, map}
use mathlib.Core.Option.{Option, none, some, none-ne-some}
use Prim.Native.Nat.{ℕ, ◌+◌, ◌-◌, ◌≤◌, ◌<◌}
use native.Mathlib.Omega.{arith}
use lib.Dec.{ltb}
use lib.ListN.{length, set, length-set}
use lib.Seq.{get_or-set_other}
use borrow.Author.Tests.{ltb-true, lt-ltb, le-ltb}
use Rattle.lexical.specs.Lists.{any, find}
use Rattle.refusals.specs.Refusals.{fault, name_unknown}
use Rattle.lexical.specs.Symbols.{Name, no_ending}
use Rattle.lexical.proofs.WordLaws.{same_refl}
use Rattle.form.specs.Tree.{Letters, Given, elements, name}
use Rattle.form.specs.Codes.{Numbering, node, number_of_name, name_number}
use Rattle.table_places.specs.StaticRulesCarriers.{Carrier, Variable, same_name, plain}
use Rattle.table_places.specs.StaticRulesTypes.{Ty}
use Rattle.table_places.specs.StaticRulesScope.{Scope, binding, type_of_name, element_of, place_in}
use Rattle.table_places.specs.StaticRulesNames.{of_name, judge_term}
use Rattle.type_rules.specs.TypesByNumber.{entry}
use Rattle.table_places.proofs.NamesReachTables.{Numbered}
use Rattle.table_places.proofs.NamesTypesAgreeScope.{any-there, find-here, find-there, each-name, written-entry}
use Rattle.table_nodes.specs.TableByNumber as table
use Rattle.table_nodes.specs.TableByNumber.{Places, next_slot}
use Rattle.table_places.specs.ResolvedTable as resolved
use Rattle.table_places.specs.ResolvedTable.{Slots, placed, slot_of}
use Rattle.refusals.proofs.FaultLists.{not_nil}

pub slot-here : (w : Name × ℕ) (W : Slots) (y : Name) → same_name w.0 y ≡ true → slot_of (w ∷ W) y ≡ some w
slot-here w W y e = find-here (λ (v : Name × ℕ). same_name v.0 y) w W e

pub slot-there : (w : Name × ℕ) (W : Slots) (y : Name) → same_name w.0 y ≡ false → slot_of (w ∷ W) y ≡ slot_of W y
slot-there w W y e = find-there (λ (v : Name × ℕ). same_name v.0 y) w W e

-- the number n tells where the value of the name x is: below 64 its slot, from 64 on its place among the elements
abbrev pub PlaceIs : Option (Name × ℕ) → Option Given → Name → ℕ → Type 0
PlaceIs (some w) g x n = (n ≡ w.1) × (w.1 < 64)
PlaceIs none none x n = Unit {0}
PlaceIs none (some g) x n = n ≡ 64 + place_in (elements g) x

-- the table of places shows the names in reach, each of which has a slot, and the elements
pub record PlacesShown (ρ : Numbering) (P : Letters → Type 0) (Γ : Scope) (W' : Slots) (W : Places) : Type 0 where
  pub long : 16384 ≤ length W
  pub slots : map (λ (w : Name × ℕ). w.0) W' ≡ map (λ (v : Variable). v.called) Γ.reach
  pub places : (x : Name) → P x.letters → PlaceIs (slot_of W' x) (element_of Γ.givens x) x (entry W (name_number ρ x))

-- ---- names ----

-- a name is found among some that are called so, or it is none of their names
none_any : {A : Type 0} (f : A → Name) (x : Name) (bs : List A) → find (λ (a : A). same_name (f a) x) bs ≡ none → any (λ (y : Name). same_name y x) (map f bs) ≡ false
unfolding find any
none_any f x [] e = refl
none_any {A} f x (a ∷ bs) e = on (same_name (f a) x) refl (none_any f x bs) e
  where
    on : (b : Bool) → same_name (f a) x ≡ b → (find (λ (a : A). same_name (f a) x) bs ≡ none → any (λ (y : Name). same_name y x) (map f bs) ≡ false)
        → ◌≡◌ {A = Option A} (elim b [ true ↦ some a | false ↦ find (λ (a : A). same_name (f a) x) bs ]) none → any (λ (y : Name). same_name y x) (f a ∷ map f bs) ≡ false
    on true p r h = absurd (none-ne-some a (sym h))
    on false p r h = any-there (λ (y : Name). same_name y x) (f a) (map f bs) p ∙ r h

any_none : {A : Type 0} (f : A → Name) (x : Name) (bs : List A) → any (λ (y : Name). same_name y x) (map f bs) ≡ false → find (λ (a : A). same_name (f a) x) bs ≡ none
unfolding find any
any_none f x [] e = refl
any_none {A} f x (a ∷ bs) e = on (same_name (f a) x) refl (any_none f x bs) e
  where
    on : (b : Bool) → same_name (f a) x ≡ b → (any (λ (y : Name). same_name y x) (map f bs) ≡ false → find (λ (a : A). same_name (f a) x) bs ≡ none)
        → ◌≡◌ {A = Bool} (elim b [ true ↦ true | false ↦ any (λ (y : Name). same_name y x) (map f bs) ]) false → find (λ (a : A). same_name (f a) x) (a ∷ bs) ≡ none
    on true p r h = absurd (false≢true (sym h))
    on false p r h = find-there (λ (a : A). same_name (f a) x) a bs p ∙ r h

slot_placed : (n w : ℕ) → n ≡ w → w < 64 → table.placed n ≡ node 2 0 w 0
unfolding table.placed
slot_placed n w e h = ap (λ (b : Bool). cond b (node 2 0 n 0) (node 1 0 (n - 64) 0)) (lt-ltb n 64 (omega arith)) ∙ ap (λ (m : ℕ). node 2 0 m 0) e

element-placed : (n k : ℕ) → n ≡ 64 + k → table.placed n ≡ node 1 0 k 0
unfolding table.placed
element-placed n k e =
    let m : n - 64 ≡ k = omega arith in
    ap (λ (b : Bool). cond b (node 2 0 n 0) (node 1 0 (n - 64) 0)) (le-ltb n 64 (omega arith)) ∙ ap (λ (m : ℕ). node 1 0 m 0) m

unfound : (o : Option Ty) (i : ℕ) → o ≡ none → {A : Type 0} → (of_name o i).faults ≡ [] → A
unfound o i e h = not_nil (fault i name_unknown) [] (sym (ap (λ (p : Option Ty). (of_name p i).faults) e) ∙ h)

module _ (ρ : Numbering) (P : Letters → Type 0) (Γ : Scope) (W' : Slots) (W : Places) (w : PlacesShown ρ P Γ W' W) where
  -- a name without a slot that is no element is not in reach
  out_of-reach : (x : Name) → slot_of W' x ≡ none → element_of Γ.givens x ≡ none → type_of_name Γ x ≡ none
  unfolding type_of_name
  out_of-reach x e f =
      rw (
        any_none (λ (v : Variable). v.called) x Γ.reach
            (sym (ap (any (λ (y : Name). same_name y x)) w.slots) ∙ none_any (λ (w : Name × ℕ). w.0) x W' e),
        f,
      )
      refl

  pub name-resolved : (x : Name) → P x.letters → (i : ℕ) → (judge_term (name x) Γ i).faults ≡ [] → table.placed (entry W (name_number ρ x)) ≡ resolved.name_table Γ W' x
  unfolding judge_term resolved.name_table
  name-resolved x px i e = on (slot_of W' x) refl (element_of Γ.givens x) refl (w.places x px)
    where
      on : (o : Option (Name × ℕ)) → slot_of W' x ≡ o → (g : Option Given) → element_of Γ.givens x ≡ g → PlaceIs o g x (entry W (name_number ρ x))
          → table.placed (entry W (name_number ρ x)) ≡ placed o g x
      on (some v) p g q h = slot_placed (entry W (name_number ρ x)) v.1 h.0 h.1
      on none p (some g) q h = element-placed (entry W (name_number ρ x)) (place_in (elements g) x) h
      on none p none q h = unfound (type_of_name Γ x) i (out_of-reach x p q) e

-- ---- binders ----

pub next_small : (s : ℕ) → next_slot s ≤ 63
unfolding next_slot
next_small s = on (ltb s 63) refl
  where
    on : (b : Bool) → ltb s 63 ≡ b → cond b (s + 1) 63 ≤ 63
    on true e = omega (arith, ltb-true s 63 e)
    on false e = omega arith

module _ (ρ : Numbering) (P : Letters → Type 0) (ν : Numbered ρ P) (Γ : Scope) (W' : Slots) (W : Places) (w : PlacesShown ρ P Γ W' W)
    (x : Letters) (px : P x) (c : Carrier) (s : ℕ) (small : s ≤ 63) where
  PlaceAt : Name → Type 0
  PlaceAt y = PlaceIs (slot_of ((plain x, s) ∷ W') y) (element_of Γ.givens y) y (entry (set W (number_of_name ρ x no_ending) s) (name_number ρ y))

  other_place : (y : Name) → P y.letters → same_name (plain x) y ≡ false → (name_number ρ y ≡ number_of_name ρ x no_ending → ⊥) → PlaceAt y
  unfolding PlaceAt
  other_place y py e h = rw (slot-there (plain x, s) W' y e, get_or-set_other W _ _ s 0 h) (w.places y py)

  this_place : PlaceAt (plain x)
  unfolding PlaceAt same_name
  this_place = rw (slot-here (plain x, s) W' (plain x) (same_refl x), written-entry ρ P ν x px W s w.long) (refl, omega arith)

  bound-place : (y : Name) → P y.letters → PlaceAt y
  bound-place = each-name ρ P ν x px PlaceAt this_place other_place

  -- the names in reach inside a binder are shown by the table with the bound name's slot in it
  pub bound-placed : PlacesShown ρ P (binding Γ x c) ((plain x, s) ∷ W') (set W (number_of_name ρ x no_ending) s)
  unfolding PlaceAt
  bound-placed =
      record {
        long = omega (arith, length-set W (number_of_name ρ x no_ending) s, w.long);
        slots = ap (λ (l : List Name). plain x ∷ l) w.slots;
        places = bound-place;
      }
