-- Slots of names written into a table of places one behind the other. No name has two of them, so that the entry of each is its slot; and no later list
-- takes the place of an earlier one's names, nor of an element.
use mathlib.Core.Path.{◌≡◌, refl, ap, ◌∙◌, sym, subst}
use mathlib.Core.Bool.{Bool, true, false, cond}
use mathlib.Core.List.{List, [], ◌∷◌, ◌++◌, map}
use mathlib.Core.Option.{Option, none, some, none-ne-some}
use Prim.Native.Nat.{ℕ, suc, ◌+◌, ◌<◌}
use native.Mathlib.Omega.{arith}
use lib.ListN.{length, set, length-set}
use Rattle.lexical.specs.Lists.{find}
use Rattle.lexical.specs.Symbols.{Name}
use Rattle.form.specs.Tree.{Letters, Given, elements}
use Rattle.form.specs.Codes.{Numbering, name_number}
use Rattle.static_rules.specs.Carriers.{Variable, same_name}
use Rattle.static_rules.specs.Scope.{element_of, place_in}
use Rattle.names.proofs.ReachTables.{Numbered}
use Rattle.names.proofs.PassAgreesTables.{same-name, name-refl, changed}
use Rattle.names.proofs.PassAgreesGivens.{Holds, entered}
use Rattle.names.proofs.PassAgreesStates.{scope}
use Rattle.table_nodes.specs.TableByNumber.{Places}
use Rattle.table_places.specs.ResolvedTable.{slot_of, Slots, slotted}
use Rattle.search_groups.proofs.ScopePlaces.{slot-here, slot-there, PlaceIs, PlacesShown}

pub no_slot : (o : Option (Name × ℕ)) → ((w : Name × ℕ) → o ≡ some w → ⊥) → o ≡ none
no_slot none h = refl
no_slot (some w) h = absurd (h w refl)

same-slot : (v w : Name × ℕ) → ◌≡◌ {A = Option (Name × ℕ)} (some v) (some w) → v.1 ≡ w.1
same-slot v w e = cc

-- ---- slots as they are searched ----

-- a slot that is found is the first, or found behind it
pub first-or_later : (v : Name × ℕ) (W : Slots) (y : Name) (w : Name × ℕ) → slot_of (v ∷ W) y ≡ some w → {Q : Type 0}
    → (same_name v.0 y ≡ true → ◌≡◌ {A = Option (Name × ℕ)} (some v) (some w) → Q) → (same_name v.0 y ≡ false → slot_of W y ≡ some w → Q) → Q
unfolding find
first-or_later v W y w e {Q} here there = on (same_name v.0 y) refl e
  where
    on : (b : Bool) → same_name v.0 y ≡ b → ◌≡◌ {A = Option (Name × ℕ)} (elim b [ true ↦ some v | false ↦ slot_of W y ]) (some w) → Q
    on true k h = here k h
    on false k h = there k h

pub append-slot : (W U : Slots) (y : Name) (w : Name × ℕ) → slot_of (W ++ U) y ≡ some w → {Q : Type 0} → (slot_of W y ≡ some w → Q) → (slot_of U y ≡ some w → Q) → Q
append-slot [] U y w e left right = right e
append-slot (v ∷ W) U y w e left right =
    first-or_later v (W ++ U) y w e (λ k h. left (slot-here v W y k ∙ h)) (λ k h. append-slot W U y w h (λ l. left (slot-there v W y k ∙ l)) right)

-- every name has some property
pub data Named (Q : Name → Type 0) : Slots → Type 0 where
  no_named : Named Q []
  one_named : {w : Name × ℕ} {W : Slots} → Q w.0 → Named Q W → Named Q (w ∷ W)

pub named-slot : {Q : Name → Type 0} {W : Slots} → Named Q W → (y : Name) (w : Name × ℕ) → slot_of W y ≡ some w → Q y
unfolding find
named-slot no_named y w e = absurd (none-ne-some _ e)
named-slot {Q} (one_named {w = v} {W = W} q h) y w e = first-or_later v W y w e (λ k l. subst Q (same-name v.0 y k) q) (λ k l. named-slot h y w l)

pub named-map : {Q R : Name → Type 0} → ((y : Name) → Q y → R y) → {W : Slots} → Named Q W → Named R W
named-map f no_named = no_named
named-map f (one_named {w = w} q h) = one_named (f w.0 q) (named-map f h)

-- no name comes twice
pub data Once : Slots → Type 0 where
  no_once : Once []
  one_once : {w : Name × ℕ} {W : Slots} → slot_of W w.0 ≡ none → Once W → Once (w ∷ W)

-- ---- slots as they are written ----

-- the entries once the slots are written, f being those of before
unfoldable pub into : Slots → (Name → ℕ) → Name → ℕ
into [] f = f
into (w ∷ W) f = into W (entered w.0 w.1 f)

pub into-none : (W : Slots) (f : Name → ℕ) (y : Name) → slot_of W y ≡ none → into W f y ≡ f y
unfolding into find
into-none [] f y e = refl
into-none (w ∷ W) f y e = on (same_name w.0 y) refl e (into-none W (entered w.0 w.1 f) y)
  where
    on : (b : Bool) → same_name w.0 y ≡ b → ◌≡◌ {A = Option (Name × ℕ)} (elim b [ true ↦ some w | false ↦ slot_of W y ]) none
        → (slot_of W y ≡ none → into W (entered w.0 w.1 f) y ≡ entered w.0 w.1 f y) → into W (entered w.0 w.1 f) y ≡ f y
    on true k h r = absurd (none-ne-some _ (sym h))
    on false k h r = r h ∙ ap (λ (b : Bool). cond b w.1 (f y)) k

pub into-some : {W : Slots} → Once W → (f : Name → ℕ) (y : Name) (w : Name × ℕ) → slot_of W y ≡ some w → into W f y ≡ w.1
unfolding into find
into-some no_once f y w e = absurd (none-ne-some _ e)
into-some (one_once {w = v} {W = W} n h) f y w e =
    first-or_later v W y w e
    (λ k l. into-none W (entered v.0 v.1 f) y (ap (λ (x : Name). slot_of W x) (sym (same-name v.0 y k)) ∙ n)
    ∙ ap (λ (b : Bool). cond b v.1 (f y)) k ∙ same-slot v w l)
    (λ k l. into-some h (entered v.0 v.1 f) y w l)

-- ---- what the entries f tell ----

-- the slots W, all of them below 64
abbrev pub Slotted : Slots → (Name → ℕ) → Type 0
Slotted W f = (y : Name) (w : Name × ℕ) → slot_of W y ≡ some w → (f y ≡ w.1) × (w.1 < 64)

-- the elements
abbrev pub Elements : List Given → (Name → ℕ) → Type 0
Elements gs f = (y : Name) (g : Given) → element_of gs y ≡ some g → f y ≡ 64 + place_in (elements g) y

abbrev pub Below : Slots → Type 0
Below W = (y : Name) (w : Name × ℕ) → slot_of W y ≡ some w → w.1 < 64

-- no name of W is one of U; no element is one of U
abbrev pub Off : Slots → Slots → Type 0
Off W U = (y : Name) (w : Name × ℕ) → slot_of W y ≡ some w → slot_of U y ≡ none

abbrev pub Out : List Given → Slots → Type 0
Out gs U = (y : Name) (g : Given) → element_of gs y ≡ some g → slot_of U y ≡ none

pub own : (W : Slots) (f : Name → ℕ) → Once W → Below W → Slotted W (into W f)
own W f h b y w e = (into-some h f y w e, b y w e)

pub kept : (W U : Slots) (f : Name → ℕ) → Slotted W f → Off W U → Slotted W (into U f)
kept W U f h o y w e = (into-none U f y (o y w e) ∙ (h y w e).0, (h y w e).1)

pub elements-kept : (gs : List Given) (U : Slots) (f : Name → ℕ) → Elements gs f → Out gs U → Elements gs (into U f)
elements-kept gs U f h o y g e = into-none U f y (o y g e) ∙ h y g e

pub joined : (W U : Slots) (f : Name → ℕ) → Slotted W f → Slotted U f → Slotted (W ++ U) f
joined W U f h k y w e = append-slot W U y w e (h y w) (k y w)

-- ---- slots one behind the other ----

pub slotted-names : (s : ℕ) (vs : List Variable) → map (λ (w : Name × ℕ). w.0) (slotted s vs) ≡ map (λ (v : Variable). v.called) vs
unfolding slotted
slotted-names s [] = refl
slotted-names s (v ∷ vs) = ap (λ (l : List Name). v.called ∷ l) (slotted-names (suc s) vs)

pub slotted-below : (s : ℕ) (vs : List Variable) (y : Name) (w : Name × ℕ) → slot_of (slotted s vs) y ≡ some w → w.1 < s + length vs
unfolding slotted find
slotted-below s [] y w e = absurd (none-ne-some _ e)
slotted-below s (v ∷ vs) y w e =
    first-or_later (v.called, s) (slotted (suc s) vs) y w e (λ k l. let h = same-slot (v.called, s) w l in omega arith)
    (λ k l. omega (arith, slotted-below (suc s) vs y w l))

-- ---- tables ----

pub write : (ρ : Numbering) (P : Letters → Type 0) → Numbered ρ P → {T : Places} {f : Name → ℕ} → Holds ρ P T f → (x : Name) → P x.letters → (k : ℕ)
    → Holds ρ P (set T (name_number ρ x) k) (entered x k f)
write ρ P ν {T} {f} h x px k =
    record {
      long = omega (arith, length-set T (name_number ρ x) k, h.long);
      are =
          changed ρ P ν [] T h.long x px k (λ (y : Name) (n : ℕ). n ≡ entered x k f y) (sym (ap (λ (b : Bool). cond b k (f x)) (name-refl x)))
          (λ y py e. h.are y py ∙ sym (ap (λ (b : Bool). cond b k (f y)) e));
    }

-- a table whose entries tell the slots and the elements shows the scope
pub shown_by : (ρ : Numbering) (P : Letters → Type 0) (gs : List Given) (xs : List Letters) (vs : List Variable) (W : Slots) (f : Name → ℕ) (T : Places) → Holds ρ P T f
    → Slotted W f → Elements gs f → map (λ (w : Name × ℕ). w.0) W ≡ map (λ (v : Variable). v.called) vs → PlacesShown ρ P (scope gs xs vs) W T
shown_by ρ P gs xs vs W f T h s k e =
    record {
      long = h.long;
      slots = e;
      places =
          λ y py. subst (PlaceIs (slot_of W y) (element_of gs y) y) (sym (h.are y py)) (on y (slot_of W y) refl (element_of gs y) refl);
    }
  where
    on : (y : Name) (o : Option (Name × ℕ)) → slot_of W y ≡ o → (g : Option Given) → element_of gs y ≡ g → PlaceIs o g y (f y)
    on y (some w) p g q = s y w p
    on y none p (some g) q = k y g q
    on y none p none q = tt
