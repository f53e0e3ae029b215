-- Names and their slots: a name is found at the same place among the slots and among the values; a bound name takes the next slot. Assumes nothing.
use mathlib.Core.Path.{◌≡◌, refl, sym, ap, ◌∙◌}
use mathlib.Core.Bool.{Bool, true, false, cond}
use mathlib.Core.List.{List, [], ◌∷◌}
use mathlib.Core.Option.{Option, none, some}
use Prim.Native.Nat.{ℕ, suc, ◌+◌, ◌<◌, ◌≤◌}
use native.Mathlib.Omega.{arith}
use lib.ListN.{get_or, set, length-set}
use lib.Seq.{get_or-set_same, get_or-set_other}
use lib.IntN.{ℤ, pos}
use borrow.Author.Tests.{lt-ltb}
use Rattle.lexical.specs.Lists.{find}
use Rattle.lexical.specs.Symbols.{Name}
use Rattle.table_places.specs.FormTree.{Letters, Given, elements}
use Rattle.table_places.specs.FormCodes.{node}
use Rattle.value_types.specs.StaticRulesCarriers.{Carrier, same_name, plain}
use Rattle.value_types.specs.StaticRulesScope.{Scope, binding, element_of, place_in}
use Rattle.value_types.specs.MeaningValues.{Value}
use Rattle.value_types.specs.MeaningMeaning.{Binding, Environment, value_of, with}
use Rattle.value_types.specs.TypedValues.{InReach, Carried}
use Rattle.table_places.specs.TableNodesTableByNumber.{next_slot}
use Rattle.table_places.specs.ResolvedTable.{Slots, slot_of, name_table}
use Rattle.evaluation.specs.EvaluationByNumber.{Values}
use Rattle.evaluation.specs.SlotValues.{Slotted, Below, bound_slot, Held}

abbrev bound_to : Binding → Name → Option (Name × Value)
bound_to B x = find (λ (b : Name × Value). same_name b.0 x) B

-- a slot below s with the value of its name
record Slot (σ : Values) (s : ℕ) (w : Name × ℕ) (b : Name × Value) : Type 0 where
  low : w.1 < s
  is : get_or σ w.1 (pos 0) ≡ b.1.code

data Found (W : Slots) (B : Binding) (σ : Values) (s : ℕ) (x : Name) : Type 0 where
  missing : slot_of W x ≡ none → bound_to B x ≡ none → Found W B σ s x
  found : (w : Name × ℕ) (b : Name × Value) → slot_of W x ≡ some w → bound_to B x ≡ some b → Slot σ s w b → Found W B σ s x

-- the first of the three lists: slots and values stand side by side
found-both : (W : Slots) (B : Binding) (σ : Values) (s : ℕ) (x : Name) → Slotted W B σ → Below s W → Found W B σ s x
unfolding Slotted Below find
found-both [] [] σ s x h l = missing refl refl
found-both [] (b ∷ B) σ s x h l = absurd h
found-both (w ∷ W) [] σ s x h l = absurd h
found-both (w ∷ W) (b ∷ B) σ s x h l = go (same_name w.0 x) refl (found-both W B σ s x h.2 l.1)
  where
    go : (t : Bool) → same_name w.0 x ≡ t → Found W B σ s x → Found (w ∷ W) (b ∷ B) σ s x
    go true e r =
        let f : same_name b.0 x ≡ true = ap (λ (y : Name). same_name y x) (sym h.0) ∙ e in
        found w b (rw (find, e)) (rw (find, f)) (record { low = l.0; is = h.1 })
    go false e (missing p q) =
        let f : same_name b.0 x ≡ false = ap (λ (y : Name). same_name y x) (sym h.0) ∙ e in
        missing (rw (find, e) p) (rw (find, f) q)
    go false e (found v c p q r) =
        let f : same_name b.0 x ≡ false = ap (λ (y : Name). same_name y x) (sym h.0) ∙ e in
        found v c (rw (find, e) p) (rw (find, f) q) r

-- what the node of a name is, and that it has the value of the name
pub data Named (Γ : Scope) (W : Slots) (ρ : Environment) (σ : Values) (x : Name) : Type 0 where
  slot : (s : ℕ) → name_table Γ W x ≡ node 2 0 s 0 → s < 64 → (value_of ρ x).code ≡ get_or σ s (pos 0) → Named Γ W ρ σ x
  place : (n : ℕ) → name_table Γ W x ≡ node 1 0 n 0 → (value_of ρ x).code ≡ pos n → Named Γ W ρ σ x

pub name-found : (Γ : Scope) (W : Slots) (k : ℕ) (ρ : Environment) (σ : Values) (x : Name) → Held Γ W k ρ σ → Named Γ W ρ σ x
unfolding name_table value_of
name-found Γ W k ρ σ x h = go (found-both W ρ.values σ (bound_slot k) x h.slotted h.below) (element_of Γ.givens x) refl
  where
    go : Found W ρ.values σ (bound_slot k) x → (o : Option Given) → element_of Γ.givens x ≡ o → Named Γ W ρ σ x
    go (found w b p q r) o e =
        let l = r.low in
        let m = h.few in
        slot w.1 (rw (name_table, p)) (omega arith) (rw (value_of, q) (sym r.is))
    go (missing p q) none e =
        let f : element_of ρ.givens x ≡ none = ap (λ (gs : List Given). element_of gs x) h.carried.givens ∙ e in
        place 0 (rw (name_table, p, e)) (rw (value_of, q, f))
    go (missing p q) (some g) e =
        let f : element_of ρ.givens x ≡ some g = ap (λ (gs : List Given). element_of gs x) h.carried.givens ∙ e in
        place (place_in (elements g) x) (rw (name_table, p, e)) (rw (value_of, q, f))

-- ---- a name more

slotted-set : (W : Slots) (B : Binding) (σ : Values) (s : ℕ) (v : ℤ) → Slotted W B σ → Below s W → Slotted W B (set σ s v)
unfolding Slotted Below
slotted-set [] [] σ s v h l = tt
slotted-set [] (b ∷ B) σ s v h l = h
slotted-set (w ∷ W) [] σ s v h l = h
slotted-set (w ∷ W) (b ∷ B) σ s v h l =
    let d : w.1 ≡ s → ⊥ = λ e. let i = l.0 in omega arith in
    (h.0, get_or-set_other σ s w.1 v (pos 0) d ∙ h.1, slotted-set W B σ s v h.2 l.1)

below_more : (s : ℕ) (W : Slots) → Below s W → Below (suc s) W
unfolding Below
below_more s [] l = tt
below_more s (w ∷ W) l = let i = l.0 in (omega arith, below_more s W l.1)

pub next-slot : (k : ℕ) → k ≤ 3 → next_slot (bound_slot k) ≡ bound_slot (suc k)
unfolding next_slot
next-slot k h =
    let z : 38 + k + 1 ≡ 38 + suc k = omega arith in
    ap (λ (b : Bool). cond b (38 + k + 1) 63) (lt-ltb (38 + k) 63 (omega arith)) ∙ z

-- a bound name is held in the slot behind those in use
pub held_with : (Γ : Scope) (W : Slots) (k : ℕ) (ρ : Environment) (σ : Values) (x : Letters) (c : Carrier) (v : Value) → Held Γ W k ρ σ → suc k ≤ 3
    → InReach (binding Γ x c) → Carried (binding Γ x c) (with ρ x v)
    → Held (binding Γ x c) ((plain x, bound_slot k) ∷ W) (suc k) (with ρ x v) (set σ (bound_slot k) v.code)
unfolding Slotted Below
held_with Γ W k ρ σ x c v h f i d =
    let n = h.long in
    let z : suc (38 + k) ≡ 38 + suc k = omega arith in
    record {
      reach = i;
      carried = d;
      slotted = (refl, get_or-set_same σ (bound_slot k) v.code (pos 0) (omega arith), slotted-set W ρ.values σ (bound_slot k) v.code h.slotted h.below);
      below = (omega arith, rw z at (below_more (bound_slot k) W h.below));
      long = length-set σ (bound_slot k) v.code ∙ n;
      few = f;
    }
