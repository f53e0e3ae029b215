-- In each context of a dossier without faults the table of places shows the names in reach, each at its slot, and the elements.
use mathlib.Core.Path.{◌≡◌, refl, ap, ap₂, ◌∙◌, sym}
use mathlib.Core.List.{List, [], ◌∷◌, ◌++◌, map, append_assoc, map-append}
use Prim.Native.Nat.{ℕ, ◌+◌, ◌≤◌}
use native.Mathlib.Omega.{arith}
use lib.ListN.{length, replicate, length-replicate}
use Rattle.lexical.specs.Symbols.{Name}
use Rattle.form.specs.Tree.{Letters, inward, outward, Operation, Dossier}
use Rattle.form.specs.Headings.{operations_at, operation_length}
use Rattle.form.specs.Codes.{Numbering, name_number}
use Rattle.static_rules.specs.Carriers.{Variable}
use Rattle.static_rules.specs.Scope.{Context, abstract_taken, concrete_taken, unprimed, primed, inputs, outputs, operation_reach, operation_contexts, contexts}
use Rattle.static_rules.specs.Names.{name_faults}
use Rattle.type_rules.specs.TypesByNumber.{entry}
use Rattle.names.proofs.ReachTables.{Numbered}
use Rattle.names.proofs.PassAgreesGivens.{Holds}
use Rattle.names.proofs.PassAgreesStates.{scope}
use Rattle.names.proofs.PassAgreesOperations.{OperationsIn, no_operations, one_operation}
use Rattle.names.proofs.PassAgrees.{DossierIn}
use Rattle.table_nodes.specs.TableByNumber.{Places}
use Rattle.table_places.specs.ResolvedTable.{Slots, slotted}
use Rattle.table_places.specs.DossierTable.{abstract_slots, concrete_slots, parameter_slots, operation_slots, slots_of}
use Rattle.table_places.specs.DossierTableByNumber.{parameters_placed, operation_places, places_of}
use Rattle.search_groups.specs.GroupPromises.{FewEach, few_none, few_more, Few}
use Rattle.search_groups.proofs.ScopePlaces.{PlacesShown}
use Rattle.tables.proofs.SlotPlaces.{into, joined, slotted-names, shown_by}
use Rattle.tables.proofs.DeclaredPlaces.{parameters_few}
use Rattle.tables.proofs.ParameterPlaces.{numbered, parameters-slotted, parameters-hold}
use Rattle.tables.proofs.StatePlaces.{Operated, none_operated, one_operated, Separate, no-faults, below}
use Rattle.tables.proofs.StatePlaces.{abstract_primed, concrete_primed, Told, state_entries, states-told, parameters-told, states-hold}

-- contexts, each with its slots and its table of places
pub data AllPlaced (ρ : Numbering) (P : Letters → Type 0) : List Context → List Slots → List Places → Type 0 where
  none_placed : AllPlaced ρ P [] [] []
  one_placed : {c : Context} {cs : List Context} {W : Slots} {Ws : List Slots} {T : Places} {Ts : List Places} → PlacesShown ρ P c.scope W T → AllPlaced ρ P cs Ws Ts
      → AllPlaced ρ P (c ∷ cs) (W ∷ Ws) (T ∷ Ts)

-- ---- names in reach have the slots ----

abbrev Names : Slots → List Variable → Type 0
Names W vs = map (λ (w : Name × ℕ). w.0) W ≡ map (λ (v : Variable). v.called) vs

two-names : (W U : Slots) (vs us : List Variable) → Names W vs → Names U us → Names (W ++ U) (vs ++ us)
two-names W U vs us e f =
    map-append (λ (w : Name × ℕ). w.0) W U ∙ ap₂ (λ (k l : List Name). k ++ l) e f ∙ sym (map-append (λ (v : Variable). v.called) vs us)

four-names : (s t i o : ℕ) (vs us is os : List Variable) → Names ((slotted s vs ++ slotted t us) ++ (slotted i is ++ slotted o os)) (vs ++ us ++ is ++ os)
four-names s t i o vs us is os =
    two-names (slotted s vs ++ slotted t us) (slotted i is ++ slotted o os) (vs ++ us) (is ++ os)
    (two-names (slotted s vs) (slotted t us) vs us (slotted-names s vs) (slotted-names t us)) (two-names (slotted i is) (slotted o os) is os (slotted-names i is) (slotted-names o os))
    ∙ ap (λ (l : List Variable). map (λ (v : Variable). v.called) l) (sym (append_assoc (vs ++ us) is os))

-- ---- contexts ----

module _ (ρ : Numbering) (P : Letters → Type 0) (d : Dossier) {T : Places} (f : Name → ℕ) (w : Holds ρ P T f) (t : Told d f) (xs : List Letters) where
  abstract-placed : PlacesShown ρ P (scope d.givens xs (unprimed d d.abstract)) (abstract_slots d) T
  abstract-placed =
      shown_by ρ P d.givens xs (unprimed d d.abstract) (abstract_slots d) f T w t.abstract_told t.elements_told (slotted-names 0 (unprimed d d.abstract))

  concrete-placed : PlacesShown ρ P (scope d.givens xs (unprimed d d.concrete)) (concrete_slots d) T
  concrete-placed =
      shown_by ρ P d.givens xs (unprimed d d.concrete) (concrete_slots d) f T w t.concrete_told t.elements_told (slotted-names 8 (unprimed d d.concrete))

  both-placed : PlacesShown ρ P (scope d.givens xs (unprimed d d.abstract ++ unprimed d d.concrete)) (abstract_slots d ++ concrete_slots d) T
  both-placed =
      shown_by ρ P d.givens xs (unprimed d d.abstract ++ unprimed d d.concrete) (abstract_slots d ++ concrete_slots d) f T w
      (joined (abstract_slots d) (concrete_slots d) f t.abstract_told t.concrete_told) t.elements_told
      (two-names (abstract_slots d) (concrete_slots d) (unprimed d d.abstract) (unprimed d d.concrete)
      (slotted-names 0 (unprimed d d.abstract)) (slotted-names 8 (unprimed d d.concrete)))

module _ (ρ : Numbering) (P : Letters → Type 0) (ν : Numbered ρ P) (d : Dossier) (h : Separate d) where
  operations-placed : {os : List Operation} → OperationsIn P os → Operated d.givens os → FewEach os → (i : ℕ) (xs : List Letters) {T : Places} (f : Name → ℕ) → Holds ρ P T f → Told d f
      → AllPlaced ρ P (operation_contexts d i xs os) (operation_slots d os) (operation_places os T ρ)
  unfolding operation_contexts operation_slots operation_places
  operations-placed no_operations none_operated few_none i xs f w t = none_placed
  operations-placed (one_operation {o = o} {os = os} po tp pa pc ps) (one_operated n ns) (few_more a few) i xs {T} f w t =
      let f' = into (numbered o.parameters 16 19) f in
      let T' = parameters_placed o.parameters 16 19 T ρ in
      let w' = parameters-hold ρ P ν o.parameters tp 16 19 w in
      let t' = parameters-told d h f t o.parameters 16 19 in
      let I = slotted 16 (inputs d o) in
      let O = slotted 19 (outputs d o) in
      let k = joined I O f' (parameters-slotted d.givens inward n 16 19 f (below 16 (inputs d o) (omega (arith, parameters_few d inward o a))))
      (parameters-slotted d.givens outward n 16 19 f (below 19 (outputs d o) (omega (arith, parameters_few d outward o a)))) in
      one_placed
      (shown_by ρ P d.givens (o.title ∷ xs) (operation_reach d d.abstract o) (abstract_slots d ++ abstract_primed d ++ parameter_slots d o) f' T' w'
      (joined (abstract_slots d ++ abstract_primed d) (I ++ O) f' (joined (abstract_slots d) (abstract_primed d) f' t'.abstract_told t'.abstract_primed_lem) k) t'.elements_told
      (four-names 0 30 16 19 (unprimed d d.abstract) (primed d d.abstract) (inputs d o) (outputs d o)))
      (one_placed
      (shown_by ρ P d.givens (o.title ∷ xs) (operation_reach d d.concrete o) (concrete_slots d ++ concrete_primed d ++ parameter_slots d o) f' T' w'
      (joined (concrete_slots d ++ concrete_primed d) (I ++ O) f' (joined (concrete_slots d) (concrete_primed d) f' t'.concrete_told t'.concrete_primed_lem) k) t'.elements_told
      (four-names 8 22 16 19 (unprimed d d.concrete) (primed d d.concrete) (inputs d o) (outputs d o)))
      (operations-placed ps ns few (i + operation_length o) (o.title ∷ xs) f' w' t'))

-- from any table that is long enough: what is in reach has been written
pub all_placed : (ρ : Numbering) (P : Letters → Type 0) → Numbered ρ P → (d : Dossier) → name_faults d ≡ [] → DossierIn P d → Few d → (T : Places) → 16384 ≤ length T
    → AllPlaced ρ P (contexts d) (slots_of d) (places_of d T ρ)
unfolding contexts slots_of places_of
all_placed ρ P ν d e p few T long =
    let h = no-faults d e in
    let g : Name → ℕ = λ y. entry T (name_number ρ y) in
    let w = states-hold d h ρ P ν p (record { long = long; are = λ y py. refl }) in
    let t = states-told d h few g in
    one_placed (abstract-placed ρ P d (state_entries d g) w t (abstract_taken d))
    (one_placed (concrete-placed ρ P d (state_entries d g) w t (concrete_taken d))
    (one_placed (abstract-placed ρ P d (state_entries d g) w t (concrete_taken d))
    (one_placed (concrete-placed ρ P d (state_entries d g) w t (concrete_taken d))
    (one_placed (both-placed ρ P d (state_entries d g) w t (concrete_taken d))
    (operations-placed ρ P ν d h p.operations_in h.operations_are few.parameters (operations_at d) (concrete_taken d) (state_entries d g) w t)))))

pub places-shown : (ρ : Numbering) (P : Letters → Type 0) → Numbered ρ P → (d : Dossier) → name_faults d ≡ [] → DossierIn P d → Few d → (n : ℕ) → 16384 ≤ n
    → AllPlaced ρ P (contexts d) (slots_of d) (places_of d (replicate n 0) ρ)
places-shown ρ P ν d e p few n long = all_placed ρ P ν d e p few (replicate n 0) (omega (arith, length-replicate {A = ℕ} n 0))
