-- The entries of a whole dossier's table tell the slots of both states, plain and primed, and the elements; and still tell them once parameters are written.
-- Each list of slots has a field of its own: which entries are written behind it differs from list to list, and so does its chain of `kept`.
use mathlib.Core.Path.{◌≡◌}
use mathlib.Core.Bool.{true}
use mathlib.Core.List.{List, [], ◌∷◌, ◌++◌}
use Prim.Native.Nat.{ℕ, suc, ◌+◌, ◌≤◌}
use native.Mathlib.Omega.{arith}
use lib.ListN.{length}
use Rattle.lexical.specs.Symbols.{Name, Ending, no_ending, prime}
use Rattle.form.specs.Tree.{Letters, Given, Declaration, declarations, Parameter, Operation, Dossier}
use Rattle.form.specs.Headings.{givens_at, abstract_at, concrete_at, operations_at, operation_length}
use Rattle.form.specs.Codes.{Numbering}
use Rattle.static_rules.specs.Carriers.{Variable, ending_code, plain}
use Rattle.static_rules.specs.Scope.{given_names, state_names, abstract_taken, concrete_taken, unprimed, primed, variables}
use Rattle.static_rules.specs.Names.{new_name, given_faults, parameter_faults, operation_faults, name_faults}
use Rattle.names.proofs.ReachTables.{Numbered}
use Rattle.names.proofs.PassAgreesUse.{in_use, use-left, use-right}
use Rattle.names.proofs.PassAgreesGivens.{Holds}
use Rattle.static_rules.proofs.Faultless as parts
use Rattle.names.proofs.PassAgrees.{DossierIn}
use Rattle.table_nodes.specs.TableByNumber.{Places}
use Rattle.table_places.specs.ResolvedTable.{slot_of, Slots, slotted}
use Rattle.table_places.specs.DossierTable.{abstract_slots, concrete_slots}
use Rattle.table_places.specs.DossierTableByNumber.{states_placed}
use Rattle.search_groups.specs.GroupPromises.{Few}
use Rattle.tables.proofs.SlotPlaces.{no_slot, Named, named-slot, into, Slotted, Elements, Below, Off, Out, own, kept, elements-kept, slotted-below}
use Rattle.tables.proofs.DeclaredPlaces.{Declared, faultless, declared-off, declared-once, declared-ended, declared-used, variables-few, placing-holds}
use Rattle.tables.proofs.ElementPlaces.{into_givens, givens-hold, givens-at, element-plain, element-letters}
use Rattle.tables.proofs.ParameterPlaces.{Parametrised, parametrised, numbered, numbered-ended}
use Rattle.refusals.proofs.FaultLists.{append_nil-both}

-- ---- a dossier without faults ----

-- parameters of operations without faults
pub data Operated (gs : List Given) : List Operation → Type 0 where
  none_operated : Operated gs []
  one_operated : {o : Operation} {os : List Operation} → Parametrised gs [] o.parameters → Operated gs os → Operated gs (o ∷ os)

operated : (gs : List Given) (xs : List Letters) (i : ℕ) (os : List Operation) → operation_faults gs xs i os ≡ [] → Operated gs os
unfolding operation_faults
operated gs xs i [] e = none_operated
operated gs xs i (o ∷ os) e =
    let p = parameter_faults gs [] (i + 2) o.parameters in
    let a = append_nil-both (new_name xs o.title (suc i) ++ p) (operation_faults gs (o.title ∷ xs) (i + operation_length o) os) e in
    let b = append_nil-both (new_name xs o.title (suc i)) p a.0 in
    one_operated (parametrised gs [] (i + 2) o.parameters b.1) (operated gs (o.title ∷ xs) (i + operation_length o) os a.1)

pub record Separate (d : Dossier) : Type 0 where
  pub givens_are : given_faults [] (givens_at d) d.givens ≡ []
  pub abstract_are : Declared d.givens (given_names d.givens) (declarations d.abstract)
  pub concrete_are : Declared d.givens (abstract_taken d) (declarations d.concrete)
  pub operations_are : Operated d.givens d.operations

pub no-faults : (d : Dossier) → name_faults d ≡ [] → Separate d
no-faults d e =
    let p = parts.faultless d e in
    record {
      givens_are = p.givens_new;
      abstract_are = faultless d.givens (given_names d.givens) (suc (abstract_at d)) (declarations d.abstract) p.abstract_new;
      concrete_are = faultless d.givens (abstract_taken d) (suc (concrete_at d)) (declarations d.concrete) p.concrete_new;
      operations_are = operated d.givens (concrete_taken d) (operations_at d) d.operations p.operations_new;
    }

-- ---- lists of slots apart ----

pub below : (s : ℕ) (vs : List Variable) → s + length vs ≤ 64 → Below (slotted s vs)
below s vs h y w e = omega (arith, slotted-below s vs y w e)

apart : {Q R : Name → Type 0} {W U : Slots} → Named Q W → Named R U → ((y : Name) → Q y → R y → ⊥) → Off W U
apart {U = U} n m h y w e = no_slot (slot_of U y) (λ u k. h y (named-slot n y w e) (named-slot m y u k))

-- names of variables that are in use where others are declared
used-off : {gs : List Given} (zs : List Letters) {xs : List Letters} {W : Slots} {ds : List Declaration} → Named (λ (y : Name). in_use zs (plain y.letters) ≡ true) W → Declared gs xs ds
    → ((y : Name) → in_use zs y ≡ true → in_use xs y ≡ true) → (e : Ending) (s : ℕ) → Off W (slotted s (variables gs e ds))
used-off zs n h k e s y w q = declared-off h e s y (k (plain y.letters) (named-slot n y w q))

elements-out : {gs : List Given} {xs : List Letters} {ds : List Declaration} → Declared gs xs ds → ((y : Name) → in_use (given_names gs) y ≡ true → in_use xs y ≡ true) → (e : Ending) (s : ℕ)
    → Out gs (slotted s (variables gs e ds))
elements-out {gs = gs} h k e s y g q = declared-off h e s y (k (plain y.letters) (element-letters gs y g q))

-- ---- the entries ----

abbrev pub abstract_primed : Dossier → Slots
abstract_primed d = slotted 30 (primed d d.abstract)

abbrev pub concrete_primed : Dossier → Slots
concrete_primed d = slotted 22 (primed d d.concrete)

-- what the entries f tell of both states and of the elements
pub record Told (d : Dossier) (f : Name → ℕ) : Type 0 where
  pub abstract_told : Slotted (abstract_slots d) f
  pub abstract_primed_lem : Slotted (abstract_primed d) f
  pub concrete_told : Slotted (concrete_slots d) f
  pub concrete_primed_lem : Slotted (concrete_primed d) f
  pub elements_told : Elements d.givens f

abbrev abstract_entries : Dossier → (Name → ℕ) → Name → ℕ
abstract_entries d f = into (abstract_primed d) (into (abstract_slots d) (into_givens d.givens f))

abbrev pub state_entries : Dossier → (Name → ℕ) → Name → ℕ
state_entries d f = into (concrete_primed d) (into (concrete_slots d) (abstract_entries d f))

module _ (d : Dossier) (h : Separate d) where
  -- variables of one state, plain and primed, have different endings
  primes-off : {xs : List Letters} {ds : List Declaration} → Declared d.givens xs ds → (s r : ℕ)
      → Off (slotted s (variables d.givens no_ending ds)) (slotted r (variables d.givens prime ds))
  primes-off k s r = apart (declared-ended k no_ending s) (declared-ended k prime r) (λ y p q. omega arith)

  -- and those of the concrete state are new where the abstract ones are in use
  concrete-off : (e g : Ending) (s r : ℕ) → Off (slotted s (variables d.givens e (declarations d.abstract))) (slotted r (variables d.givens g (declarations d.concrete)))
  concrete-off e g s r =
      used-off (state_names d.abstract) (declared-used h.abstract_are e s) h.concrete_are (λ y k. use-left (state_names d.abstract) (given_names d.givens) y k) g r

  abstract-out : (e : Ending) (s : ℕ) → Out d.givens (slotted s (variables d.givens e (declarations d.abstract)))
  abstract-out e s = elements-out h.abstract_are (λ y k. k) e s

  concrete-out : (e : Ending) (s : ℕ) → Out d.givens (slotted s (variables d.givens e (declarations d.concrete)))
  concrete-out e s = elements-out h.concrete_are (λ y k. use-right (state_names d.abstract) (given_names d.givens) y k) e s

  pub states-told : Few d → (f : Name → ℕ) → Told d (state_entries d f)
  states-told few f =
      let m : (e : Ending) → length (variables d.givens e (declarations d.abstract)) ≤ 8
      = λ e. omega (arith, variables-few d.givens e (declarations d.abstract), few.abstract) in
      let n : (e : Ending) → length (variables d.givens e (declarations d.concrete)) ≤ 8
      = λ e. omega (arith, variables-few d.givens e (declarations d.concrete), few.concrete) in
      let a = abstract_slots d in let b = abstract_primed d in let c = concrete_slots d in let q = concrete_primed d in
      let g = into_givens d.givens f in
      record {
        abstract_told =
            kept a q (into c (abstract_entries d f))
            (kept a c (abstract_entries d f)
            (kept a b (into a g) (own a g (declared-once h.abstract_are no_ending 0) (below 0 (unprimed d d.abstract) (omega (arith, m no_ending))))
            (primes-off h.abstract_are 0 30))
            (concrete-off no_ending no_ending 0 8))
            (concrete-off no_ending prime 0 22);
        abstract_primed_lem =
            kept b q (into c (abstract_entries d f))
            (kept b c (abstract_entries d f)
            (own b (into a g) (declared-once h.abstract_are prime 30) (below 30 (primed d d.abstract) (omega (arith, m prime))))
            (concrete-off prime no_ending 30 8))
            (concrete-off prime prime 30 22);
        concrete_told =
            kept c q (into c (abstract_entries d f))
            (own c (abstract_entries d f) (declared-once h.concrete_are no_ending 8) (below 8 (unprimed d d.concrete) (omega (arith, n no_ending))))
            (primes-off h.concrete_are 8 22);
        concrete_primed_lem =
            own q (into c (abstract_entries d f)) (declared-once h.concrete_are prime 22) (below 22 (primed d d.concrete) (omega (arith, n prime)));
        elements_told =
            elements-kept d.givens q (into c (abstract_entries d f))
            (elements-kept d.givens c (abstract_entries d f)
            (elements-kept d.givens b (into a g)
            (elements-kept d.givens a g (givens-at [] (givens_at d) d.givens h.givens_are f) (abstract-out no_ending 0)) (abstract-out prime 30))
            (concrete-out no_ending 8))
            (concrete-out prime 22);
      }

  -- parameters have other endings than variables and elements
  parameters-off : {xs : List Letters} {ds : List Declaration} → Declared d.givens xs ds → (e : Ending) → ending_code e ≤ 1 → (s : ℕ) (ps : List Parameter) (i o : ℕ)
      → Off (slotted s (variables d.givens e ds)) (numbered ps i o)
  parameters-off k e l s ps i o = apart (declared-ended k e s) (numbered-ended ps i o) (λ y p q. omega arith)

  pub parameters-told : (f : Name → ℕ) → Told d f → (ps : List Parameter) (i o : ℕ) → Told d (into (numbered ps i o) f)
  parameters-told f t ps i o =
      record {
        abstract_told = kept (abstract_slots d) (numbered ps i o) f t.abstract_told (parameters-off h.abstract_are no_ending (omega arith) 0 ps i o);
        abstract_primed_lem = kept (abstract_primed d) (numbered ps i o) f t.abstract_primed_lem (parameters-off h.abstract_are prime (omega arith) 30 ps i o);
        concrete_told = kept (concrete_slots d) (numbered ps i o) f t.concrete_told (parameters-off h.concrete_are no_ending (omega arith) 8 ps i o);
        concrete_primed_lem = kept (concrete_primed d) (numbered ps i o) f t.concrete_primed_lem (parameters-off h.concrete_are prime (omega arith) 22 ps i o);
        elements_told =
            elements-kept d.givens (numbered ps i o) f t.elements_told
            (λ y g e. no_slot (slot_of (numbered ps i o) y) (λ w k. omega (arith, element-plain d.givens y g e, named-slot (numbered-ended ps i o) y w k)));
      }

  pub states-hold : (ρ : Numbering) (P : Letters → Type 0) → Numbered ρ P → DossierIn P d → {T : Places} {f : Name → ℕ} → Holds ρ P T f → Holds ρ P (states_placed d T ρ) (state_entries d f)
  unfolding states_placed
  states-hold ρ P ν p w =
      placing-holds ρ P ν d.givens prime (declarations d.concrete) h.concrete_are p.concrete_in 22
      (placing-holds ρ P ν d.givens no_ending (declarations d.concrete) h.concrete_are p.concrete_in 8
      (placing-holds ρ P ν d.givens prime (declarations d.abstract) h.abstract_are p.abstract_in 30
      (placing-holds ρ P ν d.givens no_ending (declarations d.abstract) h.abstract_are p.abstract_in 0 (givens-hold ρ P ν p.givens_in w))))
