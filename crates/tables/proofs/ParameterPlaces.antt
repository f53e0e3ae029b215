-- Inputs and outputs declared without faults: the table has them in their declared order, the definitions have the inputs first.
use mathlib.Core.Path.{◌≡◌, refl, ap, ◌∙◌, sym}
use mathlib.Core.Bool.{Bool, true, false, not, false≢true}
use mathlib.Core.List.{List, [], ◌∷◌, ◌++◌, map}
use mathlib.Core.Option.{none, some, none-ne-some}
use Prim.Native.Nat.{ℕ, suc, ◌+◌, ◌≤◌}
use lib.ListN.{length}
use borrow.Author.Tests.{not-true}
use Rattle.lexical.specs.Lists.{any, find, filter}
use Rattle.lexical.specs.Symbols.{Name, query, shriek}
use Rattle.refusals.specs.Refusals.{fault, unless, name_in_use}
use Rattle.form.specs.Tree.{Letters, Given, Declaration, Direction, inward, outward, Parameter}
use Rattle.form.specs.Written.{ending_of, write_type}
use Rattle.form.specs.Codes.{Numbering}
use Rattle.static_rules.specs.Carriers.{Carrier, ending_code, same_name, carrier_of}
use Rattle.static_rules.specs.Scope as scopes
use Rattle.static_rules.specs.Scope.{variables, is_input, is_output}
use Rattle.static_rules.specs.Names.{type_faults, parameter_name, parameter_faults}
use Rattle.declared_names.specs.NamesByNumber.{parameters_of}
use Rattle.names.proofs.ReachTables.{Numbered}
use Rattle.names.proofs.TypesAgreeScope.{any_here}
use Rattle.names.proofs.PassAgreesTables.{same-name, name-refl}
use Rattle.names.proofs.PassAgreesTypes.{type-carries}
use Rattle.names.proofs.PassAgreesDeclared.{TypedIn, no_typed, one_typed}
use Rattle.names.proofs.PassAgreesGivens.{Holds}
use Rattle.names.proofs.PassAgreesParameters.{name_of, direction-ending}
use Rattle.table_nodes.specs.TableByNumber.{Places}
use Rattle.table_places.specs.ResolvedTable.{slot_of, Slots, slotted}
use Rattle.table_places.specs.DossierTableByNumber.{parameter_slot, next_input, next_output, parameters_placed}
use Rattle.search_groups.proofs.ScopePlaces.{slot-here, slot-there}
use Rattle.tables.proofs.SlotPlaces.{first-or_later, Named, no_named, one_named, Once, no_once, one_once, into, into-some, Slotted, Below, write}
use Rattle.tables.proofs.DeclaredPlaces.{group-one}
use Rattle.refusals.proofs.FaultLists.{append_nil-both, unless-nil}
use Rattle.std.proofs.lemmas.Bool.{false_from_ne_true}

-- the slots in declared order: the next input has the slot i, the next output the slot o
unfoldable pub numbered : List Parameter → (i o : ℕ) → Slots
numbered [] i o = []
numbered (x ∷ xs) i o = (parameter_name x, parameter_slot x.direction i o) ∷ numbered xs (next_input x.direction i) (next_output x.direction o)

abbrev called : List Parameter → Name → Bool
called xs y = any (λ (x : Parameter). same_name (parameter_name x) y) xs

called-there : (x : Parameter) (xs : List Parameter) (y : Name) → called xs y ≡ true → called (x ∷ xs) y ≡ true
unfolding any
called-there x xs y e = on (same_name (parameter_name x) y)
  where
    on : (b : Bool) → (elim b as (λ (c : Bool). Bool) [ true ↦ true | false ↦ called xs y ]) ≡ true
    on true = refl
    on false = e

-- parameters without faults behind the parameters xs
pub data Parametrised (gs : List Given) : List Parameter → List Parameter → Type 0 where
  no_parameters : {xs : List Parameter} → Parametrised gs xs []
  one_parameter : {xs : List Parameter} {y : Parameter} {ys : List Parameter} (c : Carrier) → called xs (parameter_name y) ≡ false → carrier_of gs y.declaration.type ≡ some c
      → Parametrised gs (y ∷ xs) ys → Parametrised gs xs (y ∷ ys)

pub parametrised : (gs : List Given) (xs : List Parameter) (i : ℕ) (ys : List Parameter) → parameter_faults gs xs i ys ≡ [] → Parametrised gs xs ys
unfolding parameter_faults
parametrised gs xs i [] e = no_parameters
parametrised gs xs i (y ∷ ys) e =
    let j = i + 3 + length (write_type y.declaration.type []) in
    let n = unless (not (called xs (parameter_name y))) (fault i name_in_use) in
    let a = append_nil-both (n ++ type_faults gs y.declaration.type (i + 2)) (parameter_faults gs (y ∷ xs) j ys) e in
    let b = append_nil-both n (type_faults gs y.declaration.type (i + 2)) a.0 in
    let c = type-carries gs y.declaration.type (i + 2) b.1 in
    one_parameter c.carrier (not-true (called xs (parameter_name y)) (unless-nil (not (called xs (parameter_name y))) (fault i name_in_use) b.0)) c.carries
    (parametrised gs (y ∷ xs) j ys a.1)

numbered-off : {gs : List Given} {xs ys : List Parameter} → Parametrised gs xs ys → (i o : ℕ) (y : Name) → called xs y ≡ true → slot_of (numbered ys i o) y ≡ none
unfolding numbered find
numbered-off no_parameters i o y u = refl
numbered-off (one_parameter {xs = xs} {y = x} {ys = ys} c f g h) i o y u =
    slot-there (parameter_name x, parameter_slot x.direction i o) (numbered ys (next_input x.direction i) (next_output x.direction o)) y
    (false_from_ne_true (same_name (parameter_name x) y) (λ k. absurd (false≢true (sym f ∙ ap (λ (n : Name). called xs n) (same-name (parameter_name x) y k) ∙ u))))
    ∙ numbered-off h (next_input x.direction i) (next_output x.direction o) y (called-there x xs y u)

-- no later parameter has the name of an earlier one
later_off : {gs : List Given} {xs ys : List Parameter} (x : Parameter) → Parametrised gs (x ∷ xs) ys → (i o : ℕ) → slot_of (numbered ys i o) (parameter_name x) ≡ none
later_off {xs = xs} x h i o = numbered-off h i o (parameter_name x) (any_here (λ (z : Parameter). same_name (parameter_name z) (parameter_name x)) x xs (name-refl (parameter_name x)))

pub numbered-once : {gs : List Given} {xs ys : List Parameter} → Parametrised gs xs ys → (i o : ℕ) → Once (numbered ys i o)
unfolding numbered
numbered-once no_parameters i o = no_once
numbered-once (one_parameter {y = x} c f g h) i o =
    one_once (later_off x h (next_input x.direction i) (next_output x.direction o)) (numbered-once h (next_input x.direction i) (next_output x.direction o))

pub numbered-ended : (ps : List Parameter) (i o : ℕ) → Named (λ (y : Name). 2 ≤ ending_code y.ending) (numbered ps i o)
unfolding numbered
numbered-ended [] i o = no_named
numbered-ended (x ∷ ps) i o = one_named (direction-ending x.direction) (numbered-ended ps (next_input x.direction i) (next_output x.direction o))

-- ---- inputs, and outputs, have the same slots in either order ----

-- a slot that is found behind another name's is found
behind : (v : Name × ℕ) (N : Slots) (y : Name) (w : Name × ℕ) → slot_of N v.0 ≡ none → slot_of N y ≡ some w → slot_of (v ∷ N) y ≡ some w
behind v N y w n e =
    slot-there v N y (false_from_ne_true (same_name v.0 y) (λ k. none-ne-some _ (sym (ap (λ (x : Name). slot_of N x) (sym (same-name v.0 y k)) ∙ n) ∙ e))) ∙ e

front : (v : Name × ℕ) (W N : Slots) (y : Name) (w : Name × ℕ) → slot_of (v ∷ W) y ≡ some w → (slot_of W y ≡ some w → slot_of N y ≡ some w) → slot_of (v ∷ N) y ≡ some w
front v W N y w e r = first-or_later v W y w e (λ k l. slot-here v N y k ∙ l) (λ k l. slot-there v N y k ∙ r l)

module _ (gs : List Given) (y : Name) (w : Name × ℕ) where
  parameter-one : (e c : Direction) (d : Declaration) (ps : List Parameter) (k : Carrier) → carrier_of gs d.type ≡ some k → (i o : ℕ) (N : Slots)
      → slot_of N (name_of d.declared (ending_of c)) ≡ none
      → (slot_of (slotted (parameter_slot e (next_input c i) (next_output c o)) (scopes.parameters_of gs e ps)) y ≡ some w → slot_of N y ≡ some w)
      → slot_of (slotted (parameter_slot e i o) (scopes.parameters_of gs e (record { direction = c; declaration = d } ∷ ps))) y ≡ some w
      → slot_of ((name_of d.declared (ending_of c), parameter_slot c i o) ∷ N) y ≡ some w
  unfolding scopes.parameters_of filter
  parameter-one inward inward d ps k g i o N n r h =
      front (name_of d.declared query, i) (slotted (suc i) (scopes.parameters_of gs inward ps)) N y w
      (sym (ap (λ (W : Slots). slot_of W y) (group-one gs query i d (map (λ (x : Parameter). x.declaration) (filter (λ (x : Parameter). is_input x.direction) ps)) k g)) ∙ h) r
  parameter-one inward outward d ps k g i o N n r h = behind (name_of d.declared shriek, o) N y w n (r h)
  parameter-one outward inward d ps k g i o N n r h = behind (name_of d.declared query, i) N y w n (r h)
  parameter-one outward outward d ps k g i o N n r h =
      front (name_of d.declared shriek, o) (slotted (suc o) (scopes.parameters_of gs outward ps)) N y w
      (sym (ap (λ (W : Slots). slot_of W y) (group-one gs shriek o d (map (λ (x : Parameter). x.declaration) (filter (λ (x : Parameter). is_output x.direction) ps)) k g)) ∙ h) r

  parameters_in : (e : Direction) {xs ps : List Parameter} → Parametrised gs xs ps → (i o : ℕ) → slot_of (slotted (parameter_slot e i o) (scopes.parameters_of gs e ps)) y ≡ some w
      → slot_of (numbered ps i o) y ≡ some w
  unfolding numbered scopes.parameters_of filter variables slotted find
  parameters_in inward no_parameters i o q = absurd (none-ne-some _ q)
  parameters_in outward no_parameters i o q = absurd (none-ne-some _ q)
  parameters_in e (one_parameter {y = x} {ys = ps} c f g h) i o q =
      parameter-one e x.direction x.declaration ps c g i o (numbered ps (next_input x.direction i) (next_output x.direction o))
      (later_off x h (next_input x.direction i) (next_output x.direction o)) (parameters_in e h (next_input x.direction i) (next_output x.direction o)) q

-- the entries tell the slots of the inputs, and of the outputs
pub parameters-slotted : (gs : List Given) (e : Direction) {ps : List Parameter} → Parametrised gs [] ps → (i o : ℕ) (f : Name → ℕ)
    → Below (slotted (parameter_slot e i o) (scopes.parameters_of gs e ps)) → Slotted (slotted (parameter_slot e i o) (scopes.parameters_of gs e ps)) (into (numbered ps i o) f)
parameters-slotted gs e h i o f b y w q = (into-some (numbered-once h i o) f y w (parameters_in gs y w e h i o q), b y w q)

-- ---- the table ----

module _ (ρ : Numbering) (P : Letters → Type 0) (ν : Numbered ρ P) where
  pub parameters-hold : (ps : List Parameter) → TypedIn P (parameters_of ps) → (i o : ℕ) {T : Places} {f : Name → ℕ} → Holds ρ P T f
      → Holds ρ P (parameters_placed ps i o T ρ) (into (numbered ps i o) f)
  unfolding parameters_placed parameters_of numbered into
  parameters-hold [] no_typed i o h = h
  parameters-hold (x ∷ ps) (one_typed p q t) i o h =
      parameters-hold ps t (next_input x.direction i) (next_output x.direction o) (write ρ P ν h (parameter_name x) p (parameter_slot x.direction i o))
