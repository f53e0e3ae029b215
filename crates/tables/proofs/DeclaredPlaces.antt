-- Variables declared without faults: their slots as the table has them, plain and primed.
use mathlib.Core.Path.{◌≡◌, refl, ap, ◌∙◌, sym, subst}
use mathlib.Core.Bool.{Bool, true, false, false≢true}
use mathlib.Core.List.{List, [], ◌∷◌, ◌++◌, map}
use mathlib.Core.Option.{Option, none, some}
use Prim.Native.Nat.{ℕ, suc, ◌+◌, ◌≤◌}
use native.Mathlib.Omega.{arith}
use lib.ListN.{length, length-map, set}
use Rattle.lexical.specs.Lists.{find, filter}
use Rattle.lexical.specs.Symbols.{Name, Ending, no_ending}
use Rattle.form.specs.Tree.{Letters, Given, Declaration, Direction, inward, outward, Parameter, Operation, Dossier}
use Rattle.form.specs.Written.{ending_of, write_type}
use Rattle.form.specs.Codes.{Numbering, ending_number, number_of_name, name_number}
use Rattle.static_rules.specs.Carriers.{Carrier, Variable, ending_code, same_name, plain, carrier_of}
use Rattle.static_rules.specs.Scope.{variables, is_input, is_output, parameters_of}
use Rattle.static_rules.specs.Names.{new_name, type_faults, declaration_faults}
use Rattle.declared_names.specs.NamesByNumber.{variables_of}
use Rattle.names.proofs.ReachTables.{Numbered}
use Rattle.names.proofs.PassAgreesTables.{same-name, name-refl}
use Rattle.names.proofs.PassAgreesTypes.{type-carries}
use Rattle.names.proofs.PassAgreesDeclared.{TypedIn, no_typed, one_typed}
use Rattle.names.proofs.PassAgreesUse.{in_use, use-here, use-there, new_unused}
use Rattle.names.proofs.PassAgreesGivens.{Holds, entered}
use Rattle.names.proofs.PassAgreesStates.{names_of}
use Rattle.names.proofs.PassAgreesParameters.{name_of}
use Rattle.table_nodes.specs.TableByNumber.{Places}
use Rattle.table_places.specs.ResolvedTable.{slot_of, Slots, slotted}
use Rattle.table_places.specs.DossierTableByNumber.{placing}
use Rattle.search_groups.specs.GroupPromises.{FewParameters}
use Rattle.search_groups.proofs.ScopePlaces.{slot-there}
use Rattle.tables.proofs.SlotPlaces.{Named, no_named, one_named, named-map, Once, no_once, one_once, into, write}
use Rattle.refusals.proofs.FaultLists.{append_nil-both}
use Rattle.static_rules.proofs.FoundCarriers.{variables-one}
use Rattle.std.proofs.lemmas.Bool.{false_from_ne_true}

-- declarations without faults, where the names xs are in use: each name is new, and each type has its carrier
pub data Declared (gs : List Given) : List Letters → List Declaration → Type 0 where
  none_declared : {xs : List Letters} → Declared gs xs []
  one_declared : {xs : List Letters} {d : Declaration} {ds : List Declaration} (c : Carrier) → in_use xs (plain d.declared) ≡ false → carrier_of gs d.type ≡ some c
      → Declared gs (d.declared ∷ xs) ds → Declared gs xs (d ∷ ds)

pub faultless : (gs : List Given) (xs : List Letters) (i : ℕ) (ds : List Declaration) → declaration_faults gs xs i ds ≡ [] → Declared gs xs ds
unfolding declaration_faults
faultless gs xs i [] e = none_declared
faultless gs xs i (d ∷ ds) e =
    let j = i + 3 + length (write_type d.type []) in
    let a = append_nil-both (new_name xs d.declared i ++ type_faults gs d.type (i + 2)) (declaration_faults gs (d.declared ∷ xs) j ds) e in
    let b = append_nil-both (new_name xs d.declared i) (type_faults gs d.type (i + 2)) a.0 in
    let c = type-carries gs d.type (i + 2) b.1 in
    one_declared c.carrier (new_unused xs d.declared i b.0) c.carries (faultless gs (d.declared ∷ xs) j ds a.1)

pub group-one : (gs : List Given) (e : Ending) (s : ℕ) (d : Declaration) (ds : List Declaration) (c : Carrier) → carrier_of gs d.type ≡ some c
    → slotted s (variables gs e (d ∷ ds)) ≡ (name_of d.declared e, s) ∷ slotted (suc s) (variables gs e ds)
unfolding slotted
group-one gs e s d ds c h = ap (slotted s) (variables-one gs e d ds c h)

-- a name whose letters are in use before has none of the slots, whatever its ending
pub declared-off : {gs : List Given} {xs : List Letters} {ds : List Declaration} → Declared gs xs ds → (e : Ending) (s : ℕ) (y : Name) → in_use xs (plain y.letters) ≡ true
    → slot_of (slotted s (variables gs e ds)) y ≡ none
unfolding variables slotted find
declared-off none_declared e s y u = refl
declared-off {gs = gs} (one_declared {xs = xs} {d = d} {ds = ds} c f g h) e s y u =
    ap (λ (W : Slots). slot_of W y) (group-one gs e s d ds c g)
    ∙ slot-there (name_of d.declared e, s) (slotted (suc s) (variables gs e ds)) y
    (false_from_ne_true (same_name (name_of d.declared e) y) (λ k. absurd (false≢true (sym f ∙ ap (λ (n : Name). in_use xs (plain n.letters)) (same-name (name_of d.declared e) y k) ∙ u))))
    ∙ declared-off h e (suc s) y (use-there d.declared xs (plain y.letters) u)

pub declared-once : {gs : List Given} {xs : List Letters} {ds : List Declaration} → Declared gs xs ds → (e : Ending) (s : ℕ) → Once (slotted s (variables gs e ds))
unfolding variables slotted
declared-once none_declared e s = no_once
declared-once {gs = gs} (one_declared {xs = xs} {d = d} {ds = ds} c f g h) e s =
    subst Once (sym (group-one gs e s d ds c g))
    (one_once (declared-off h e (suc s) (name_of d.declared e) (use-here d.declared xs (plain d.declared) (name-refl (plain d.declared)))) (declared-once h e (suc s)))

pub declared-ended : {gs : List Given} {xs : List Letters} {ds : List Declaration} → Declared gs xs ds → (e : Ending) (s : ℕ)
    → Named (λ (y : Name). ending_code y.ending ≡ ending_code e) (slotted s (variables gs e ds))
unfolding variables slotted
declared-ended none_declared e s = no_named
declared-ended {gs = gs} (one_declared {d = d} {ds = ds} c f g h) e s =
    subst (Named (λ (y : Name). ending_code y.ending ≡ ending_code e)) (sym (group-one gs e s d ds c g)) (one_named refl (declared-ended h e (suc s)))

pub declared-used : {gs : List Given} {xs : List Letters} {ds : List Declaration} → Declared gs xs ds → (e : Ending) (s : ℕ)
    → Named (λ (y : Name). in_use (names_of ds) (plain y.letters) ≡ true) (slotted s (variables gs e ds))
unfolding variables slotted
declared-used none_declared e s = no_named
declared-used {gs = gs} (one_declared {d = d} {ds = ds} c f g h) e s =
    subst (Named (λ (y : Name). in_use (names_of (d ∷ ds)) (plain y.letters) ≡ true)) (sym (group-one gs e s d ds c g))
    (one_named (use-here d.declared (names_of ds) (plain d.declared) (name-refl (plain d.declared)))
    (named-map (λ y q. use-there d.declared (names_of ds) (plain y.letters) q) (declared-used h e (suc s))))

pub variables-few : (gs : List Given) (e : Ending) (ds : List Declaration) → length (variables gs e ds) ≤ length ds
unfolding variables
variables-few gs e [] = omega arith
variables-few gs e (d ∷ ds) = on (carrier_of gs d.type) refl (variables-few gs e ds)
  where
    skipped : carrier_of gs d.type ≡ none → variables gs e (d ∷ ds) ≡ variables gs e ds
    skipped k = rw (variables, k)

    on : (o : Option Carrier) → carrier_of gs d.type ≡ o → length (variables gs e ds) ≤ length ds → length (variables gs e (d ∷ ds)) ≤ length (d ∷ ds)
    on none k r = omega (arith, ap (length {A = Variable}) (skipped k))
    on (some c) k r = omega (arith, ap (length {A = Variable}) (variables-one gs e d ds c k))

-- ---- the table ----

module _ (ρ : Numbering) (P : Letters → Type 0) (ν : Numbered ρ P) (gs : List Given) (e : Ending) where
  pub placing-holds : {xs : List Letters} (ds : List Declaration) → Declared gs xs ds → TypedIn P (variables_of no_ending ds) → (s : ℕ) {T : Places} {f : Name → ℕ} → Holds ρ P T f
      → Holds ρ P (placing (variables_of no_ending ds) (ending_number e) s T ρ) (into (slotted s (variables gs e ds)) f)
  unfolding placing variables_of variables slotted into number_of_name
  placing-holds [] none_declared no_typed s h = h
  placing-holds {xs = xs} (d ∷ ds) (one_declared c n g k) (one_typed p q t) s {T} {f} h =
      let m : name_number ρ (name_of d.declared e) ≡ name_number ρ (plain d.declared) + ending_number e = omega arith in
      subst (λ (W : Slots). Holds ρ P (placing (variables_of no_ending (d ∷ ds)) (ending_number e) s T ρ) (into W f)) (sym (group-one gs e s d ds c g))
      (subst (λ (j : ℕ). Holds ρ P (placing (variables_of no_ending ds) (ending_number e) (suc s) (set T j s) ρ)
      (into (slotted (suc s) (variables gs e ds)) (entered (name_of d.declared e) s f))) m
      (placing-holds {xs = d.declared ∷ xs} ds k t (suc s) (write ρ P ν h (name_of d.declared e) p s)))

-- ---- inputs, and outputs, are no more than were declared

kept-few : (gs : List Given) (e : Ending) (f : Parameter → Bool) (ps : List Parameter) → length (filter f ps) ≤ 3
    → length (variables gs e (map (λ (x : Parameter). x.declaration) (filter f ps))) ≤ 3
kept-few gs e f ps h =
    let l = variables-few gs e (map (λ (x : Parameter). x.declaration) (filter f ps)) in
    let m = length-map (filter f ps) (λ (x : Parameter). x.declaration) in
    omega arith

pub parameters_few : (d : Dossier) (e : Direction) (o : Operation) → FewParameters o → length (parameters_of d.givens e o.parameters) ≤ 3
unfolding parameters_of
parameters_few d inward o h = kept-few d.givens (ending_of inward) (λ (x : Parameter). is_input x.direction) o.parameters h.inputs
parameters_few d outward o h = kept-few d.givens (ending_of outward) (λ (x : Parameter). is_output x.direction) o.parameters h.outputs
