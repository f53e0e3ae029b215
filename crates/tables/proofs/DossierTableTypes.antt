-- The carriers of declared names, by what the table says of given sets: they are those of the definitions where no declared type is at fault.
use mathlib.Core.Path.{◌≡◌, refl, ap, ap₂, ◌∙◌, sym}
use mathlib.Core.Bool.{Bool, true, false, not}
use mathlib.Core.List.{List, [], ◌∷◌, ◌++◌, map}
use mathlib.Core.Option.{Option, none, some}
use Prim.Native.Nat.{ℕ, suc, ◌+◌, ◌*◌}
use native.Mathlib.Omega.{arith}
use lib.ListN.{length}
use Rattle.lexical.specs.Lists.{any, find}
use Rattle.lexical.specs.Symbols.{Name, no_ending}
use Rattle.refusals.specs.Refusals.{Fault, fault, unless, name_in_use, name_unknown}
use Rattle.lexical.proofs.WordLaws.{same_refl}
use Rattle.form.specs.Tree.{Letters, Given, TypeForm, given_type, power_type, range_type, arrow_type, Declaration, declarations, Parameter, Operation, Dossier}
use Rattle.form.specs.Written.{write_type}
use Rattle.form.specs.Headings.{abstract_at, concrete_at, operations_at, operation_length}
use Rattle.form.specs.Codes.{Numbering, node, name_number, end_number, arrow_number}
use Rattle.static_rules.specs.Carriers.{same_name, plain, given_of}
use Rattle.static_rules.specs.Scope.{Scope, place_in, given_names, abstract_taken, concrete_taken}
use Rattle.static_rules.specs.Names.{known, type_faults, new_name, declaration_faults, parameter_name, parameter_faults, operation_faults}
use Rattle.type_rules.specs.TypesByNumber.{Names, Sizes, entry}
use Rattle.declared_names.specs.NamesByNumber.{variables_of, parameters_of}
use Rattle.names.proofs.ReachTables.{index_of, Shows}
use Rattle.names.proofs.TypesAgreeScope.{index-here, index-there}
use Rattle.names.proofs.TypesAgreeBinders.{given-view}
use Rattle.names.proofs.PassAgreesTables.{same-name}
use Rattle.names.proofs.PassAgreesTypes.{TypeIn}
use Rattle.names.proofs.PassAgreesDeclared.{TypedIn, no_typed, one_typed}
use Rattle.names.proofs.PassAgreesOperations.{OperationsIn, no_operations, one_operation}
use Rattle.static_rules.proofs.Faultless.{Faultless}
use Rattle.names.proofs.PassAgrees.{DossierIn}
use Rattle.node_spans.specs.Spans.{spans_of, span}
use Rattle.table_nodes.specs.TableByNumber as table
use Rattle.table_places.specs.ResolvedTable as resolved
use Rattle.table_nodes.specs.TableWalkPromises.{patch}
use Rattle.table_places.specs.DossierTable.{given_place, type_table, with_carriers, with_parameters, declared}
use Rattle.table_places.specs.DossierTableByNumber.{given_index, type_node, with_nodes, with_operations, declared_nodes}
use Rattle.tables.proofs.TableAgreesSizes.{view-size, view-index, index_found, range-counted}
use Rattle.tables.proofs.DossierTableShown.{head_new}
use Rattle.refusals.proofs.FaultLists.{append_nil-both, not_nil}

-- ---- the place of a given set ----

-- what is found passes the test
find-so : {A : Type 0} (f : A → Bool) (xs : List A) (a : A) → find f xs ≡ some a → f a ≡ true
unfolding find
find-so f [] a e = let z : ◌≡◌ {A = ℕ} 0 1 = cc in absurd (omega arith)
find-so {A} f (x ∷ xs) a e = on (f x) refl (find-so f xs a) e
  where
    on : (b : Bool) → f x ≡ b → (find f xs ≡ some a → f a ≡ true) → ◌≡◌ {A = Option A} (elim b [ true ↦ some x | false ↦ find f xs ]) (some a) → f a ≡ true
    on true p r h = let q : x ≡ a = cc in sym (ap f q) ∙ p
    on false p r h = r h

module _ (x : Name) (g : Given) where
  -- another title does not begin the name that finds g
  title-apart : (gs : List Given) (l : Letters) → given_of gs x ≡ some g → same_name (plain l) x ≡ false → same_name (plain l) (plain g.title) ≡ false
  unfolding given_of
  title-apart gs l e h =
      ap (same_name (plain l)) (same-name (plain g.title) x (find-so (λ (k : Given). same_name (plain k.title) x) gs g e)) ∙ h

  place_found : (gs : List Given) → given_of gs x ≡ some g → given_place gs x ≡ index_of gs g.title
  unfolding given_of find place_in same_name
  place_found [] e = let z : ◌≡◌ {A = ℕ} 0 1 = cc in absurd (omega arith)
  place_found (h ∷ gs) e = on (same_name (plain h.title) x) refl (place_found gs) e
    where
      on : (b : Bool) → same_name (plain h.title) x ≡ b → (given_of gs x ≡ some g → given_place gs x ≡ index_of gs g.title)
          → ◌≡◌ {A = Option Given} (elim b [ true ↦ some h | false ↦ given_of gs x ]) (some g)
          → ◌≡◌ {A = ℕ} (elim b [ true ↦ 0 | false ↦ suc (given_place gs x) ]) (index_of (h ∷ gs) g.title)
      on true p r k = let q : h ≡ g = cc in sym (ap (λ (m : Given). index_of (h ∷ gs) m.title) (sym q) ∙ index-here h gs h.title (same_refl h.title))
      on false p r k = ap suc (r k) ∙ sym (index-there h gs g.title (title-apart gs h.title k p))

-- ---- a declared type ----

module _ (ρ : Numbering) (P : Letters → Type 0) (Γ : Scope) (T : Names) (z : Sizes) (s : Shows ρ P Γ T z) where
  given-placed : (g : Name) → P g.letters → (i : ℕ) → known (given_of Γ.givens g) i ≡ [] → given_index (entry T (name_number ρ g)) ≡ given_place Γ.givens g
  given-placed g pg i e = view-index (given-view ρ P Γ T z s g pg) ∙ on (given_of Γ.givens g) refl e
    where
      on : (o : Option Given) → given_of Γ.givens g ≡ o → known o i ≡ [] → index_found Γ.givens o ≡ given_place Γ.givens g
      on none q k = not_nil (fault i name_unknown) [] k
      on (some x) q k = sym (place_found g x Γ.givens q)

  given-sized : (g : Name) → P g.letters → table.given_size z (entry T (name_number ρ g)) ≡ resolved.given_size Γ.givens g
  unfolding resolved.given_size
  given-sized g pg = view-size (given-view ρ P Γ T z s g pg)

  pub type-written : (t : TypeForm) → TypeIn P t → (i : ℕ) → type_faults Γ.givens t i ≡ [] → type_node t T z ρ ≡ type_table t Γ.givens
  unfolding type_node type_table type_faults
  type-written (given_type g) h i e = ap₂ (λ (a b : ℕ). node 1 a b 0) (given-placed g h i e) (given-sized g h)
  type-written (power_type g) h i e = ap₂ (λ (a b : ℕ). node 3 a b 0) (given-placed g h (suc i) e) (given-sized g h)
  type-written (range_type r) h i e = ap (λ (n : ℕ). node 2 0 (end_number r.lower) n) (range-counted r i h e)
  type-written (arrow_type a g k) h i e =
      let l = append_nil-both (known (given_of Γ.givens g) i ++ known (given_of Γ.givens k) (i + 2)) _ e in
      let m = append_nil-both (known (given_of Γ.givens g) i) (known (given_of Γ.givens k) (i + 2)) l.0 in
      ap₂ (λ (b c : ℕ). node (arrow_number a) (8 * b + c) (table.given_size z (entry T (name_number ρ g))) (table.given_size z (entry T (name_number ρ k))))
      (given-placed g h.0 i m.0) (given-placed k h.1 (i + 2) m.1)
      ∙ ap₂ (λ (b c : ℕ). node (arrow_number a) (8 * given_place Γ.givens g + given_place Γ.givens k) b c) (given-sized g h.0) (given-sized k h.1)

-- ---- declarations without faults in their types ----

data Fitting (P : Letters → Type 0) (gs : List Given) : List Declaration → Type 0 where
  none_fits : Fitting P gs []
  one_fits : {d : Declaration} {ds : List Declaration} (i : ℕ) → TypeIn P d.type → type_faults gs d.type i ≡ [] → Fitting P gs ds → Fitting P gs (d ∷ ds)

module _ {P : Letters → Type 0} (gs : List Given) where
  variables-fit : (xs : List Letters) (i : ℕ) (ds : List Declaration) → TypedIn P (variables_of no_ending ds) → declaration_faults gs xs i ds ≡ [] → Fitting P gs ds
  unfolding variables_of declaration_faults
  variables-fit xs i [] no_typed e = none_fits
  variables-fit xs i (d ∷ ds) (one_typed p q h) e =
      let j : ℕ = i + 3 + length (write_type d.type []) in
      let a = append_nil-both (new_name xs d.declared i ++ type_faults gs d.type (i + 2)) (declaration_faults gs (d.declared ∷ xs) j ds) e in
      let b = append_nil-both (new_name xs d.declared i) (type_faults gs d.type (i + 2)) a.0 in
      one_fits (i + 2) q b.1 (variables-fit (d.declared ∷ xs) j ds h a.1)

  parameters-fit : (xs : List Parameter) (i : ℕ) (ps : List Parameter) → TypedIn P (parameters_of ps) → parameter_faults gs xs i ps ≡ []
      → Fitting P gs (map (λ (x : Parameter). x.declaration) ps)
  unfolding parameters_of parameter_faults
  parameters-fit xs i [] no_typed e = none_fits
  parameters-fit xs i (x ∷ ps) (one_typed p q h) e =
      let new : List Fault = unless (not (any (λ (y : Parameter). same_name (parameter_name y) (parameter_name x)) xs)) (fault i name_in_use) in
      let j : ℕ = i + 3 + length (write_type x.declaration.type []) in
      let a = append_nil-both (new ++ type_faults gs x.declaration.type (i + 2)) (parameter_faults gs (x ∷ xs) j ps) e in
      let b = append_nil-both new (type_faults gs x.declaration.type (i + 2)) a.0 in
      one_fits (i + 2) q b.1 (parameters-fit (x ∷ xs) j ps h a.1)

-- ---- what is written ----

module _ (ρ : Numbering) (P : Letters → Type 0) (Γ : Scope) (T : Names) (z : Sizes) (s : Shows ρ P Γ T z) where
  carriers-written : {ds : List Declaration} → Fitting P Γ.givens ds → (q : ℕ) (out : List ℕ) → with_nodes T z ρ q ds out ≡ with_carriers Γ.givens q ds out
  unfolding with_nodes with_carriers
  carriers-written none_fits q out = refl
  carriers-written (one_fits {d = d} {ds = ds} i t e h) q out =
      ap (λ (piece : List ℕ). with_nodes T z ρ (q + 8) ds (patch (q + 4) piece out)) (type-written ρ P Γ T z s d.type t i e) ∙ carriers-written h (q + 8) _

  parameters-written : (spans : List ℕ) {os : List Operation} → OperationsIn P os → (us : List Letters) (i : ℕ) → operation_faults Γ.givens us i os ≡ [] → (k : ℕ) (out : List ℕ)
      → with_operations T z ρ spans k os out ≡ with_parameters Γ.givens spans k os out
  unfolding with_operations with_parameters
  parameters-written spans no_operations us i e k out = refl
  parameters-written spans (one_operation {o = o} {os = os} po tp pa pc h) us i e k out =
      let n = head_new Γ.givens us i o os e in
      ap (with_operations T z ρ spans (suc k) os) (carriers-written (parameters-fit Γ.givens [] (i + 2) o.parameters tp n.parameters_new) (span spans (9 + 4 * k)) out)
      ∙ parameters-written spans h (o.title ∷ us) (i + operation_length o) n.rest_new (suc k) _

-- the carriers of all declared names, where the table T shows the given sets of the dossier
pub declared-written : (ρ : Numbering) (P : Letters → Type 0) (d : Dossier) → DossierIn P d → Faultless d → (T : Names) (z : Sizes) (xs : List Letters)
    → Shows ρ P (record { givens = d.givens; taken = xs; reach = [] }) T z → (out : List ℕ) → declared_nodes d T z ρ out ≡ declared d ρ out
unfolding declared_nodes declared
declared-written ρ P d h f T z xs s out =
    let Γ : Scope = record { givens = d.givens; taken = xs; reach = [] } in
    let a = variables-fit d.givens (given_names d.givens) (suc (abstract_at d)) (declarations d.abstract) h.abstract_in f.abstract_new in
    let c = variables-fit d.givens (abstract_taken d) (suc (concrete_at d)) (declarations d.concrete) h.concrete_in f.concrete_new in
    let S : List ℕ = spans_of d ρ in
    ap (λ (w : List ℕ). with_operations T z ρ S 0 d.operations (with_nodes T z ρ (span S 3) (declarations d.concrete) w)) (carriers-written ρ P Γ T z s a (span S 0) out)
    ∙ ap (with_operations T z ρ S 0 d.operations) (carriers-written ρ P Γ T z s c (span S 3) _)
    ∙ parameters-written ρ P Γ T z s S h.operations_in (concrete_taken d) (operations_at d) f.operations_new 0 _
