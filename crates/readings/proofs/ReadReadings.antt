-- The arrays that the reader leaves of a text hold what the search asks of its dossier: the rows of its predicates and the groups of its variables.
use mathlib.Core.Path.{◌≡◌, refl, sym, ap, ◌∙◌, subst}
use mathlib.Core.Bool.{true, ◌&&◌}
use mathlib.Core.List.{List, [], ◌∷◌, ◌++◌, append_assoc}
use mathlib.Core.Option.{some, none-ne-some, some-injective}
use Prim.Native.Nat.{ℕ, zero, suc, ◌+◌, ◌*◌, ◌≤◌}
use native.Mathlib.Omega.{arith}
use lib.Dec.{leb}
use lib.ListN.{length, get_elem?, take, drop}
use lib.Seq.{length-take-le}
use borrow.Author.Tests.{leb-true}
use Rattle.lexical.specs.Symbols.{no_ending}
use Rattle.refusals.specs.Refusals.{fault, unless, many_bindings}
use Rattle.form.specs.Tree.{Given, Declaration, declarations, inward, outward, Parameter, Operation, Dossier}
use Rattle.form.specs.Written.{ending_of}
use Rattle.form.specs.Headings.{abstract_at, concrete_at, operations_at, operation_length}
use Rattle.form.specs.Codes.{dossier_codes, Numbering}
use Rattle.read_predicates.specs.ParserPromises.{numbering}
use Rattle.read_predicates.proofs.ParserItemNodes.{Split, split-next, split-as}
use Rattle.static_rules.specs.Carriers.{Variable, size_of}
use Rattle.static_rules.specs.Scope.{is_input, is_output, unprimed, inputs, outputs}
use Rattle.static_rules.specs.Limits.{binding_count, operation_bindings, binding_faults}
use Rattle.static_rules.specs.Read.{reading, read}
use Rattle.meaning.specs.Bindings.{Among}
use Rattle.meaning.proofs.Places.{entry-member}
use Rattle.read_predicates.specs.NodeSpansSpans.{spans_of, span}
use Rattle.read_predicates.proofs.NodeSpansStructure.{split-move}
use Rattle.value_types.specs.FaultlessContexts.{ParametersWithin, OperationsWithin, NumbersWithin}
use Rattle.value_types.proofs.GivenTitles.{few-elements, few-elements-of}
use Rattle.value_types.proofs.DeclaredCarriers.{declarations_of, parameters-are}
use Rattle.value_types.proofs.SymbolNumbers.{text-numbers}
use Rattle.value_types.proofs.FineContexts.{DossierFaultless, dossier-faultless}
use Rattle.table_nodes.specs.TableWalkPromises.{patch}
use Rattle.read_predicates.specs.TablePlacesDossierTable.{row, state_row, parameter_row, operation_rows, groups_of, table_of}
use Rattle.read_predicates.specs.SearchGroupsGroupPromises.{FewParameters, FewEach, few_none, few_more}
use Rattle.read_predicates.proofs.SearchGroupsGroupPicks.{state-count, parameter-count, row-length}
use Rattle.read_predicates.proofs.TablesDeclaredPlaces.{variables-few, parameters_few}
use Rattle.read_predicates.specs.ReaderPromises.{Written}
use Rattle.read_predicates.specs.ReaderGives.{Gives}
use Rattle.read_predicates.proofs.ReaderReadGives.{read-gives}
use Rattle.read_predicates.proofs.ReadTests.{read-tests}
use Rattle.readings.specs.Readings.{GroupAt, ReadingOf}
use Rattle.readings.proofs.TablePatches.{TypesAt}
use Rattle.readings.proofs.ArrangedParts.{Arranged, arranged}
use Rattle.readings.proofs.DeclaredTypes.{abstract_types, concrete_types, operation-types, abstract-inside, concrete-inside, operation-inside}
use Rattle.readings.proofs.GroupNodes.{group_at, state-noded, parameters-noded}
use Rattle.refusals.proofs.FaultLists.{append_nil-three, unless-nil, append_nil-both}
use Rattle.lexical.proofs.BooleanTests.{and_left, and_right}

-- ---- numbers of bindings

both-few : (n m k : ℕ) → (leb n k && leb m k) ≡ true → (n ≤ k) × (m ≤ k)
both-few n m k e = (leb-true n k (and_left (leb n k) (leb m k) e), leb-true m k (and_right (leb n k) (leb m k) e))

-- of the states; of the operation at a place
pub state-bindings : (d : Dossier) → binding_faults d ≡ []
    → (binding_count (unprimed d d.abstract) ≤ 4096) × (binding_count (unprimed d d.concrete) ≤ 4096) × (operation_bindings d (operations_at d) d.operations ≡ [])
unfolding binding_faults
state-bindings d e =
    let k = append_nil-three (unless (leb (binding_count (unprimed d d.abstract)) 4096) (fault (abstract_at d) many_bindings))
    (unless (leb (binding_count (unprimed d d.concrete)) 4096) (fault (concrete_at d) many_bindings)) (operation_bindings d (operations_at d) d.operations) e in (
      leb-true (binding_count (unprimed d d.abstract)) 4096 (unless-nil _ _ k.0),
      leb-true (binding_count (unprimed d d.concrete)) 4096 (unless-nil _ _ k.1),
      k.2,
    )

pub operation-bindings : (d : Dossier) (i : ℕ) (os : List Operation) → operation_bindings d i os ≡ [] → (j : ℕ) (o : Operation) → get_elem? os j ≡ some o
    → (binding_count (inputs d o) ≤ 64) × (binding_count (outputs d o) ≤ 64)
unfolding operation_bindings
operation-bindings d i [] e j o s = absurd (none-ne-some o s)
operation-bindings d i (p ∷ os) e zero o s =
    let k = append_nil-both (unless (leb (binding_count (inputs d p)) 64 && leb (binding_count (outputs d p)) 64) (fault i many_bindings)) (operation_bindings d (i + operation_length p) os) e in
    subst (λ (x : Operation). (binding_count (inputs d x) ≤ 64) × (binding_count (outputs d x) ≤ 64)) (some-injective p o s)
    (both-few (binding_count (inputs d p)) (binding_count (outputs d p)) 64 (unless-nil _ _ k.0))
operation-bindings d i (p ∷ os) e (suc j) o s =
    let k = append_nil-both (unless (leb (binding_count (inputs d p)) 64 && leb (binding_count (outputs d p)) 64) (fault i many_bindings)) (operation_bindings d (i + operation_length p) os) e in
    operation-bindings d (i + operation_length p) os k.1 j o s

-- ---- the operation at a place

pub few-at : {os : List Operation} → FewEach os → (j : ℕ) (o : Operation) → get_elem? os j ≡ some o → FewParameters o
few-at few_none j o e = absurd (none-ne-some o e)
few-at (few_more {o = p} h r) zero o e = subst FewParameters (some-injective p o e) h
few-at (few_more h r) (suc j) o e = few-at r j o e

within-at : (os : List Operation) → OperationsWithin os → (j : ℕ) (o : Operation) → get_elem? os j ≡ some o → ParametersWithin o.parameters
unfolding OperationsWithin
within-at [] w j o e = absurd (none-ne-some o e)
within-at (p ∷ os) w zero o e = subst (λ (x : Operation). ParametersWithin x.parameters) (some-injective p o e) w.0
within-at (p ∷ os) w (suc j) o e = within-at os w.3 j o e

-- the rows of an operation's inputs and outputs
abbrev pub ins_of : (q : ℕ) → Operation → List ℕ
ins_of q o = parameter_row (λ (x : Parameter). is_input x.direction) q o.parameters

abbrev pub outs_of : (q : ℕ) → Operation → List ℕ
outs_of q o = parameter_row (λ (x : Parameter). is_output x.direction) q o.parameters

pub record RowsOf (groups spans : List ℕ) (at x : ℕ) (o : Operation) : Type 0 where
  pub behind_inputs : List ℕ
  pub behind_outputs : List ℕ
  pub inputs_row : Split groups at (row 3 (ins_of (span spans (9 + 4 * x)) o) ++ behind_inputs)
  pub outputs_row : Split groups (at + 4) (row 3 (outs_of (span spans (9 + 4 * x)) o) ++ behind_outputs)

module _ {groups : List ℕ} (spans : List ℕ) where
  rows-first : (k at : ℕ) (o : Operation) (os : List Operation) (post : List ℕ) → FewParameters o → Split groups at (operation_rows spans k (o ∷ os) ++ post)
      → RowsOf groups spans at k o × Split groups (at + 8) (operation_rows spans (suc k) os ++ post)
  unfolding operation_rows
  rows-first k at o os post f s =
      let q : ℕ = span spans (9 + 4 * k) in
      let I : List ℕ = row 3 (ins_of q o) in
      let O : List ℕ = row 3 (outs_of q o) in
      let R : List ℕ = operation_rows spans (suc k) os in
      let i = parameter-count (λ (x : Parameter). is_input x.direction) q o.parameters in
      let u = parameter-count (λ (x : Parameter). is_output x.direction) q o.parameters in
      let fi = f.inputs in
      let fo = f.outputs in
      let li : length I ≡ 4 = row-length 3 (ins_of q o) (omega arith) in
      let lo : length O ≡ 4 = row-length 3 (outs_of q o) (omega arith) in
      let s₁ : Split groups at (I ++ (O ++ (R ++ post))) = split-as (append_assoc (I ++ O) R post ∙ append_assoc I O (R ++ post)) s in
      let s₂ : Split groups (at + length I) (O ++ (R ++ post)) = split-next I (O ++ (R ++ post)) s₁ in
      let s₃ : Split groups (at + length I + length O) (R ++ post) = split-next O (R ++ post) s₂ in (
        record { behind_inputs = O ++ (R ++ post); behind_outputs = R ++ post; inputs_row = s₁; outputs_row = split-move (omega arith) s₂ },
        split-move (omega arith) s₃,
      )

  pub rows_of : (k at : ℕ) (os : List Operation) (post : List ℕ) → FewEach os → Split groups at (operation_rows spans k os ++ post) → (j : ℕ) (o : Operation)
      → get_elem? os j ≡ some o → (x y : ℕ) → x ≡ k + j → y ≡ at + 8 * j → RowsOf groups spans y x o
  rows_of k at _ post few_none s j o e x y f g = absurd (none-ne-some o e)
  rows_of k at _ post (few_more {o = p} {os = os} h r) s zero o e x y f g =
      let z : k ≡ x = omega arith in
      let w : at ≡ y = omega arith in
      subst (λ (n : ℕ). RowsOf groups spans y n o) z
      (subst (λ (n : ℕ). RowsOf groups spans n k o) w
      (subst (λ (q : Operation). RowsOf groups spans at k q) (some-injective p o e) (rows-first k at p os post h s).0))
  rows_of k at _ post (few_more {o = p} {os = os} h r) s (suc j) o e x y f g =
      rows_of (suc k) (at + 8) os post r (rows-first k at p os post h s).1 j o e x y (omega arith) (omega arith)

-- ---- the reading

-- where the rows of the states and of the operations begin
pub record Rows (d : Dossier) (ρ : Numbering) (groups : List ℕ) : Type 0 where
  pub behind_abstracts : List ℕ
  pub behind_concretes : List ℕ
  pub behind_operations : List ℕ
  pub abstracts : Split groups 0 (row 8 (state_row (span (spans_of d ρ) 0) (declarations d.abstract)) ++ behind_abstracts)
  pub concretes : Split groups 9 (row 8 (state_row (span (spans_of d ρ) 3) (declarations d.concrete)) ++ behind_concretes)
  pub operations : Split groups 18 (operation_rows (spans_of d ρ) 0 d.operations ++ behind_operations)

pub groups-rows : (d : Dossier) (ρ : Numbering) (groups₀ groups : List ℕ) → length (declarations d.abstract) ≤ 8 → length (declarations d.concrete) ≤ 8
    → groups ≡ patch 0 (groups_of d ρ) groups₀ → Rows d ρ groups
unfolding patch groups_of
groups-rows d ρ groups₀ groups h k e =
    let a : List ℕ = state_row (span (spans_of d ρ) 0) (declarations d.abstract) in
    let c : List ℕ = state_row (span (spans_of d ρ) 3) (declarations d.concrete) in
    let A : List ℕ = row 8 a in
    let C : List ℕ = row 8 c in
    let R : List ℕ = operation_rows (spans_of d ρ) 0 d.operations in
    let rest : List ℕ = drop (0 + length (groups_of d ρ)) groups₀ in
    let m = state-count (span (spans_of d ρ) 0) (declarations d.abstract) in
    let n = state-count (span (spans_of d ρ) 3) (declarations d.concrete) in
    let la : length A ≡ 9 = row-length 8 a (omega arith) in
    let lc : length C ≡ 9 = row-length 8 c (omega arith) in
    let s₀ : Split groups 0 (A ++ (C ++ (R ++ rest))) =
    record { front = []; whole = e ∙ append_assoc (A ++ C) R rest ∙ append_assoc A C (R ++ rest); long = refl } in
    let s₁ : Split groups (0 + length A) (C ++ (R ++ rest)) = split-next A (C ++ (R ++ rest)) s₀ in
    let s₂ : Split groups (0 + length A + length C) (R ++ rest) = split-next C (R ++ rest) s₁ in
    record {
      behind_abstracts = C ++ (R ++ rest);
      behind_concretes = R ++ rest;
      behind_operations = rest;
      abstracts = s₀;
      concretes = split-move (omega arith) s₁;
      operations = split-move (omega arith) s₂;
    }

-- where `read` leaves the rows and the types of a dossier's variables
module _ {text spans₀ table₀ groups₀ rows₀ firsts₀ spans table groups rows firsts : List ℕ} {d : Dossier} (given : Gives text d)
    (w : Written text d spans₀ table₀ groups₀ rows₀ firsts₀ spans table groups rows firsts) where
  pub rows-placed : Rows d (numbering text) groups
  rows-placed = groups-rows d (numbering text) groups₀ groups given.variables.abstract given.variables.concrete w.groups_are

  pub operation-placed : (j : ℕ) (o : Operation) → get_elem? d.operations j ≡ some o → RowsOf groups (spans_of d (numbering text)) (18 + 8 * j) j o
  operation-placed j o t =
      rows_of (spans_of d (numbering text)) 0 18 d.operations rows-placed.behind_operations given.variables.parameters rows-placed.operations j o t j (18 + 8 * j) (omega arith) refl

  module _ (room : length (dossier_codes d (numbering text)) ≤ length table₀) where
    typed : {q : ℕ} {ds : List Declaration} → TypesAt (table_of d (numbering text) table₀) d.givens q ds → TypesAt table d.givens q ds
    typed {q} {ds} a = subst (λ (t : List ℕ). TypesAt t d.givens q ds) (sym w.table_is) a

    pub abstracts-typed : TypesAt table d.givens (span (spans_of d (numbering text)) 0) (declarations d.abstract)
    abstracts-typed = typed (abstract_types d (numbering text) (arranged d (numbering text)) table₀ room)

    pub concretes-typed : TypesAt table d.givens (span (spans_of d (numbering text)) 3) (declarations d.concrete)
    concretes-typed = typed (concrete_types d (numbering text) (arranged d (numbering text)) table₀ room)

    pub operation-typed : (j : ℕ) (o : Operation) → get_elem? d.operations j ≡ some o → TypesAt table d.givens (span (spans_of d (numbering text)) (9 + 4 * j)) (declarations_of o.parameters)
    operation-typed j o t = typed (operation-types d (numbering text) (arranged d (numbering text)) table₀ room j o t)

-- what `read` leaves of a text that is read, in an array of 16,384 numbers for the table
pub read-reading : (text nodes spans₀ table₀ groups₀ rows₀ firsts₀ spans table groups rows firsts : List ℕ) (d : Dossier) (m : ℕ) → read text ≡ reading d
    → m ≤ length nodes → take m nodes ≡ dossier_codes d (numbering text) → m ≤ 16384 → m ≤ length table₀ → length table ≤ 16384
    → Written text d spans₀ table₀ groups₀ rows₀ firsts₀ spans table groups rows firsts → ReadingOf table rows firsts groups d
read-reading text nodes spans₀ table₀ groups₀ rows₀ firsts₀ spans table groups rows firsts d m e h u z l k w = record {
  tests = read-tests text nodes spans₀ table₀ groups₀ rows₀ firsts₀ spans table groups rows firsts d m e h u z l k w;
  abstracts =
      let n = variables-few gs no_ending (declarations d.abstract) in
      let f = given.variables.abstract in
      let i = abstract-inside d ρ A in
      let q = long in
      group_at
      (state-noded table gs few no_ending (abstracts-typed given w room) fine.abstract numbers.abstract_types (omega arith))
      0 8 places.behind_abstracts places.abstracts 8 4096 (omega arith) counts.0;
  concretes =
      let n = variables-few gs no_ending (declarations d.concrete) in
      let f = given.variables.concrete in
      let i = concrete-inside d ρ A in
      let q = long in
      group_at
      (state-noded table gs few no_ending (concretes-typed given w room) fine.concrete numbers.concrete_types (omega arith))
      9 8 places.behind_concretes places.concretes 8 4096 (omega arith) counts.1;
  operations = given.variables.operations;
  inputs_at = ins;
  outputs_at = outs;
}
  where
    ρ : Numbering
    ρ = numbering text

    gs : List Given
    gs = d.givens

    given : Gives text d
    given = read-gives text d e

    fine : DossierFaultless d
    fine = dossier-faultless d given.names

    numbers : NumbersWithin d
    numbers = text-numbers text d given.form.whole

    few : (g : Given) → Among g d.givens → size_of g ≤ 8
    few = few-elements d.givens (few-elements-of d.givens given.given_sets.elements)

    A : Arranged d ρ (spans_of d ρ) (length (dossier_codes d ρ))
    A = arranged d ρ

    long : length (dossier_codes d ρ) ≡ m
    long = ap length (sym u) ∙ length-take-le m nodes h

    room : length (dossier_codes d ρ) ≤ length table₀
    room = let q = long in omega arith

    places : Rows d ρ groups
    places = rows-placed given w

    counts : (binding_count (unprimed d d.abstract) ≤ 4096) × (binding_count (unprimed d d.concrete) ≤ 4096)
        × (operation_bindings d (operations_at d) d.operations ≡ [])
    counts = state-bindings d given.bindings

    low : (j : ℕ) (o : Operation) → get_elem? d.operations j ≡ some o → span (spans_of d ρ) (9 + 4 * j) + 8 * length o.parameters ≤ 16384
    low j o t = let i = operation-inside d ρ A j o t in let q = long in omega arith

    ins : (j : ℕ) (o : Operation) → get_elem? d.operations j ≡ some o → GroupAt table groups (18 + 8 * j) (inputs d o) 3 64
    ins j o t =
        let r = operation-placed given w j o t in
        subst (λ (vs : List Variable). GroupAt table groups (18 + 8 * j) vs 3 64) (sym (parameters-are d.givens inward o.parameters))
        (group_at
        (parameters-noded table d.givens few (λ (x : Parameter). is_input x.direction) (ending_of inward) (span (spans_of d ρ) (9 + 4 * j)) o.parameters (operation-typed given w room j o t)
        (fine.parameters o (entry-member o d.operations j t)) (within-at d.operations numbers.operations j o t) (low j o t))
        (18 + 8 * j) 3 r.behind_inputs r.inputs_row 3 64
        (subst (λ (vs : List Variable). length vs ≤ 3) (parameters-are d.givens inward o.parameters)
        (parameters_few d inward o (few-at given.variables.parameters j o t)))
        (subst (λ (vs : List Variable). binding_count vs ≤ 64) (parameters-are d.givens inward o.parameters)
        (operation-bindings d (operations_at d) d.operations counts.2 j o t).0))

    outs : (j : ℕ) (o : Operation) → get_elem? d.operations j ≡ some o → GroupAt table groups (18 + 8 * j + 4) (outputs d o) 3 64
    outs j o t =
        let r = operation-placed given w j o t in
        subst (λ (vs : List Variable). GroupAt table groups (18 + 8 * j + 4) vs 3 64) (sym (parameters-are d.givens outward o.parameters))
        (group_at
        (parameters-noded table d.givens few (λ (x : Parameter). is_output x.direction) (ending_of outward) (span (spans_of d ρ) (9 + 4 * j)) o.parameters (operation-typed given w room j o t)
        (fine.parameters o (entry-member o d.operations j t)) (within-at d.operations numbers.operations j o t) (low j o t))
        (18 + 8 * j + 4) 3 r.behind_outputs r.outputs_row 3 64
        (subst (λ (vs : List Variable). length vs ≤ 3) (parameters-are d.givens outward o.parameters)
        (parameters_few d outward o (few-at given.variables.parameters j o t)))
        (subst (λ (vs : List Variable). binding_count vs ≤ 64) (parameters-are d.givens outward o.parameters)
        (operation-bindings d (operations_at d) d.operations counts.2 j o t).1))
