-- The types of all declared names of a dossier stand in the reader's table: no predicate and no other declaration is written over them.
-- stands once for each side: `-inside` and `_types`, since the concrete state's declarations stand behind the abstract one's, and their types are written over them.
use mathlib.Core.Path.{◌≡◌, refl, ap, ◌∙◌, subst}
use mathlib.Core.Logic.{◌⊎◌, inl, inr}
use mathlib.Core.List.{List, ◌∷◌}
use mathlib.Core.Option.{some, none-ne-some, some-injective}
use Prim.Native.Nat.{ℕ, zero, suc, ◌+◌, ◌*◌, ◌<◌, ◌≤◌}
use native.Mathlib.Omega.{arith}
use lib.ListN.{length, get_or, get_elem?, length-map}
use Rattle.form.specs.Tree.{Letters, Given, Declaration, declarations, Parameter, Operation, Dossier}
use Rattle.form.specs.Headings.{abstract_at, concrete_at, ainit_at, cinit_at, retrieve_at, operations_at, operation_length}
use Rattle.form.specs.Codes.{Numbering}
use Rattle.static_rules.specs.Scope.{contexts, operation_contexts, concrete_taken}
use Rattle.read_predicates.specs.NodeSpansSpans.{spans_of, span, predicate_at}
use Rattle.value_types.proofs.DeclaredCarriers.{declarations_of}
use Rattle.read_predicates.specs.TablePlacesDossierTable.{slots_of, operation_slots, starts_of, operation_starts, with_carriers, with_parameters, declared, table_of}
use Rattle.readings.proofs.TablePatches.{TypesAt, carriers_off, types-kept, types-here, Apart, apart_none, predicates-off, apart}
use Rattle.readings.proofs.ArrangedParts.{OperationsFrom, none_left, one_left, operations-end, Arranged}
use Rattle.read_predicates.proofs.TablesStandingPieces.{carriers_grow, parameters-grow}

-- the parameters of the operation x stand behind n
record Within (spans : List ℕ) (end n x : ℕ) (o : Operation) : Type 0 where
  after : n ≤ span spans (9 + 4 * x)
  before : span spans (9 + 4 * x) + 8 * length o.parameters ≤ end

module _ {spans : List ℕ} {ρ : Numbering} {end : ℕ} where
  operation-within : {n k : ℕ} {os : List Operation} → OperationsFrom spans ρ end n k os → (j : ℕ) (o : Operation) → get_elem? os j ≡ some o → (x : ℕ) → x ≡ k + j
      → Within spans end n x o
  operation-within (none_left h) j o e x f = absurd (none-ne-some o e)
  operation-within {n} {k} (one_left {next = next} {o = p} a b l₀ l₁ l₂ l₃ r) zero o e x f =
      let end_of_lem = operations-end r in
      let g : k ≡ x = omega arith in
      subst (λ (y : ℕ). Within spans end n y o) g
      (subst (λ (y : Operation). Within spans end n k y) (some-injective p o e) (record { after = omega arith; before = omega arith }))
  operation-within {n} {k} (one_left a b l₀ l₁ l₂ l₃ r) (suc j) o e x f =
      let w = operation-within r j o e x (omega arith) in
      let u = w.after in
      record { after = omega arith; before = w.before }

  -- ---- the operations' predicates

  module _ (d : Dossier) where
    operations-above : {n k : ℕ} {os : List Operation} → OperationsFrom spans ρ end n k os → (at : ℕ) (xs : List Letters) (i : ℕ) → i < n
        → Apart end i (operation_contexts d at xs os) (operation_slots d os) (operation_starts spans k os)
    unfolding operation_contexts operation_slots operation_starts
    operations-above (none_left h) at xs i l = apart_none
    operations-above {k = k} (one_left {next = next} {o = o} {os = os} a b l₀ l₁ l₂ l₃ r) at xs i l =
        let h = operations-end r in
        apart (span spans (9 + 4 * k + 1)) (span spans (9 + 4 * k + 2)) a ρ _ _ _ _ _ _ refl l₂ (omega arith) (inl (omega arith))
        (apart (span spans (9 + 4 * k + 2)) next b ρ _ _ _ _ _ _ refl l₃ h (inl (omega arith))
        (operations-above r (at + operation_length o) (o.title ∷ xs) i (omega arith)))

    operations-apart : {n k : ℕ} {os : List Operation} → OperationsFrom spans ρ end n k os → (j : ℕ) (o : Operation) → get_elem? os j ≡ some o → (x : ℕ) → x ≡ k + j
        → (at : ℕ) (xs : List Letters) (i : ℕ) → span spans (9 + 4 * x) ≤ i → i < span spans (9 + 4 * x) + 8 * length o.parameters
        → Apart end i (operation_contexts d at xs os) (operation_slots d os) (operation_starts spans k os)
    unfolding operation_contexts operation_slots operation_starts
    operations-apart (none_left h) j o e x f at xs i l u = absurd (none-ne-some o e)
    operations-apart {k = k} (one_left {next = next} {o = p} {os = os} a b l₀ l₁ l₂ l₃ r) zero o e x f at xs i l u =
        let h = operations-end r in
        let g : span spans (9 + 4 * x) ≡ span spans (9 + 4 * k) = ap (λ (y : ℕ). span spans (9 + 4 * y)) (omega arith) in
        let s : length p.parameters ≡ length o.parameters = ap (λ (y : Operation). length y.parameters) (some-injective p o e) in
        apart (span spans (9 + 4 * k + 1)) (span spans (9 + 4 * k + 2)) a ρ _ _ _ _ _ _ refl l₂ (omega arith) (inl (omega arith))
        (apart (span spans (9 + 4 * k + 2)) next b ρ _ _ _ _ _ _ refl l₃ h (inl (omega arith))
        (operations-above r (at + operation_length p) (p.title ∷ xs) i (omega arith)))
    operations-apart {k = k} (one_left {next = next} {o = p} {os = os} a b l₀ l₁ l₂ l₃ r) (suc j) o e x f at xs i l u =
        let h = operations-end r in
        let w = (operation-within r j o e x (omega arith)).after in
        apart (span spans (9 + 4 * k + 1)) (span spans (9 + 4 * k + 2)) a ρ _ _ _ _ _ _ refl l₂ (omega arith) (inr (omega arith))
        (apart (span spans (9 + 4 * k + 2)) next b ρ _ _ _ _ _ _ refl l₃ h (inr (omega arith))
        (operations-apart r j o e x (omega arith) (at + operation_length p) (p.title ∷ xs) i l u))

  -- ---- the operations' parameters

  module _ (gs : List Given) where
    parameters-off : {n k : ℕ} {os : List Operation} → OperationsFrom spans ρ end n k os → (out : List ℕ) → end ≤ length out → (i : ℕ) → i < n
        → get_or (with_parameters gs spans k os out) i 0 ≡ get_or out i 0
    unfolding with_parameters
    parameters-off (none_left h) out m i l = refl
    parameters-off {k = k} (one_left {next = next} {o = o} {os = os} a b l₀ l₁ l₂ l₃ r) out m i l =
        let ds : List Declaration = declarations_of o.parameters in
        let c = length-map o.parameters (λ (y : Parameter). y.declaration) in
        let g = carriers_grow gs (span spans (9 + 4 * k)) ds out in
        let h = operations-end r in
        parameters-off r (with_carriers gs (span spans (9 + 4 * k)) ds out) (omega arith) i (omega arith)
        ∙ carriers_off gs (span spans (9 + 4 * k)) ds out (omega arith) i (inl (omega arith))

    parameter-types : {n k : ℕ} {os : List Operation} → OperationsFrom spans ρ end n k os → (out : List ℕ) → end ≤ length out → (j : ℕ) (o : Operation)
        → get_elem? os j ≡ some o → (x : ℕ) → x ≡ k + j → TypesAt (with_parameters gs spans k os out) gs (span spans (9 + 4 * x)) (declarations_of o.parameters)
    unfolding with_parameters
    parameter-types (none_left h) out m j o e x f = absurd (none-ne-some o e)
    parameter-types {k = k} (one_left {next = next} {o = p} {os = os} a b l₀ l₁ l₂ l₃ r) out m zero o e x f =
        let ds : List Declaration = declarations_of p.parameters in
        let c = length-map p.parameters (λ (y : Parameter). y.declaration) in
        let g = carriers_grow gs (span spans (9 + 4 * k)) ds out in
        let h = operations-end r in
        let z : k ≡ x = omega arith in
        subst (λ (y : ℕ). TypesAt (with_parameters gs spans k (p ∷ os) out) gs (span spans (9 + 4 * y)) (declarations_of o.parameters)) z
        (subst (λ (y : Operation). TypesAt (with_parameters gs spans k (p ∷ os) out) gs (span spans (9 + 4 * k)) (declarations_of y.parameters)) (some-injective p o e)
        (types-kept gs (types-here gs (span spans (9 + 4 * k)) ds out (omega arith))
        (λ i l u. parameters-off r (with_carriers gs (span spans (9 + 4 * k)) ds out) (omega arith) i (omega arith))))
    parameter-types {k = k} (one_left {next = next} {o = p} {os = os} a b l₀ l₁ l₂ l₃ r) out m (suc j) o e x f =
        let ds : List Declaration = declarations_of p.parameters in
        let g = carriers_grow gs (span spans (9 + 4 * k)) ds out in
        parameter-types r (with_carriers gs (span spans (9 + 4 * k)) ds out) (omega arith) j o e x (omega arith)

-- ---- the declarations end inside the nodes

module _ (d : Dossier) (ρ : Numbering) {end : ℕ} (A : Arranged d ρ (spans_of d ρ) end) where
  pub concrete-inside : span (spans_of d ρ) 3 + 8 * length (declarations d.concrete) ≤ end
  concrete-inside =
      let h = operations-end A.operations in
      let e = A.concrete_declared in
      let f = A.concrete_ends in
      let g = A.ainit_ends in
      let k = A.cinit_ends in
      let m = A.retrieve_ends in
      omega arith

  pub abstract-inside : span (spans_of d ρ) 0 + 8 * length (declarations d.abstract) ≤ end
  abstract-inside =
      let a = A.abstract_declared in
      let b = A.abstract_ends in
      let c = A.concrete_begins in
      let h = concrete-inside in
      omega arith

  pub operation-inside : (j : ℕ) (o : Operation) → get_elem? d.operations j ≡ some o → span (spans_of d ρ) (9 + 4 * j) + 8 * length o.parameters ≤ end
  operation-inside j o s = (operation-within A.operations j o s j (omega arith)).before

-- ---- the whole table

module _ (d : Dossier) (ρ : Numbering) {end : ℕ} (A : Arranged d ρ (spans_of d ρ) end) (out : List ℕ) (room : end ≤ length out) where
  abbrev at : ℕ → ℕ
  at k = span (spans_of d ρ) k

  -- the place i is in no predicate, if it is in none of the five first and in none of the operations'
  all_apart : (i : ℕ) → (i < at 1 + 4) ⊎ (at 2 ≤ i) → (i < at 4 + 4) ⊎ (at 5 ≤ i) → (i < at 5 + 4) ⊎ (at 6 ≤ i) → (i < at 6 + 4) ⊎ (at 7 ≤ i)
      → (i < at 7 + 4) ⊎ (at 8 ≤ i)
      → Apart end i (operation_contexts d (operations_at d) (concrete_taken d) d.operations) (operation_slots d d.operations) (operation_starts (spans_of d ρ) 0 d.operations)
      → Apart end i (contexts d) (slots_of d) (starts_of d ρ)
  unfolding contexts slots_of starts_of
  all_apart i o₁ o₂ o₃ o₄ o₅ r =
      let h = operations-end A.operations in
      let a = A.abstract_ends in
      let b = A.concrete_begins in
      let c = A.concrete_declared in
      let e = A.concrete_ends in
      let f = A.ainit_ends in
      let g = A.cinit_ends in
      let k = A.retrieve_ends in
      apart (at 1) (at 2) (predicate_at (abstract_at d) d.abstract) ρ _ _ _ _ _ _ refl a (omega arith) o₁
      (apart (at 4) (at 5) (predicate_at (concrete_at d) d.concrete) ρ _ _ _ _ _ _ refl e (omega arith) o₂
      (apart (at 5) (at 6) (ainit_at d + 2) ρ _ _ _ _ _ _ refl f (omega arith) o₃
      (apart (at 6) (at 7) (cinit_at d + 2) ρ _ _ _ _ _ _ refl g (omega arith) o₄
      (apart (at 7) (at 8) (retrieve_at d + 2) ρ _ _ _ _ _ _ refl k (omega arith) o₅ r))))

  abbrev abstracts : List ℕ
  abstracts = with_carriers d.givens (at 0) (declarations d.abstract) out

  abbrev states : List ℕ
  states = with_carriers d.givens (at 3) (declarations d.concrete) abstracts

  states-room : end ≤ length states
  states-room =
      let a = carriers_grow d.givens (at 0) (declarations d.abstract) out in
      let b = carriers_grow d.givens (at 3) (declarations d.concrete) abstracts in
      omega arith

  -- a place in no predicate
  table-off : (i : ℕ) → Apart end i (contexts d) (slots_of d) (starts_of d ρ)
      → get_or (table_of d ρ out) i 0 ≡ get_or (with_parameters d.givens (spans_of d ρ) 0 d.operations states) i 0
  unfolding table_of declared
  table-off i a =
      let g = parameters-grow d.givens (spans_of d ρ) 0 d.operations states in
      let h = states-room in
      predicates-off a (declared d ρ out) (omega arith)

  -- the types of a state's declarations, before the concrete state's predicate and not in the abstract state's
  state-types : (q : ℕ) (ds : List Declaration) → q + 8 * length ds ≤ at 4 → ((i : ℕ) → q ≤ i → i < q + 8 * length ds → (i < at 1 + 4) ⊎ (at 2 ≤ i))
      → TypesAt states d.givens q ds → TypesAt (table_of d ρ out) d.givens q ds
  state-types q ds before o h =
      let f = A.concrete_ends in
      let g = A.ainit_ends in
      let k = A.cinit_ends in
      let m = A.retrieve_ends in
      types-kept d.givens h
      (λ i l u.
      table-off i
      (all_apart i (o i l u) (inl (omega arith)) (inl (omega arith)) (inl (omega arith)) (inl (omega arith))
      (operations-above d A.operations (operations_at d) (concrete_taken d) i (omega arith)))
      ∙ parameters-off d.givens A.operations states states-room i (omega arith))

  pub abstract_types : TypesAt (table_of d ρ out) d.givens (at 0) (declarations d.abstract)
  abstract_types =
      let a = A.abstract_declared in
      let b = A.abstract_ends in
      let c = A.concrete_begins in
      let e = A.concrete_declared in
      let h = concrete-inside d ρ A in
      let n = carriers_grow d.givens (at 0) (declarations d.abstract) out in
      state-types (at 0) (declarations d.abstract) (omega arith) (λ i l u. inl (omega arith))
      (types-kept d.givens (types-here d.givens (at 0) (declarations d.abstract) out (omega arith))
      (λ i l u. carriers_off d.givens (at 3) (declarations d.concrete) abstracts (omega arith) i (inl (omega arith))))

  pub concrete_types : TypesAt (table_of d ρ out) d.givens (at 3) (declarations d.concrete)
  concrete_types =
      let c = A.concrete_begins in
      let e = A.concrete_declared in
      let h = concrete-inside d ρ A in
      let n = carriers_grow d.givens (at 0) (declarations d.abstract) out in
      state-types (at 3) (declarations d.concrete) (omega arith) (λ i l u. inr (omega arith))
      (types-here d.givens (at 3) (declarations d.concrete) abstracts (omega arith))

  pub operation-types : (j : ℕ) (o : Operation) → get_elem? d.operations j ≡ some o
      → TypesAt (table_of d ρ out) d.givens (at (9 + 4 * j)) (declarations_of o.parameters)
  operation-types j o s =
      let b = A.abstract_ends in
      let c = A.concrete_begins in
      let e = A.concrete_declared in
      let f = A.concrete_ends in
      let g = A.ainit_ends in
      let k = A.cinit_ends in
      let m = A.retrieve_ends in
      let w = (operation-within A.operations j o s j (omega arith)).after in
      let n = length-map o.parameters (λ (y : Parameter). y.declaration) in
      types-kept d.givens (parameter-types d.givens A.operations states states-room j o s j (omega arith))
      (λ i l u.
      table-off i
      (all_apart i (inr (omega arith)) (inr (omega arith)) (inr (omega arith)) (inr (omega arith)) (inr (omega arith))
      (operations-apart d A.operations j o s j (omega arith) (operations_at d) (concrete_taken d) i l (omega arith))))
