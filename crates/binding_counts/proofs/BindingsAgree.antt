-- The counts by numbers are those of the carriers, and the keys those of the least faults of number 12: where no declared type is at fault and the tables
-- tell the sizes of its given sets.
use mathlib.Core.Path.{◌≡◌, refl, ap, ap₂, ◌∙◌, sym}
use mathlib.Core.Bool.{Bool, true, false, ◌&&◌, cond}
use mathlib.Core.List.{List, [], ◌∷◌, ◌++◌, map}
use mathlib.Core.Option.{some}
use Prim.Native.Nat.{ℕ, suc, ◌+◌, ◌-◌, ◌*◌, ◌^◌, ◌%◌, ◌≤◌}
use native.Mathlib.Omega.{arith}
use lib.Dec.{eqb, leb}
use lib.IntN.{pos, ◌-ℤ◌, nat_abs}
use lib.Signed.{le_z, lt_z}
use Rattle.lexical.specs.Lists.{filter}
use Rattle.lexical.specs.Symbols.{Name, Ending, no_ending, prime, query, shriek}
use Rattle.refusals.specs.Refusals.{fault, number_of, unless, many_bindings, wide_type, Fault}
use Rattle.form.specs.Tree.{Letters, Range, Arrow, relation, partial, total, TypeForm, given_type, power_type, range_type, arrow_type, Given, Declaration, Direction, inward, outward, Parameter, Operation, Dossier}
use Rattle.form.specs.Written.{ending_of}
use Rattle.form.specs.Headings.{abstract_at, concrete_at, operations_at, operation_length}
use Rattle.form.specs.Codes.{Numbering, ending_number, number_of_name, name_number, end_number}
use Rattle.static_rules.specs.Carriers.{Carrier, elements_of, subsets_of, pairs_in, size_of, end_value, range_carrier, arrow_count, count_of, given_of, carrier_of}
use Rattle.static_rules.specs.Names.{end_length, range_fits, range_faults, known, pairs_fault, type_faults}
use Rattle.static_rules.specs.Scope as scope
use Rattle.static_rules.specs.Scope.{variables, is_input, is_output, unprimed, inputs, outputs}
use Rattle.static_rules.specs.Limits.{binding_count, operation_bindings, binding_faults}
use Rattle.type_rules.specs.TypesByNumber.{Names, Sizes, key, unless_key, lesser, least_key}
use Rattle.names.specs.DeclaredNamesNamesByNumber.{Typed, variables_of, parameters_of}
use Rattle.names.proofs.TypesAgreeLeast.{lesser-assoc, least-nil, unless-least, two-parts}
use Rattle.binding_counts.specs.DeclaredTypesFit.{TypesFit, no_types, one_type, OperationsFit, no_operations, one_operation, DeclaredFit}
use Rattle.binding_counts.specs.BindingsByNumber.{size_at, type_count, typed_count, state_over, operation_over, operations_over, StateBound, OperationsBound, TypeShown, TypesShown, one_shown, OperationsShown, operation_shown, GivensShown, BindingsSeen}
use Rattle.refusals.proofs.FaultLists.{append_nil-both, unless-nil}
use Rattle.static_rules.proofs.Faultless.{given-known}
use Rattle.static_rules.proofs.FoundCarriers.{arrow-carrier, given-carrier, power-carrier}
use Rattle.lexical.proofs.BooleanTests.{and_left}
use Rattle.names.proofs.TypesAgreeRanges.{end-stands, stand-width}

-- ---- ranges ----

range-counts : (r : Range) (i : ℕ) → range_faults r i ≡ [] → r.lower.magnitude ≤ 1000 → r.upper.magnitude ≤ 1000
    → end_number r.upper - end_number r.lower + 1 ≡ nat_abs (end_value r.upper -ℤ end_value r.lower) + 1
unfolding range_faults range_fits
range-counts r i e p q =
    let w = stand-width (end-stands r.lower.negative r.lower.magnitude p) (end-stands r.upper.negative r.upper.magnitude q)
    (and_left (le_z (end_value r.lower) (end_value r.upper)) (lt_z (end_value r.upper -ℤ end_value r.lower) (pos 64))
    (unless-nil (range_fits (end_value r.lower) (end_value r.upper)) (fault (i + end_length r.lower) wide_type) e)) in
    omega arith

-- ---- types ----

module _ (T : Names) (z : Sizes) (gs : List Given) (ρ : Numbering) where
  -- a declared type without faults has a carrier, of this count
  record Counts (t : TypeForm) : Type 0 where
    carrier : Carrier
    carries : carrier_of gs t ≡ some carrier
    counts : type_count t T ρ z ≡ count_of carrier

  arrow-counts : (a : Arrow) (g h : Name) (n m : ℕ) → size_at T z (name_number ρ g) ≡ n → size_at T z (name_number ρ h) ≡ m → type_count (arrow_type a g h) T ρ z ≡ arrow_count a n m
  unfolding type_count arrow_count
  arrow-counts relation g h n m p q = ap₂ (λ (i j : ℕ). 2 ^ (i * j)) p q
  arrow-counts partial g h n m p q = ap₂ (λ (i j : ℕ). (j + 1) ^ i) p q
  arrow-counts total g h n m p q = ap₂ (λ (i j : ℕ). j ^ i) p q

  type-counts : (t : TypeForm) (i : ℕ) → type_faults gs t i ≡ [] → TypeShown T z gs ρ t → Counts t
  unfolding type_faults carrier_of type_count count_of
  type-counts (given_type g) i e s =
      let x = given-known (given_of gs g) i e in record { carrier = elements_of x.0; carries = given-carrier gs g x.0 x.1; counts = s x.0 x.1 }
  type-counts (power_type g) i e s =
      let x = given-known (given_of gs g) (suc i) e in
      record { carrier = subsets_of x.0; carries = power-carrier gs g x.0 x.1; counts = ap (λ (n : ℕ). 2 ^ n) (s x.0 x.1) }
  type-counts (range_type r) i e s = record { carrier = range_carrier r; carries = refl; counts = range-counts r i e s.0 s.1 }
  type-counts (arrow_type a g h) i e s =
      let l = append_nil-both (known (given_of gs g) i ++ known (given_of gs h) (i + 2)) (pairs_fault (given_of gs g) (given_of gs h) (suc i)) e in
      let m = append_nil-both (known (given_of gs g) i) (known (given_of gs h) (i + 2)) l.0 in
      let x = given-known (given_of gs g) i m.0 in
      let y = given-known (given_of gs h) (i + 2) m.1 in
      record {
        carrier = pairs_in a x.0 y.0;
        carries = arrow-carrier gs a g h x.0 y.0 x.1 y.1;
        counts = arrow-counts a g h (size_of x.0) (size_of y.0) (s.0 x.0 x.1) (s.1 y.0 y.1);
      }

  -- ---- groups ----

  shown-first : {x : Typed} {xs : List Typed} → TypesShown T z gs ρ (x ∷ xs) → TypeShown T z gs ρ x.type
  shown-first (one_shown h r) = h

  shown_rest : {x : Typed} {xs : List Typed} → TypesShown T z gs ρ (x ∷ xs) → TypesShown T z gs ρ xs
  shown_rest (one_shown h r) = r

  ending-left : (x : Letters) (e : Ending) → number_of_name ρ x e % 4 ≡ ending_number e
  unfolding number_of_name
  ending-left x no_ending = omega arith
  ending-left x prime = omega arith
  ending-left x query = omega arith
  ending-left x shriek = omega arith

  binding-cons : (e : Ending) (d : Declaration) (ds : List Declaration) (c : Carrier) → carrier_of gs d.type ≡ some c
      → binding_count (variables gs e (d ∷ ds)) ≡ count_of c * binding_count (variables gs e ds)
  unfolding variables binding_count
  binding-cons e d ds c h = rw (variables, h)

  -- one declared name that counts: its factor, and what stands behind it
  one-counts : (w : ℕ) (e : Ending) (x : Typed) (xs : List Typed) (d : Declaration) (ds : List Declaration) → eqb (name_number ρ x.called % 4) w ≡ true → Counts d.type → x.type ≡ d.type
      → typed_count w xs T ρ z ≡ binding_count (variables gs e ds) → typed_count w (x ∷ xs) T ρ z ≡ binding_count (variables gs e (d ∷ ds))
  unfolding typed_count
  one-counts w e x xs d ds hit c same r =
      ap₂ (λ (b : Bool) (n : ℕ). cond b (type_count x.type T ρ z) 1 * n) hit r
      ∙ ap (λ (n : ℕ). n * binding_count (variables gs e ds)) (ap (λ (t : TypeForm). type_count t T ρ z) same ∙ c.counts) ∙ sym (binding-cons e d ds c.carrier c.carries)

  one_passes : (w : ℕ) (x : Typed) (xs : List Typed) (n : ℕ) → eqb (name_number ρ x.called % 4) w ≡ false → typed_count w xs T ρ z ≡ n → typed_count w (x ∷ xs) T ρ z ≡ n
  unfolding typed_count
  one_passes w x xs n miss r = ap₂ (λ (b : Bool) (m : ℕ). cond b (type_count x.type T ρ z) 1 * m) miss r ∙ omega arith

  none-count : (w : ℕ) (e : Ending) → typed_count w [] T ρ z ≡ binding_count (variables gs e [])
  unfolding typed_count variables binding_count
  none-count w e = refl

  -- the variables of a state
  pub state-counts : {ds : List Declaration} → TypesFit gs ds → TypesShown T z gs ρ (variables_of no_ending ds)
      → typed_count 0 (variables_of no_ending ds) T ρ z ≡ binding_count (variables gs no_ending ds)
  unfolding variables_of
  state-counts no_types s = none-count 0 no_ending
  state-counts (one_type {d = d} {ds = ds} i e f) s =
      one-counts 0 no_ending _ (variables_of no_ending ds) d ds (ap (λ (n : ℕ). eqb n 0) (ending-left d.declared no_ending)) (type-counts d.type i e (shown-first s)) refl
      (state-counts f (shown_rest s))

  fit-first : {d : Declaration} {ds : List Declaration} → TypesFit gs (d ∷ ds) → TypeShown T z gs ρ d.type → Counts d.type
  fit-first (one_type {d = d} i e f) s = type-counts d.type i e s

  fit-rest : {d : Declaration} {ds : List Declaration} → TypesFit gs (d ∷ ds) → TypesFit gs ds
  fit-rest (one_type i e f) = f

  -- the parameters of the directions that are kept, which have the ending of the number w
  module _ (w : ℕ) (e : Ending) (keep : Direction → Bool) (right : (δ : Direction) → eqb (ending_number (ending_of δ)) w ≡ keep δ) where
    abbrev kept : List Parameter → List Declaration
    kept xs = map (λ (x : Parameter). x.declaration) (filter (λ (x : Parameter). keep x.direction) xs)

    kept_here : (x : Parameter) (xs : List Parameter) → keep x.direction ≡ true → kept (x ∷ xs) ≡ x.declaration ∷ kept xs
    unfolding filter
    kept_here x xs h =
        ap (λ (b : Bool). map (λ (y : Parameter). y.declaration) (elim b as (λ (c : Bool). List Parameter) [ true ↦ x ∷ filter (λ (y : Parameter). keep y.direction) xs | false ↦ filter (λ (y : Parameter). keep y.direction) xs ])) h

    kept_there : (x : Parameter) (xs : List Parameter) → keep x.direction ≡ false → kept (x ∷ xs) ≡ kept xs
    unfolding filter
    kept_there x xs h =
        ap (λ (b : Bool). map (λ (y : Parameter). y.declaration) (elim b as (λ (c : Bool). List Parameter) [ true ↦ x ∷ filter (λ (y : Parameter). keep y.direction) xs | false ↦ filter (λ (y : Parameter). keep y.direction) xs ])) h

    tells : (x : Parameter) → eqb (number_of_name ρ x.declaration.declared (ending_of x.direction) % 4) w ≡ keep x.direction
    tells x = ap (λ (n : ℕ). eqb n w) (ending-left x.declaration.declared (ending_of x.direction)) ∙ right x.direction

    pub parameters-count : (xs : List Parameter) → TypesFit gs (map (λ (x : Parameter). x.declaration) xs) → TypesShown T z gs ρ (parameters_of xs)
        → typed_count w (parameters_of xs) T ρ z ≡ binding_count (variables gs e (kept xs))
    unfolding parameters_of filter
    parameters-count [] f s = none-count w e
    parameters-count (x ∷ xs) f s = go (keep x.direction) refl (parameters-count xs (fit-rest f) (shown_rest s))
      where
        go : (b : Bool) → keep x.direction ≡ b → typed_count w (parameters_of xs) T ρ z ≡ binding_count (variables gs e (kept xs))
            → typed_count w (parameters_of (x ∷ xs)) T ρ z ≡ binding_count (variables gs e (kept (x ∷ xs)))
        go true h r =
            one-counts w e _ (parameters_of xs) x.declaration (kept xs) (tells x ∙ h) (fit-first f (shown-first s)) refl r
            ∙ sym (ap (λ (l : List Declaration). binding_count (variables gs e l)) (kept_here x xs h))
        go false h r = one_passes w _ (parameters_of xs) _ (tells x ∙ h) r ∙ sym (ap (λ (l : List Declaration). binding_count (variables gs e l)) (kept_there x xs h))

input-right : (δ : Direction) → eqb (ending_number (ending_of δ)) 2 ≡ is_input δ
input-right inward = refl
input-right outward = refl

output-right : (δ : Direction) → eqb (ending_number (ending_of δ)) 3 ≡ is_output δ
output-right inward = refl
output-right outward = refl

-- ---- the dossier ----

module _ (T : Names) (z : Sizes) (d : Dossier) (ρ : Numbering) where
  inputs-count : (o : Operation) → TypesFit d.givens (map (λ (x : Parameter). x.declaration) o.parameters) → TypesShown T z d.givens ρ (parameters_of o.parameters)
      → typed_count 2 (parameters_of o.parameters) T ρ z ≡ binding_count (inputs d o)
  unfolding scope.parameters_of
  inputs-count o f s = parameters-count T z d.givens ρ 2 query is_input input-right o.parameters f s

  outputs-count : (o : Operation) → TypesFit d.givens (map (λ (x : Parameter). x.declaration) o.parameters) → TypesShown T z d.givens ρ (parameters_of o.parameters)
      → typed_count 3 (parameters_of o.parameters) T ρ z ≡ binding_count (outputs d o)
  unfolding scope.parameters_of
  outputs-count o f s = parameters-count T z d.givens ρ 3 shriek is_output output-right o.parameters f s

  many : (ok : Bool) (i : ℕ) → unless_key ok (key i 12) ≡ least_key (unless ok (fault i many_bindings))
  unfolding number_of
  many ok i = unless-least ok i many_bindings

  one-least : (o : Operation) → TypesFit d.givens (map (λ (x : Parameter). x.declaration) o.parameters) → TypesShown T z d.givens ρ (parameters_of o.parameters) → (i : ℕ)
      → operation_over o T ρ z i ≡ least_key (unless (leb (binding_count (inputs d o)) 64 && leb (binding_count (outputs d o)) 64) (fault i many_bindings))
  unfolding operation_over
  one-least o f s i =
      ap₂ (λ (n m : ℕ). unless_key (leb n 64 && leb m 64) (key i 12)) (inputs-count o f s) (outputs-count o f s)
      ∙ many (leb (binding_count (inputs d o)) 64 && leb (binding_count (outputs d o)) 64) i

  rest-shown : {o : Operation} {os : List Operation} → OperationsShown T z d.givens ρ (o ∷ os) → TypesShown T z d.givens ρ (parameters_of o.parameters) × OperationsShown T z d.givens ρ os
  rest-shown (operation_shown h r) = (h, r)

  operations-least : {os : List Operation} → OperationsFit d.givens os → OperationsShown T z d.givens ρ os → (i : ℕ) → operations_over os T ρ z i ≡ least_key (operation_bindings d i os)
  unfolding operations_over operation_bindings
  operations-least no_operations s i = sym least-nil
  operations-least (one_operation {o = o} {os = os} f r) s i =
      let q = rest-shown s in
      two-parts (unless (leb (binding_count (inputs d o)) 64 && leb (binding_count (outputs d o)) 64) (fault i many_bindings)) (operation_bindings d (i + operation_length o) os) (one-least o f q.0 i) (operations-least r q.1 (i + operation_length o))

  pub all-least : DeclaredFit d → GivensShown T z d ρ
      → lesser (state_over d.abstract T ρ z (abstract_at d)) (lesser (state_over d.concrete T ρ z (concrete_at d)) (operations_over d.operations T ρ z (operations_at d)))
      ≡ least_key (binding_faults d)
  unfolding state_over binding_faults
  all-least f s =
      let x : List Fault = unless (leb (binding_count (unprimed d d.abstract)) 4096) (fault (abstract_at d) many_bindings) in
      let y : List Fault = unless (leb (binding_count (unprimed d d.concrete)) 4096) (fault (concrete_at d) many_bindings) in
      let a = ap (λ (n : ℕ). unless_key (leb n 4096) (key (abstract_at d) 12)) (state-counts T z d.givens ρ f.abstracts s.abstracts) ∙ many (leb (binding_count (unprimed d d.abstract)) 4096) (abstract_at d) in
      let c = ap (λ (n : ℕ). unless_key (leb n 4096) (key (concrete_at d) 12)) (state-counts T z d.givens ρ f.concretes s.concretes) ∙ many (leb (binding_count (unprimed d d.concrete)) 4096) (concrete_at d) in
      sym (lesser-assoc (state_over d.abstract T ρ z (abstract_at d)) (state_over d.concrete T ρ z (concrete_at d)) (operations_over d.operations T ρ z (operations_at d)))
      ∙ two-parts (x ++ y) (operation_bindings d (operations_at d) d.operations) (two-parts x y a c) (operations-least f.parameters s.parameters (operations_at d))

-- what the code makes of the two states and the operations
pub bindings-seen : (nodes spans : List ℕ) (n : ℕ) (T : Names) (z : Sizes) (a c o m r : ℕ) → StateBound nodes spans 0 T z a → StateBound nodes spans 3 T z c → OperationsBound nodes spans n T z o
    → m ≡ lesser c o → r ≡ lesser a m → BindingsSeen nodes spans n T z r
bindings-seen nodes spans n T z a c o m r p q s e h d ρ w f g =
    h ∙ ap (lesser a) e
    ∙ ap₂ lesser (p d.abstract (abstract_at d) ρ w.abstract) (ap₂ lesser (q d.concrete (concrete_at d) ρ w.concrete) (s d.operations (operations_at d) ρ w.counted w.operations))
    ∙ all-least T z d ρ f g
