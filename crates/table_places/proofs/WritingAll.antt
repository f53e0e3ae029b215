-- The whole table from its parts, and the spans that the code reads in front of an array of 80 numbers.
use mathlib.Core.Path.{◌≡◌, refl, ap, ap₂, sym, ◌∙◌, subst}
use mathlib.Core.List.{List, [], ◌∷◌, ◌++◌, map}
use Prim.Native.Nat.{ℕ, suc, ◌+◌, ◌*◌, ◌≤◌, ◌<◌}
use native.Mathlib.Omega.{arith}
use lib.ListN.{length, get_or-append}
use Rattle.lexical.specs.Symbols.{no_ending}
use Rattle.form.specs.Tree.{Letters, Declaration, declarations, Parameter, State, Operation, Dossier}
use Rattle.form.specs.Headings.{givens_at, abstract_at, concrete_at, operations_at, operation_length}
use Rattle.form.specs.Codes.{Numbering, abstractly_at, pred_width, condition_codes, given_codes, declaration_codes, parameter_codes}
use Rattle.names.specs.StaticRulesScope.{contexts, concrete_taken}
use Rattle.type_rules.specs.TypesByNumber.{Names, Sizes}
use Rattle.names.specs.DeclaredNamesNamesByNumber.{Typed, typed_codes, variables_of, state_named, conditions_named}
use Rattle.node_spans.specs.ParserSections.{PartOf}
use Rattle.names.specs.DeclaredNamesPassPromises.{Variables}
use Rattle.names.proofs.PassSteps.{variables-codes}
use Rattle.node_spans.specs.ParserSections.{operations_from}
use Rattle.node_spans.specs.Spans.{operation_spans, spans_of, span, Structured}
use Rattle.table_nodes.specs.TableByNumber.{Places}
use Rattle.table_places.specs.DossierTable.{operation_starts, starts_of}
use Rattle.table_places.specs.DossierTableByNumber.{givens_placed, placing, states_placed, kinds_of, places_of, with_tables, with_nodes, with_operations, declared_nodes, table_by}
use Rattle.table_places.specs.TablePromises.{ElementsSet, VariablesSet, with_state, StateSet, StatesSet, with_conditions, ConditionsSet, tables_from, OperationsSet, PlacesSet, declared_by, DeclaredSet, starts_by, places_by, ContextsSet, TableSet}
use Rattle.node_spans.proofs.StandingParts.{part-stands}

-- the places of elements and of both states' variables
pub places-set : (gs A C : List ℕ) (W W₁ W₂ W₃ W₄ Y : Places) → ElementsSet gs W W₁ → VariablesSet A 0 0 W₁ W₂ → VariablesSet A 1 30 W₂ W₃ → VariablesSet C 0 8 W₃ W₄
    → VariablesSet C 1 22 W₄ Y → PlacesSet gs A C W Y
unfolding states_placed
places-set gs A C W W₁ W₂ W₃ W₄ Y es a₀ a₁ c₀ c₁ d i ρ e v =
    let av : List Typed = variables_of no_ending (declarations d.abstract) in
    let cv : List Typed = variables_of no_ending (declarations d.concrete) in
    let a : A ≡ typed_codes v.i av ρ = v.first ∙ sym (variables-codes v.i (declarations d.abstract) ρ) in
    let c : C ≡ typed_codes v.j cv ρ = v.second ∙ sym (variables-codes v.j (declarations d.concrete) ρ) in
    let w₂ : W₂ ≡ placing av 0 0 (givens_placed d.givens W ρ) ρ = a₀ av v.i ρ a ∙ ap (λ (w : Places). placing av 0 0 w ρ) (es d.givens i ρ e) in
    let w₃ = a₁ av v.i ρ a ∙ ap (λ (w : Places). placing av 1 30 w ρ) w₂ in
    let w₄ = c₀ cv v.j ρ c ∙ ap (λ (w : Places). placing cv 0 8 w ρ) w₃ in
    c₁ cv v.j ρ c ∙ ap (λ (w : Places). placing cv 1 22 w ρ) w₄

-- places read from the spans
pub state-read : (nodes : List ℕ) (a b c c' : ℕ) (T U : Names) (W Y : Places) (z : Sizes) (out after : List ℕ) → c ≡ c'
    → StateSet nodes a b c T U W Y z out after → StateSet nodes a b c' T U W Y z out after
state-read nodes a b c c' T U W Y z out after r s = subst (λ (m : ℕ). StateSet nodes a b m T U W Y z out after) r s

pub conditions-read : (nodes A C : List ℕ) (a a' b b' c c' : ℕ) (T U : Names) (W Y : Places) (z : Sizes) (out after : List ℕ) → a ≡ a' → b ≡ b' → c ≡ c'
    → ConditionsSet nodes A C a b c T U W Y z out after → ConditionsSet nodes A C a' b' c' T U W Y z out after
conditions-read nodes A C a a' b b' c c' T U W Y z out after p q r s =
    subst (λ (m : ℕ). ConditionsSet nodes A C a' b' m T U W Y z out after) r
    (subst (λ (m : ℕ). ConditionsSet nodes A C a' m c T U W Y z out after) q (subst (λ (m : ℕ). ConditionsSet nodes A C m b c T U W Y z out after) p s))

-- the table of all contexts is that of the states, of the conditions, and of the operations
abbrev after_states : Dossier → Names → Numbering → Names
after_states d T ρ = state_named d.concrete (state_named d.abstract T ρ) ρ

all-contexts : (d : Dossier) (spans : List ℕ) (T : Names) (W : Places) (z : Sizes) (ρ : Numbering) (out : List ℕ)
    → tables_from d spans 0 (operations_at d) (concrete_taken d) d.operations (conditions_named d (after_states d T ρ) ρ) W z ρ
    (with_conditions d (after_states d T ρ) W z ρ (span spans 5 + 4) (span spans 6 + 4) (span spans 7 + 4)
    (with_state d.concrete (state_named d.abstract T ρ) W z ρ (span spans 4 + 4) (with_state d.abstract T W z ρ (span spans 1 + 4) out)))
    ≡ with_tables (contexts d) (kinds_of d T ρ) (places_by d W ρ) (starts_by d spans) z ρ out
unfolding contexts kinds_of starts_by with_tables with_conditions
all-contexts d spans T W z ρ out = refl

state-as : (s : State) (z : Sizes) (ρ : Numbering) (q : ℕ) {T T' : Names} {W W' : Places} {out out' : List ℕ} → T ≡ T' → W ≡ W' → out ≡ out'
    → with_state s T W z ρ q out ≡ with_state s T' W' z ρ q out'
state-as s z ρ q {T} {T'} {W} {W'} {out} {out'} t w o =
    ap₂ (λ (a : Names) (b : Places). with_state s a b z ρ q out) t w ∙ ap (λ (l : List ℕ). with_state s T' W' z ρ q l) o

conditions-as : (d : Dossier) (z : Sizes) (ρ : Numbering) (a b c : ℕ) {T T' : Names} {W W' : Places} {out out' : List ℕ} → T ≡ T' → W ≡ W' → out ≡ out'
    → with_conditions d T W z ρ a b c out ≡ with_conditions d T' W' z ρ a b c out'
conditions-as d z ρ a b c {T} {T'} {W} {W'} {out} {out'} t w o =
    ap₂ (λ (x : Names) (y : Places). with_conditions d x y z ρ a b c out) t w ∙ ap (λ (l : List ℕ). with_conditions d T' W' z ρ a b c l) o

tables_as : (d : Dossier) (spans : List ℕ) (i : ℕ) (xs : List Letters) (os : List Operation) (z : Sizes) (ρ : Numbering) {T T' : Names} {W W' : Places} {out out' : List ℕ}
    → T ≡ T' → W ≡ W' → out ≡ out' → tables_from d spans 0 i xs os T W z ρ out ≡ tables_from d spans 0 i xs os T' W' z ρ out'
tables_as d spans i xs os z ρ {T} {T'} {W} {W'} {out} {out'} t w o =
    ap₂ (λ (x : Names) (y : Places). tables_from d spans 0 i xs os x y z ρ out) t w ∙ ap (λ (l : List ℕ). tables_from d spans 0 i xs os T' W' z ρ l) o

pub states-set : (nodes spans : List ℕ) (T T₁ U : Names) (W W₁ Y : Places) (z : Sizes) (out out₁ after : List ℕ)
    → StateSet nodes (span spans 0) (span spans 1) (span spans 2) T T₁ W W₁ z out out₁
    → StateSet nodes (span spans 3) (span spans 4) (span spans 5) T₁ U W₁ Y z out₁ after
    → StatesSet nodes spans T U W Y z out after
states-set nodes spans T T₁ U W W₁ Y z out out₁ after a c =
    record {
      places_kept = c.places_kept ∙ a.places_kept;
      named = λ d n ρ s. c.named d.concrete (suc (concrete_at d)) ρ s.concrete.variables ∙ ap (λ (x : Names). state_named d.concrete x ρ) (first-named d n ρ s);
      right =
          λ d n ρ s.
          c.right d.concrete (suc (concrete_at d)) _ ρ s.concrete.variables s.concrete.predicate
          ∙ state-as d.concrete z ρ (span spans 4 + 4) (first-named d n ρ s) a.places_kept
          (a.right d.abstract (suc (abstract_at d)) _ ρ s.abstract.variables s.abstract.predicate);
    }
  where
    first-named : (d : Dossier) (n : ℕ) (ρ : Numbering) → Structured nodes spans n d ρ → T₁ ≡ state_named d.abstract T ρ
    first-named d n ρ s = a.named d.abstract (suc (abstract_at d)) ρ s.abstract.variables

pub contexts-set : (nodes spans A C : List ℕ) (n : ℕ) (T T₂ T₃ : Names) (W W₂ W₃ : Places) (z : Sizes) (out out₂ out₃ after : List ℕ)
    → StatesSet nodes spans T T₂ W W₂ z out out₂
    → ConditionsSet nodes A C (span spans 6) (span spans 7) (span spans 8) T₂ T₃ W₂ W₃ z out₂ out₃
    → OperationsSet nodes spans A C n T₃ W₃ z out₃ after
    → ContextsSet nodes spans A C n T W z out after
contexts-set nodes spans A C n T T₂ T₃ W W₂ W₃ z out out₂ out₃ after b k h d ρ s t v =
    let t₂ : T₂ ≡ after_states d T ρ = b.named d n ρ s in
    let t₃ : T₃ ≡ conditions_named d (after_states d T ρ) ρ = k.named d ρ v ∙ ap (λ (x : Names). conditions_named d x ρ) t₂ in
    let w₃ : W₃ ≡ W = k.places_kept ∙ b.places_kept in
    let o₃ = k.right d ρ v (span spans 5) s.ainit s.cinit s.retrieve
    ∙ conditions-as d z ρ (span spans 5 + 4) (span spans 6 + 4) (span spans 7 + 4) t₂ b.places_kept (b.right d n ρ s) in
    h d d.operations (operations_at d) (concrete_taken d) ρ s.counted s.operations t v
    ∙ (tables_as d spans (operations_at d) (concrete_taken d) d.operations z ρ t₃ w₃ o₃ ∙ all-contexts d spans T W z ρ out)

-- what stands behind the spans does not matter
module _ (s r : List ℕ) where
  span_same : (j : ℕ) → j < length s → span (s ++ r) j ≡ span s j
  span_same j h = get_or-append s r 0 j h

  pub starts-same : (k : ℕ) (os : List Operation) → 9 + 4 * (k + length os) ≤ length s → operation_starts (s ++ r) k os ≡ operation_starts s k os
  unfolding operation_starts
  starts-same k [] h = refl
  starts-same k (o ∷ os) h =
      ap₂ (λ (a b : ℕ). (a + 4) ∷ (b + 4) ∷ operation_starts (s ++ r) (suc k) os) (span_same (9 + 4 * k + 1) (omega arith)) (span_same (9 + 4 * k + 2) (omega arith))
      ∙ ap (λ (l : List ℕ). (span s (9 + 4 * k + 1) + 4) ∷ (span s (9 + 4 * k + 2) + 4) ∷ l) (starts-same (suc k) os (omega arith))

  carried_same : (T : Names) (z : Sizes) (ρ : Numbering) (k : ℕ) (os : List Operation) (out : List ℕ) → 9 + 4 * (k + length os) ≤ length s
      → with_operations T z ρ (s ++ r) k os out ≡ with_operations T z ρ s k os out
  unfolding with_operations
  carried_same T z ρ k [] out h = refl
  carried_same T z ρ k (o ∷ os) out h =
      ap (λ (q : ℕ). with_operations T z ρ (s ++ r) (suc k) os (with_nodes T z ρ q (map (λ (x : Parameter). x.declaration) o.parameters) out)) (span_same (9 + 4 * k) (omega arith))
      ∙ carried_same T z ρ (suc k) os (with_nodes T z ρ (span s (9 + 4 * k)) (map (λ (x : Parameter). x.declaration) o.parameters) out) (omega arith)

operation-spans : (from i : ℕ) (os : List Operation) (ρ : Numbering) → length (operation_spans from i os ρ) ≡ 4 * length os
unfolding operation_spans
operation-spans from i [] ρ = refl
operation-spans from i (o ∷ os) ρ =
    let b : ℕ = from + 4 + length (parameter_codes (i + 2) o.parameters ρ) in
    let e : ℕ = b + length (condition_codes (abstractly_at i o) o.abstractly ρ) in
    let f : ℕ = e + length (condition_codes (suc (abstractly_at i o) + pred_width o.abstractly) o.concretely ρ) in
    let h = operation-spans f (i + operation_length o) os ρ in
    omega arith

pub spans-length : (d : Dossier) (ρ : Numbering) → length (spans_of d ρ) ≡ 9 + 4 * length d.operations
unfolding spans_of
spans-length d ρ = let h = operation-spans (operations_from d ρ) (operations_at d) d.operations ρ in omega arith

module _ (d : Dossier) (ρ : Numbering) (r : List ℕ) where
  room : 9 + 4 * (0 + length d.operations) ≤ length (spans_of d ρ)
  room = let h = spans-length d ρ in omega arith

  starts_are : starts_by d (spans_of d ρ ++ r) ≡ starts_of d ρ
  unfolding starts_by starts_of
  starts_are =
      let s : List ℕ = spans_of d ρ in
      let l = spans-length d ρ in
      let e : (j : ℕ) → j < 9 → span (s ++ r) j ≡ span s j = λ j h. span_same s r j (omega arith) in
      ap₂ (λ (a b : ℕ). (a + 4) ∷ (b + 4) ∷ (span (s ++ r) 5 + 4) ∷ (span (s ++ r) 6 + 4) ∷ (span (s ++ r) 7 + 4) ∷ operation_starts (s ++ r) 0 d.operations) (e 1 (omega arith)) (e 4 (omega arith))
      ∙ (ap₂ (λ (a b : ℕ). (span s 1 + 4) ∷ (span s 4 + 4) ∷ (a + 4) ∷ (b + 4) ∷ (span (s ++ r) 7 + 4) ∷ operation_starts (s ++ r) 0 d.operations) (e 5 (omega arith)) (e 6 (omega arith))
      ∙ ap₂ (λ (a : ℕ) (b : List ℕ). (span s 1 + 4) ∷ (span s 4 + 4) ∷ (span s 5 + 4) ∷ (span s 6 + 4) ∷ (a + 4) ∷ b) (e 7 (omega arith)) (starts-same s r 0 d.operations room))

  declared-are : (T : Names) (z : Sizes) (out : List ℕ) → declared_by d (spans_of d ρ ++ r) T z ρ out ≡ declared_nodes d T z ρ out
  unfolding declared_by declared_nodes
  declared-are T z out =
      let s : List ℕ = spans_of d ρ in
      let l = spans-length d ρ in
      let a : List Declaration = declarations d.abstract in
      let c : List Declaration = declarations d.concrete in
      carried_same s r T z ρ 0 d.operations (with_nodes T z ρ (span (s ++ r) 3) c (with_nodes T z ρ (span (s ++ r) 0) a out)) room
      ∙ ap₂ (λ (x y : ℕ). with_operations T z ρ s 0 d.operations (with_nodes T z ρ x c (with_nodes T z ρ y a out))) (span_same s r 3 (omega arith)) (span_same s r 0 (omega arith))

pub table-set : (nodes spans gs A C : List ℕ) (n m givens abstracts : ℕ) (T : Names) (W W₁ : Places) (z : Sizes) (out out₁ after : List ℕ) → (n ≤ 16 → m ≡ n)
    → PartOf nodes givens abstracts gs → PartOf nodes (span spans 0) (span spans 1) A → PartOf nodes (span spans 3) (span spans 4) C
    → PlacesSet gs A C W W₁ → DeclaredSet nodes spans m T z out out₁ → ContextsSet nodes spans A C m T W₁ z out₁ after
    → TableSet nodes spans n givens abstracts T W z out after
unfolding table_by places_of
table-set nodes spans gs A C n m givens abstracts T W W₁ z out out₁ after few pg pa pc places declared all d ρ r =
    let st : Structured nodes spans m d ρ = subst (λ (k : ℕ). Structured nodes spans k d ρ) (sym (few r.few)) r.structured in
    let v : Variables (declarations d.abstract) (declarations d.concrete) ρ A C =
    record {
      i = suc (abstract_at d);
      j = suc (concrete_at d);
      first = part-stands nodes (span spans 0) (span spans 1) A (declaration_codes (suc (abstract_at d)) (declarations d.abstract) ρ) pa st.abstract.variables;
      second = part-stands nodes (span spans 3) (span spans 4) C (declaration_codes (suc (concrete_at d)) (declarations d.concrete) ρ) pc st.concrete.variables;
    } in
    let g = part-stands nodes givens abstracts gs (given_codes (givens_at d) d.givens ρ) pg r.sets in
    let w : W₁ ≡ states_placed d W ρ = places d (givens_at d) ρ g v in
    let o : out₁ ≡ declared_nodes d T z ρ out = declared d ρ st ∙ (ap (λ (l : List ℕ). declared_by d l T z ρ out) r.spans_are ∙ declared-are d ρ r.rest T z out) in
    let b : starts_by d spans ≡ starts_of d ρ = ap (λ (l : List ℕ). starts_by d l) r.spans_are ∙ starts_are d ρ r.rest in
    all d ρ st r.titles v
    ∙ (ap₂ (λ (x : Places) (y : List ℕ). with_tables (contexts d) (kinds_of d T ρ) (places_by d x ρ) y z ρ out₁) w b
    ∙ ap (λ (l : List ℕ). with_tables (contexts d) (kinds_of d T ρ) (places_by d (states_placed d W ρ) ρ) (starts_of d ρ) z ρ l) o)
