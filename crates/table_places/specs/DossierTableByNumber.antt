-- The table of a whole dossier by numbers: what each name is and where its value is found, in each context, and what is written.
-- That this is DossierTable.tableOf is tables/proofs/DossierTableAgrees. Nothing here need be believed.
use Rattle.std.specs.Prelude.{cond, List, [], ◌∷◌, map, ℕ, suc, ◌+◌, ◌-◌, ◌*◌, set}
use Rattle.lexical.specs.Symbols.{no_ending}
use Rattle.form.specs.Tree.{Letters, Given, elements, TypeForm, given_type, power_type, range_type, arrow_type, Declaration, declarations, Direction, inward, outward, Parameter, Operation, Dossier}
use Rattle.form.specs.Codes.{Numbering, node, name_number, number_of_name, end_number, arrow_number}
use Rattle.names.specs.StaticRulesScope.{Context, contexts}
use Rattle.names.specs.StaticRulesNames.{parameter_name}
use Rattle.type_rules.specs.TypesByNumber.{Names, Sizes, entry, is_given}
use Rattle.names.specs.DeclaredNamesNamesByNumber.{Typed, variables_of, shown, hidden, state_named, reaching, leaving, parameters_shown, operation_named, conditions_named}
use Rattle.node_spans.specs.Spans.{spans_of, span}
use Rattle.table_nodes.specs.TableByNumber.{Places, given_size, range_count, pred_table}
use Rattle.table_nodes.specs.TableWalkPromises.{patch}
use Rattle.table_places.specs.DossierTable.{starts_of}

-- What each name is, in the contexts of the operations from the table T on; in all contexts, from the table of the given sets
unfoldable pub operation_kinds : Dossier → List Operation → Names → Numbering → List Names
operation_kinds d [] T ρ = []
operation_kinds d (o ∷ os) T ρ =
    reaching (declarations d.abstract) (parameters_shown o T ρ) ρ
    ∷ reaching (declarations d.concrete) (leaving (declarations d.abstract) (reaching (declarations d.abstract) (parameters_shown o T ρ) ρ) ρ) ρ
    ∷ operation_kinds d os (operation_named o (declarations d.abstract) (declarations d.concrete) T ρ) ρ

unfoldable pub kinds_of : Dossier → Names → Numbering → List Names
kinds_of d T ρ =
    let av : List Typed = variables_of no_ending (declarations d.abstract) in
    let cv : List Typed = variables_of no_ending (declarations d.concrete) in
    let T₂ : Names = state_named d.abstract T ρ in
    let T₃ : Names = state_named d.concrete T₂ ρ in
    shown av 0 T ρ
    ∷ shown cv 0 T₂ ρ
    ∷ shown av 0 T₃ ρ
    ∷ shown cv 0 (hidden av 0 2 (shown av 0 T₃ ρ) ρ) ρ
    ∷ shown av 0 (shown cv 0 (hidden av 0 2 (shown av 0 T₃ ρ) ρ) ρ) ρ
    ∷ operation_kinds d d.operations (conditions_named d T₃ ρ) ρ

-- Where values are found. Elements have their places, variables their slots from s on, with `shift` added to their numbers; what is no longer in reach stays
unfoldable pub elements_placed : List Letters → (j : ℕ) → Places → Numbering → Places
elements_placed [] j W ρ = W
elements_placed (e ∷ es) j W ρ = elements_placed es (suc j) (set W (number_of_name ρ e no_ending) (64 + j)) ρ

unfoldable pub givens_placed : List Given → Places → Numbering → Places
givens_placed [] W ρ = W
givens_placed (g ∷ gs) W ρ = givens_placed gs (elements_placed (elements g) 0 W ρ) ρ

unfoldable pub placing : List Typed → (shift s : ℕ) → Places → Numbering → Places
placing [] k s W ρ = W
placing (x ∷ xs) k s W ρ = placing xs k (suc s) (set W (name_number ρ x.called + k) s) ρ

unfoldable pub states_placed : Dossier → Places → Numbering → Places
states_placed d W ρ =
    let av : List Typed = variables_of no_ending (declarations d.abstract) in
    let cv : List Typed = variables_of no_ending (declarations d.concrete) in
    placing cv 1 22 (placing cv 0 8 (placing av 1 30 (placing av 0 0 (givens_placed d.givens W ρ) ρ) ρ) ρ) ρ

-- the next input has the slot i, the next output the slot o
abbrev pub parameter_slot : Direction → (i o : ℕ) → ℕ
parameter_slot inward i o = i
parameter_slot outward i o = o

abbrev pub next_input : Direction → ℕ → ℕ
next_input inward i = suc i
next_input outward i = i

abbrev pub next_output : Direction → ℕ → ℕ
next_output inward o = o
next_output outward o = suc o

unfoldable pub parameters_placed : List Parameter → (i o : ℕ) → Places → Numbering → Places
parameters_placed [] i o W ρ = W
parameters_placed (x ∷ xs) i o W ρ =
    parameters_placed xs (next_input x.direction i) (next_output x.direction o) (set W (name_number ρ (parameter_name x)) (parameter_slot x.direction i o)) ρ

unfoldable pub operation_places : List Operation → Places → Numbering → List Places
operation_places [] W ρ = []
operation_places (o ∷ os) W ρ = let Y : Places = parameters_placed o.parameters 16 19 W ρ in Y ∷ Y ∷ operation_places os Y ρ

unfoldable pub places_of : Dossier → Places → Numbering → List Places
places_of d W ρ = let Y : Places = states_placed d W ρ in Y ∷ Y ∷ Y ∷ Y ∷ Y ∷ operation_places d.operations Y ρ

-- the predicates, each at its place
unfoldable pub with_tables : List Context → List Names → List Places → List ℕ → Sizes → Numbering → List ℕ → List ℕ
with_tables [] Ts Ws qs z ρ out = out
with_tables (c ∷ cs) [] Ws qs z ρ out = out
with_tables (c ∷ cs) (T ∷ Ts) [] qs z ρ out = out
with_tables (c ∷ cs) (T ∷ Ts) (W ∷ Ws) [] z ρ out = out
with_tables (c ∷ cs) (T ∷ Ts) (W ∷ Ws) (q ∷ qs) z ρ out = with_tables cs Ts Ws qs z ρ (patch q (pred_table c.predicate T W z ρ 38 q) out)

-- the carriers, by what the names of given sets are; the number of the given set that a name is
unfoldable pub given_index : ℕ → ℕ
given_index k = cond (is_given k) (k - 8) 0

unfoldable pub type_node : TypeForm → Names → Sizes → Numbering → List ℕ
type_node (given_type g) T z ρ = node 1 (given_index (entry T (name_number ρ g))) (given_size z (entry T (name_number ρ g))) 0
type_node (range_type r) T z ρ = node 2 0 (end_number r.lower) (range_count (end_number r.lower) (end_number r.upper))
type_node (power_type g) T z ρ = node 3 (given_index (entry T (name_number ρ g))) (given_size z (entry T (name_number ρ g))) 0
type_node (arrow_type a g h) T z ρ =
    node (arrow_number a) (8 * given_index (entry T (name_number ρ g)) + given_index (entry T (name_number ρ h))) (given_size z (entry T (name_number ρ g))) (given_size z (entry T (name_number ρ h)))

unfoldable pub with_nodes : Names → Sizes → Numbering → (q : ℕ) → List Declaration → List ℕ → List ℕ
with_nodes T z ρ q [] out = out
with_nodes T z ρ q (d ∷ ds) out = with_nodes T z ρ (q + 8) ds (patch (q + 4) (type_node d.type T z ρ) out)

unfoldable pub with_operations : Names → Sizes → Numbering → (spans : List ℕ) (k : ℕ) → List Operation → List ℕ → List ℕ
with_operations T z ρ spans k [] out = out
with_operations T z ρ spans k (o ∷ os) out =
    with_operations T z ρ spans (suc k) os (with_nodes T z ρ (span spans (9 + 4 * k)) (map (λ (x : Parameter). x.declaration) o.parameters) out)

unfoldable pub declared_nodes : Dossier → Names → Sizes → Numbering → List ℕ → List ℕ
declared_nodes d T z ρ out =
    let s : List ℕ = spans_of d ρ in
    with_operations T z ρ s 0 d.operations (with_nodes T z ρ (span s 3) (declarations d.concrete) (with_nodes T z ρ (span s 0) (declarations d.abstract) out))

-- the whole, from the table T of the given sets and a table W of names whose values are nowhere
unfoldable pub table_by : Dossier → Names → Places → Sizes → Numbering → List ℕ → List ℕ
table_by d T W z ρ out = with_tables (contexts d) (kinds_of d T ρ) (places_of d W ρ) (starts_of d ρ) z ρ (declared_nodes d T z ρ out)
