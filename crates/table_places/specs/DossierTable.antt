-- The table of a whole dossier: its predicates, and the carriers of its declared names, at the places of their nodes; the groups of variables.
use Rattle.std.specs.Prelude.{Bool, cond, List, [], ◌∷◌, ◌++◌, map, ℕ, suc, ◌+◌, ◌-◌, ◌*◌, length, replicate}
use Rattle.lexical.specs.Symbols.{Name}
use Rattle.form.specs.Tree.{Given, TypeForm, given_type, power_type, range_type, arrow_type, Declaration, declarations, Parameter, Operation, Dossier}
use Rattle.form.specs.Codes.{Numbering, node, end_number, arrow_number}
use Rattle.names.specs.StaticRulesScope.{Context, place_in, contexts, unprimed, primed, inputs, outputs, is_input, is_output}
use Rattle.node_spans.specs.Spans.{spans_of, span}
use Rattle.table_places.specs.ResolvedTable.{Slots, slotted, given_size, pred_table}
use Rattle.table_nodes.specs.TableWalkPromises.{patch}

-- The slots: abstract variables from 0, concrete ones from 8, inputs from 16, outputs from 19, concrete primed ones from 22, abstract primed ones from 30,
-- bound names from 38. So the groups of document 01's order stand in that order.
abbrev pub abstract_slots : Dossier → Slots
abstract_slots d = slotted 0 (unprimed d d.abstract)

abbrev pub concrete_slots : Dossier → Slots
concrete_slots d = slotted 8 (unprimed d d.concrete)

abbrev pub parameter_slots : Dossier → Operation → Slots
parameter_slots d o = slotted 16 (inputs d o) ++ slotted 19 (outputs d o)

unfoldable pub operation_slots : Dossier → List Operation → List Slots
operation_slots d [] = []
operation_slots d (o ∷ os) =
    (abstract_slots d ++ slotted 30 (primed d d.abstract) ++ parameter_slots d o)
    ∷ (concrete_slots d ++ slotted 22 (primed d d.concrete) ++ parameter_slots d o)
    ∷ operation_slots d os

-- those of each context, in the order of static_rules/specs/Scope.contexts
unfoldable pub slots_of : Dossier → List Slots
slots_of d =
    abstract_slots d ∷ concrete_slots d ∷ abstract_slots d ∷ concrete_slots d ∷ (abstract_slots d ++ concrete_slots d) ∷ operation_slots d d.operations

-- where the nodes of each context's predicate begin
unfoldable pub operation_starts : (spans : List ℕ) (k : ℕ) → List Operation → List ℕ
operation_starts spans k [] = []
operation_starts spans k (o ∷ os) = (span spans (9 + 4 * k + 1) + 4) ∷ (span spans (9 + 4 * k + 2) + 4) ∷ operation_starts spans (suc k) os

unfoldable pub starts_of : Dossier → Numbering → List ℕ
starts_of d ρ =
    let s : List ℕ = spans_of d ρ in
    (span s 1 + 4) ∷ (span s 4 + 4) ∷ (span s 5 + 4) ∷ (span s 6 + 4) ∷ (span s 7 + 4) ∷ operation_starts s 0 d.operations

-- the predicates, each at its place; the rest of the array is as it was
unfoldable pub with_predicates : List Context → List Slots → List ℕ → List ℕ → List ℕ
with_predicates [] Ws qs out = out
with_predicates (c ∷ cs) [] qs out = out
with_predicates (c ∷ cs) (W ∷ Ws) [] out = out
with_predicates (c ∷ cs) (W ∷ Ws) (q ∷ qs) out = with_predicates cs Ws qs (patch q (pred_table c.predicate c.scope W 38 q) out)

-- a declared type: 1 a given set, 3 its subsets: its number among the given sets, and how many elements it has; 2 a range: the first number, with 1,000 added,
-- and how many; 4, 5, 6 the arrows: 8 times the first set's number and the second's, and how many elements each has
abbrev pub given_place : List Given → Name → ℕ
given_place gs x = place_in (map (λ (g : Given). g.title) gs) x

unfoldable pub type_table : TypeForm → List Given → List ℕ
type_table (given_type g) gs = node 1 (given_place gs g) (given_size gs g) 0
type_table (range_type r) gs = node 2 0 (end_number r.lower) (end_number r.upper + 1 - end_number r.lower)
type_table (power_type g) gs = node 3 (given_place gs g) (given_size gs g) 0
type_table (arrow_type a g h) gs = node (arrow_number a) (8 * given_place gs g + given_place gs h) (given_size gs g) (given_size gs h)

-- the carriers of declarations whose nodes begin at q
unfoldable pub with_carriers : List Given → (q : ℕ) → List Declaration → List ℕ → List ℕ
with_carriers gs q [] out = out
with_carriers gs q (d ∷ ds) out = with_carriers gs (q + 8) ds (patch (q + 4) (type_table d.type gs) out)

unfoldable pub with_parameters : List Given → (spans : List ℕ) (k : ℕ) → List Operation → List ℕ → List ℕ
with_parameters gs spans k [] out = out
with_parameters gs spans k (o ∷ os) out =
    with_parameters gs spans (suc k) os (with_carriers gs (span spans (9 + 4 * k)) (map (λ (x : Parameter). x.declaration) o.parameters) out)

unfoldable pub declared : Dossier → Numbering → List ℕ → List ℕ
declared d ρ out =
    let s : List ℕ = spans_of d ρ in
    with_parameters d.givens s 0 d.operations
    (with_carriers d.givens (span s 3) (declarations d.concrete) (with_carriers d.givens (span s 0) (declarations d.abstract) out))

-- the whole table
unfoldable pub table_of : Dossier → Numbering → List ℕ → List ℕ
table_of d ρ out = with_predicates (contexts d) (slots_of d) (starts_of d ρ) (declared d ρ out)

-- The groups: how many variables, and the place of each one's node, in declared order; 0 where there is none. A row for the abstract and for the concrete
-- state (8 each), then for each operation its inputs and its outputs (3 each).
unfoldable pub row : (n : ℕ) → List ℕ → List ℕ
row n qs = length qs ∷ qs ++ replicate (n - length qs) 0

unfoldable pub state_row : (q : ℕ) → List Declaration → List ℕ
state_row q [] = []
state_row q (d ∷ ds) = q ∷ state_row (q + 8) ds

unfoldable pub parameter_row : (Parameter → Bool) → (q : ℕ) → List Parameter → List ℕ
parameter_row f q [] = []
parameter_row f q (x ∷ xs) = cond (f x) (q ∷ []) [] ++ parameter_row f (q + 8) xs

unfoldable pub operation_rows : (spans : List ℕ) (k : ℕ) → List Operation → List ℕ
operation_rows spans k [] = []
operation_rows spans k (o ∷ os) =
    row 3 (parameter_row (λ (x : Parameter). is_input x.direction) (span spans (9 + 4 * k)) o.parameters)
    ++ row 3 (parameter_row (λ (x : Parameter). is_output x.direction) (span spans (9 + 4 * k)) o.parameters)
    ++ operation_rows spans (suc k) os

unfoldable pub groups_of : Dossier → Numbering → List ℕ
groups_of d ρ =
    let s : List ℕ = spans_of d ρ in
    row 8 (state_row (span s 0) (declarations d.abstract)) ++ row 8 (state_row (span s 3) (declarations d.concrete)) ++ operation_rows s 0 d.operations
