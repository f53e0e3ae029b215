-- The pass for number 13 over a whole dossier, by numbers. That the least of these faults is that of static_rules/specs/Limits.sizeFaults is proofs/SizesAgreeDossier.
-- Nothing here need be believed.
use Rattle.std.specs.Prelude.{◌≡◌, Bool, true, cond, List, [], ◌∷◌, ◌++◌, map, ℕ, zero, suc, ◌+◌, ◌/◌, ◌≤◌, max, eqb, length, take, drop, get_or, set, replicate}
use Rattle.form.specs.Tree.{TypeForm, given_type, power_type, range_type, arrow_type, Declaration, declarations, Parameter, Pred, Operation, Dossier}
use Rattle.form.specs.Headings.{abstract_at, concrete_at, ainit_at, cinit_at, retrieve_at, operations_at}
use Rattle.form.specs.Codes.{Numbering, name_number, abstractly_at, pred_width, pred_codes}
use Rattle.static_rules.specs.Carriers.{Variable, largest}
use Rattle.static_rules.specs.Scope.{Context, contexts, operation_contexts, unprimed, operation_reach, concrete_taken}
use Rattle.type_rules.specs.TypesByNumber.{lesser}
use Rattle.node_spans.specs.Spans.{Structured, OperationAt, predicate_at}
use Rattle.term_sizes.specs.SizesByNumber.{Bounds, absolute, pred_over}
use Rattle.binding_counts.specs.DeclaredTypesFit.{TypesFit, DeclaredFit}

-- the sizes of the names in reach, by their numbers, among n names: of two with one name the first decides
unfoldable pub shown_sizes : List Variable → Numbering → (n : ℕ) → Bounds
shown_sizes [] ρ n = replicate n 0
shown_sizes (v ∷ vs) ρ n = set (shown_sizes vs ρ n) (name_number ρ v.called) (largest v.carrier)

unfoldable pub context_over : Context → Numbering → (n : ℕ) → ℕ
context_over c ρ n = pred_over c.predicate (shown_sizes c.scope.reach ρ n) ρ c.at

-- the lesser over all contexts
unfoldable pub least_over : List Context → Numbering → (n : ℕ) → ℕ
least_over [] ρ n = 0
least_over (c ∷ cs) ρ n = lesser (context_over c ρ n) (least_over cs ρ n)

-- ---- ends of ranges ----

-- the ends of a declared range are numbers to 1,000, as in every text: only these stand in a node with 1,000 added
abbrev pub EndsNear : TypeForm → Type 0
EndsNear (given_type g) = Unit {0}
EndsNear (power_type g) = Unit {0}
EndsNear (range_type r) = (r.lower.magnitude ≤ 1000) × (r.upper.magnitude ≤ 1000)
EndsNear (arrow_type a g h) = Unit {0}

pub data TypesNear : List Declaration → Type 0 where
  no_types : TypesNear []
  one_type : {d : Declaration} {ds : List Declaration} → EndsNear d.type → TypesNear ds → TypesNear (d ∷ ds)

pub data OperationsNear : List Operation → Type 0 where
  no_operations : OperationsNear []
  one_operation : {o : Operation} {os : List Operation} → TypesNear (map (λ (x : Parameter). x.declaration) o.parameters) → OperationsNear os → OperationsNear (o ∷ os)

pub record DeclaredNear (d : Dossier) : Type 0 where
  pub abstracts : TypesNear (declarations d.abstract)
  pub concretes : TypesNear (declarations d.concrete)
  pub parameters : OperationsNear d.operations

-- ---- what the functions of the pass promise; S is the table of sizes at entry, U at exit ----

-- the size of a variable by its type's node: only a range (2) has one, by its ends with 1,000 added
unfoldable pub type_size : (shape a b : ℕ) → ℕ
type_size k a b = cond (eqb k 2) (max (absolute a) (absolute b)) 0

-- the entry of a declaration's name: its size, or 0 where marks are taken away
abbrev pub entry_size : Bool → List ℕ → (at : ℕ) → ℕ
entry_size on code at = cond on (type_size (get_or code (at + 3) 0) (get_or code (at + 1) 0) (get_or code at 0)) 0

-- k declarations are marked from the last to the first, with `shift` added to the numbers of their names
unfoldable pub marks_of : Bool → (k : ℕ) → List ℕ → (shift : ℕ) → Bounds → Bounds
marks_of on zero code s S = S
marks_of on (suc k) code s S = set (marks_of on k (drop 8 code) s S) (get_or code 1 0 + s) (entry_size on code 4)

abbrev pub marks : Bool → List ℕ → (shift : ℕ) → Bounds → Bounds
marks on code s S = marks_of on (length code / 8) code s S

-- three groups of declarations, of which the second is shifted
abbrev pub marked : Bool → (first second : List ℕ) (shift : ℕ) (third : List ℕ) → Bounds → Bounds
marked on a b s c S = marks on a 0 (marks on b s (marks on c 0 S))

abbrev pub Clear : Bounds → Type 0
Clear S = S ≡ replicate (length S) 0

-- one predicate, with three groups of names in its reach
pub record ContextSeen (nodes first second : List ℕ) (shift : ℕ) (third : List ℕ) (end : ℕ) (S U : Bounds) (r : ℕ) : Type 0 where
  pub kept : Clear S → U ≡ S
  pub right : (p : Pred) (i : ℕ) (ρ : Numbering) (base : List ℕ) → end ≤ length nodes → take end nodes ≡ base ++ pred_codes p i ρ
      → r ≡ pred_over p (marked true first second shift third S) ρ i

-- the nodes and spans are those of a dossier without faults in its types
pub record Ready (nodes spans : List ℕ) (n : ℕ) (d : Dossier) (ρ : Numbering) : Type 0 where
  pub structured : Structured nodes spans n d ρ
  pub fit : DeclaredFit d
  pub near : DeclaredNear d

abbrev pub over_of : Pred → (at : ℕ) → List Variable → Numbering → (n : ℕ) → ℕ
over_of p i vs ρ n = pred_over p (shown_sizes vs ρ n) ρ i

-- the predicates of the states; ainit, cinit and retrieve; an operation at the symbol i
unfoldable pub states_over : Dossier → Numbering → (n : ℕ) → ℕ
states_over d ρ n =
    lesser (over_of d.abstract.predicate (predicate_at (abstract_at d) d.abstract) (unprimed d d.abstract) ρ n)
    (over_of d.concrete.predicate (predicate_at (concrete_at d) d.concrete) (unprimed d d.concrete) ρ n)

unfoldable pub conditions_over : Dossier → Numbering → (n : ℕ) → ℕ
conditions_over d ρ n =
    lesser (over_of d.ainit (ainit_at d + 2) (unprimed d d.abstract) ρ n)
    (lesser (over_of d.cinit (cinit_at d + 2) (unprimed d d.concrete) ρ n)
    (over_of d.retrieve (retrieve_at d + 2) (unprimed d d.abstract ++ unprimed d d.concrete) ρ n))

unfoldable pub operation_over : Dossier → (i : ℕ) → Operation → Numbering → (n : ℕ) → ℕ
operation_over d i o ρ n =
    lesser (over_of o.abstractly (abstractly_at i o) (operation_reach d d.abstract o) ρ n)
    (over_of o.concretely (suc (abstractly_at i o) + pred_width o.abstractly) (operation_reach d d.concrete o) ρ n)

-- all operations
abbrev pub operations_over : Dossier → Numbering → (n : ℕ) → ℕ
operations_over d ρ n = least_over (operation_contexts d (operations_at d) (concrete_taken d) d.operations) ρ n

-- what is at hand of a part, with its numbers f: the table is clear again
pub record PartSeen (nodes spans : List ℕ) (m : ℕ) (f : Dossier → Numbering → (n : ℕ) → ℕ) (S U : Bounds) (r : ℕ) : Type 0 where
  pub kept : Clear S → U ≡ S
  pub right : (d : Dossier) (ρ : Numbering) → Clear S → Ready nodes spans m d ρ → r ≡ f d ρ (length S)

-- the operation k
pub record OperationSeen (nodes spans : List ℕ) (k : ℕ) (S U : Bounds) (r : ℕ) : Type 0 where
  pub kept : Clear S → U ≡ S
  pub right : (m : ℕ) (d : Dossier) (ρ : Numbering) (i : ℕ) (o : Operation) → Clear S → Ready nodes spans m d ρ → OperationAt nodes spans k i o ρ
      → TypesFit d.givens (map (λ (x : Parameter). x.declaration) o.parameters) → TypesNear (map (λ (x : Parameter). x.declaration) o.parameters)
      → r ≡ operation_over d i o ρ (length S)

-- the pass
abbrev pub MeasuresSeen : (nodes spans : List ℕ) (operations names : ℕ) (r : ℕ) → Type 0
MeasuresSeen nodes spans m n r =
    (d : Dossier) (ρ : Numbering) → Structured nodes spans m d ρ → DeclaredFit d → DeclaredNear d → r ≡ least_over (contexts d) ρ n
