-- Where the declarations and the predicates of a dossier stand among its nodes.
use Rattle.std.specs.Prelude.{◌≡◌, List, [], ◌∷◌, ◌++◌, ℕ, suc, ◌+◌, ◌-◌, ◌*◌, ◌≤◌, length, take, drop, get_or}
use Rattle.form.specs.Tree.{Pred, declarations, State, Operation, Dossier}
use Rattle.form.specs.Written.{write_declarations}
use Rattle.form.specs.Headings.{abstract_at, concrete_at, ainit_at, cinit_at, retrieve_at, operations_at, operation_length}
use Rattle.form.specs.Codes.{Numbering, pred_codes, declaration_codes, parameter_codes, condition_codes, abstractly_at, pred_width, dossier_codes}
use Rattle.parser.specs.Sections.{abstract_from, concrete_from, ainit_from, cinit_from, retrieve_from, operations_from}

-- an operation from the number `from` on: where its parameters begin and end, where its two predicates end
unfoldable pub operation_spans : (from i : ℕ) → List Operation → Numbering → List ℕ
operation_spans from i [] ρ = []
operation_spans from i (o ∷ os) ρ =
    let b : ℕ = from + 4 + length (parameter_codes (i + 2) o.parameters ρ) in
    let e : ℕ = b + length (condition_codes (abstractly_at i o) o.abstractly ρ) in
    let f : ℕ = e + length (condition_codes (suc (abstractly_at i o) + pred_width o.abstractly) o.concretely ρ) in
    (from + 4) ∷ b ∷ e ∷ f ∷ operation_spans f (i + operation_length o) os ρ

-- of each state: where its variables begin and end, and its predicate ends; where ainit, cinit and retrieve end; then the operations
unfoldable pub spans_of : Dossier → Numbering → List ℕ
spans_of d ρ =
    (abstract_from d ρ + 4) ∷ (abstract_from d ρ + 4 + length (declaration_codes (suc (abstract_at d)) (declarations d.abstract) ρ)) ∷ concrete_from d ρ
    ∷ (concrete_from d ρ + 4) ∷ (concrete_from d ρ + 4 + length (declaration_codes (suc (concrete_at d)) (declarations d.concrete) ρ)) ∷ ainit_from d ρ
    ∷ cinit_from d ρ ∷ retrieve_from d ρ ∷ operations_from d ρ
    ∷ operation_spans (operations_from d ρ) (operations_at d) d.operations ρ

-- What the passes behind use of it. The codes stand from `from` up to `to`
pub record Stands (nodes : List ℕ) (from to : ℕ) (codes : List ℕ) : Type 0 where
  pub ordered : from ≤ to
  pub inside : to ≤ length nodes
  pub stands : take (to - from) (drop from nodes) ≡ codes

-- a predicate whose first node, with the count, stands at `from`
pub record PredAt (nodes : List ℕ) (from to : ℕ) (i : ℕ) (p : Pred) (ρ : Numbering) : Type 0 where
  pub ordered : from + 4 ≤ to
  pub inside : to ≤ length nodes
  pub stands : take to nodes ≡ take (from + 4) nodes ++ pred_codes p i ρ

abbrev pub span : List ℕ → ℕ → ℕ
span spans k = get_or spans k 0

-- the heading in front of `from` is the symbol i
pub record HeadingAt (nodes : List ℕ) (from i : ℕ) : Type 0 where
  pub behind : 4 ≤ from
  pub place : get_or nodes (from - 4 + 2) 0 ≡ i

pub record OperationAt (nodes spans : List ℕ) (k i : ℕ) (o : Operation) (ρ : Numbering) : Type 0 where
  pub heading : HeadingAt nodes (span spans (9 + 4 * k)) i
  pub parameters : Stands nodes (span spans (9 + 4 * k)) (span spans (9 + 4 * k + 1)) (parameter_codes (i + 2) o.parameters ρ)
  pub abstractly : PredAt nodes (span spans (9 + 4 * k + 1)) (span spans (9 + 4 * k + 2)) (abstractly_at i o) o.abstractly ρ
  pub concretely : PredAt nodes (span spans (9 + 4 * k + 2)) (span spans (9 + 4 * k + 3)) (suc (abstractly_at i o) + pred_width o.abstractly) o.concretely ρ

-- the operations from number k on, the first at the symbol i
pub data OperationsAt (nodes spans : List ℕ) (ρ : Numbering) : (k i : ℕ) → List Operation → Type 0 where
  no_more : {k i : ℕ} → OperationsAt nodes spans ρ k i []
  one_more : {k i : ℕ} {o : Operation} {os : List Operation} → OperationAt nodes spans k i o ρ → OperationsAt nodes spans ρ (suc k) (i + operation_length o) os
      → OperationsAt nodes spans ρ k i (o ∷ os)

abbrev pub predicate_at : (i : ℕ) → State → ℕ
predicate_at i s = i + 2 + length (write_declarations 0 (declarations s) [])

pub record StateAt (nodes spans : List ℕ) (k i : ℕ) (s : State) (ρ : Numbering) : Type 0 where
  pub heading : HeadingAt nodes (span spans k) i
  pub variables : Stands nodes (span spans k) (span spans (k + 1)) (declaration_codes (suc i) (declarations s) ρ)
  pub predicate : PredAt nodes (span spans (k + 1)) (span spans (k + 2)) (predicate_at i s) s.predicate ρ

-- the nodes are those of the dossier, with n operations, and the spans say where its parts are
pub record Structured (nodes spans : List ℕ) (n : ℕ) (d : Dossier) (ρ : Numbering) : Type 0 where
  pub counted : n ≡ length d.operations
  pub abstract : StateAt nodes spans 0 (abstract_at d) d.abstract ρ
  pub concrete : StateAt nodes spans 3 (concrete_at d) d.concrete ρ
  pub ainit : PredAt nodes (span spans 5) (span spans 6) (ainit_at d + 2) d.ainit ρ
  pub cinit : PredAt nodes (span spans 6) (span spans 7) (cinit_at d + 2) d.cinit ρ
  pub retrieve : PredAt nodes (span spans 7) (span spans 8) (retrieve_at d + 2) d.retrieve ρ
  pub operations : OperationsAt nodes spans ρ 0 (operations_at d) d.operations

-- what the function promises: for the nodes of a dossier of at most 16 operations, whose places are numbers of 16 bits
pub record Spanned (nodes : List ℕ) (m : ℕ) (spans₀ spans : List ℕ) (r : ℕ) : Type 0 where
  pub few : r ≤ 16
  pub exact : (d : Dossier) (ρ : Numbering) → m ≤ length nodes → take m nodes ≡ dossier_codes d ρ → length d.operations ≤ 16 → m ≤ 65535
      → (r ≡ length d.operations) × (spans ≡ spans_of d ρ ++ drop (length (spans_of d ρ)) spans₀)
