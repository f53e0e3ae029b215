-- How the parts of a dossier follow each other among its nodes, by the places that the reader has of them: declarations, 8 numbers each, and predicates.
use mathlib.Core.Path.{◌≡◌, refl, sym, ap, ◌∙◌}
use mathlib.Core.List.{List, [], ◌∷◌, ◌++◌, append-nil}
use Prim.Native.Nat.{ℕ, suc, ◌+◌, ◌*◌, ◌≤◌}
use native.Mathlib.Omega.{arith}
use lib.ListN.{length, length-append}
use Rattle.form.specs.Tree.{declarations, Operation, Dossier}
use Rattle.form.specs.Headings.{abstract_at, concrete_at, ainit_at, cinit_at, retrieve_at, operations_at, operation_length}
use Rattle.form.specs.Codes.{Numbering, declaration_codes, parameter_codes, condition_codes, operation_codes}
use Rattle.form.specs.Codes.{abstractly_at, pred_width, dossier_codes}
use Rattle.read_predicates.specs.ParserSections.{abstract_from, concrete_from, ainit_from, cinit_from, retrieve_from, operations_from}
use Rattle.read_predicates.proofs.ParserItemNodes.{Split, split-first, split-next, split_at, split-length}
use Rattle.read_predicates.proofs.ParserPartPlaces.{at-operations}
use Rattle.read_predicates.specs.NodeSpansSpans.{operation_spans, spans_of, span, predicate_at}
use Rattle.read_predicates.proofs.NodeSpansStructure.{split-move}
use Rattle.read_predicates.proofs.NodeSpansDeclaredLengths.{declarations-long, parameters-long, state-long}

-- the operations from number k on: the first one's heading stands at n
pub data OperationsFrom (spans : List ℕ) (ρ : Numbering) (end : ℕ) : (n k : ℕ) → List Operation → Type 0 where
  none_left : {n k : ℕ} → n ≤ end → OperationsFrom spans ρ end n k []
  one_left : {n k next : ℕ} {o : Operation} {os : List Operation} (i j : ℕ) → span spans (9 + 4 * k) ≡ n + 4
      → span spans (9 + 4 * k + 1) ≡ span spans (9 + 4 * k) + 8 * length o.parameters
      → span spans (9 + 4 * k + 2) ≡ span spans (9 + 4 * k + 1) + length (condition_codes i o.abstractly ρ)
      → next ≡ span spans (9 + 4 * k + 2) + length (condition_codes j o.concretely ρ)
      → OperationsFrom spans ρ end next (suc k) os → OperationsFrom spans ρ end n k (o ∷ os)

pub record Arranged (d : Dossier) (ρ : Numbering) (spans : List ℕ) (end : ℕ) : Type 0 where
  pub abstract_declared : span spans 1 ≡ span spans 0 + 8 * length (declarations d.abstract)
  pub abstract_ends : span spans 2 ≡ span spans 1 + length (condition_codes (predicate_at (abstract_at d) d.abstract) d.abstract.predicate ρ)
  pub concrete_begins : span spans 3 ≡ span spans 2 + 4
  pub concrete_declared : span spans 4 ≡ span spans 3 + 8 * length (declarations d.concrete)
  pub concrete_ends : span spans 5 ≡ span spans 4 + length (condition_codes (predicate_at (concrete_at d) d.concrete) d.concrete.predicate ρ)
  pub ainit_ends : span spans 6 ≡ span spans 5 + length (condition_codes (ainit_at d + 2) d.ainit ρ)
  pub cinit_ends : span spans 7 ≡ span spans 6 + length (condition_codes (cinit_at d + 2) d.cinit ρ)
  pub retrieve_ends : span spans 8 ≡ span spans 7 + length (condition_codes (retrieve_at d + 2) d.retrieve ρ)
  pub operations : OperationsFrom spans ρ end (span spans 8) 0 d.operations

pub operations-end : {spans : List ℕ} {ρ : Numbering} {end n k : ℕ} {os : List Operation} → OperationsFrom spans ρ end n k os → n ≤ end
operations-end (none_left h) = h
operations-end (one_left i j a b c e r) = let l = operations-end r in omega arith

-- ---- the arrangement

operations-from : {spans : List ℕ} {end : ℕ} (ρ : Numbering) (n k i : ℕ) (os : List Operation) (y : List ℕ) → Split spans (9 + 4 * k) (operation_spans n i os ρ ++ y)
    → n + length (operation_codes i os ρ) ≤ end → OperationsFrom spans ρ end n k os
unfolding operation_spans operation_codes
operations-from {end = end} ρ n k i [] y s h = let g : n ≤ end = omega arith in none_left g
operations-from {spans} ρ n k i (o ∷ os) y s h =
    let m : ℕ = abstractly_at i o in
    let P : List ℕ = parameter_codes (i + 2) o.parameters ρ in
    let A : List ℕ = condition_codes m o.abstractly ρ in
    let C : List ℕ = condition_codes (suc m + pred_width o.abstractly) o.concretely ρ in
    let R : List ℕ = operation_codes (i + operation_length o) os ρ in
    let b : ℕ = n + 4 + length P in
    let e : ℕ = b + length A in
    let f : ℕ = e + length C in
    let S : List ℕ = operation_spans f (i + operation_length o) os ρ in
    let z : 9 + 4 * k + 0 ≡ 9 + 4 * k = omega arith in
    let s₀ : span spans (9 + 4 * k) ≡ n + 4 = ap (span spans) (sym z) ∙ split_at s 0 in
    let s₁ : span spans (9 + 4 * k + 1) ≡ b = split_at s 1 in
    let s₂ : span spans (9 + 4 * k + 2) ≡ e = split_at s 2 in
    let s₄ : Split spans (9 + 4 * k + 4) (S ++ y) = split-next ((n + 4) ∷ b ∷ e ∷ f ∷ []) (S ++ y) s in
    let p = parameters-long (i + 2) o.parameters ρ in
    let l₁ = length-append P (A ++ (C ++ R)) in
    let l₂ = length-append A (C ++ R) in
    let l₃ = length-append C R in
    one_left {n = n} {k = k} {next = f} {o = o} {os = os} m (suc m + pred_width o.abstractly) s₀ (omega arith) (omega arith) (omega arith)
    (operations-from ρ f (suc k) (i + operation_length o) os y (split-move (omega arith) s₄) (omega arith))

pub arranged : (d : Dossier) (ρ : Numbering) → Arranged d ρ (spans_of d ρ) (length (dossier_codes d ρ))
unfolding spans_of concrete_from ainit_from cinit_from retrieve_from operations_from
arranged d ρ =
    let D : List ℕ = declaration_codes (suc (abstract_at d)) (declarations d.abstract) ρ in
    let E : List ℕ = declaration_codes (suc (concrete_at d)) (declarations d.concrete) ρ in
    let a : ℕ = abstract_from d ρ + 4 + length D in
    let c : ℕ = concrete_from d ρ + 4 + length E in
    let S : List ℕ = operation_spans (operations_from d ρ) (operations_at d) d.operations ρ in
    let nine : List ℕ =
    (abstract_from d ρ + 4) ∷ a ∷ concrete_from d ρ ∷ (concrete_from d ρ + 4) ∷ c ∷ ainit_from d ρ ∷ cinit_from d ρ ∷ retrieve_from d ρ ∷ operations_from d ρ ∷ [] in
    let s : Split (spans_of d ρ) 9 (S ++ []) = split-first nine (S ++ []) (ap (λ (x : List ℕ). nine ++ x) (sym (append-nil S))) in
    let u = state-long (abstract_at d) d.abstract ρ in
    let v = state-long (concrete_at d) d.concrete ρ in
    let f = declarations-long (suc (abstract_at d)) (declarations d.abstract) ρ in
    let g = declarations-long (suc (concrete_at d)) (declarations d.concrete) ρ in
    let l = split-length (at-operations d ρ) in
    record {
      abstract_declared = omega arith;
      abstract_ends = omega arith;
      concrete_begins = refl;
      concrete_declared = omega arith;
      concrete_ends = omega arith;
      ainit_ends = refl;
      cinit_ends = refl;
      retrieve_ends = refl;
      operations = operations-from ρ (operations_from d ρ) 0 (operations_at d) d.operations [] s (omega arith);
    }
