-- Demand 2, the fixed order: places and checks are one to one. Assumes nothing.
use mathlib.Core.Path.{◌≡◌, refl}
use mathlib.Core.Logic.{⊎_elim}
use mathlib.Core.List.{List, [], ◌∷◌}
use Prim.Native.Nat.{ℕ, suc, ◌≤◌}
use native.Mathlib.Omega.{arith}
use Rattle.form.specs.Tree.{Operation}
use Rattle.static_rules.specs.Scope.{unprimed, inputs, outputs}
use Rattle.meaning.specs.Meaning.{Binding}
use Rattle.meaning.specs.Bindings.{bindings, Among}
use Rattle.meaning.specs.Operations.{abstract_bindings, concrete_bindings, output_bindings}
use Rattle.meaning.proofs.Members.{among-append}
use Rattle.meaning.proofs.Places.{member-at, place-of}
use Rattle.meaning.proofs.Distinct.{Distinct, distinct_append, distinct-map, distinct-flat, distinct-places, every_map}
use Rattle.meaning.proofs.Values.{distinct-bindings}
use Rattle.obligations.specs.Subjects.{Subject}
use Rattle.obligations.specs.Order.{Check, initialises, applies, corrects, applicability_checks, correctness_checks, operation_checks, opening, checks, total}
use Rattle.obligations.specs.Report.{check_at}
use Rattle.obligations.specs.Demands.{OneToOne}
use Rattle.obligations.proofs.Groups.{applies_at, applies_from, corrects_giving, corrects_by, corrects_at, corrects_from, block_of, every-applies-at, every-applies-from, every-applicability, every-corrects-giving, every-corrects-by, every-corrects-at, every-corrects-from, every-correctness}
use Rattle.obligations.proofs.ListedChecks.{check-listed, listed-check}

-- the groups of a check, its obligation as a number, and its operation's number; where there is none, anything
abbrev before : Check → Binding
before (initialises c) = c
before (applies k op a c i) = a
before (corrects k op a c i o c') = a

abbrev beside : Check → Binding
beside (initialises c) = c
beside (applies k op a c i) = c
beside (corrects k op a c i o c') = c

abbrev given : Check → Binding
given (initialises c) = c
given (applies k op a c i) = i
given (corrects k op a c i o c') = i

abbrev produced : Check → Binding
produced (initialises c) = c
produced (applies k op a c i) = i
produced (corrects k op a c i o c') = o

abbrev reached : Check → Binding
reached (initialises c) = c
reached (applies k op a c i) = i
reached (corrects k op a c i o c') = c'

abbrev kind : Check → ℕ
kind (initialises c) = 0
kind (applies k op a c i) = 1
kind (corrects k op a c i o c') = 2

abbrev numbered : Check → ℕ
numbered (initialises c) = 0
numbered (applies k op a c i) = k
numbered (corrects k op a c i o c') = k

module _ (σ : Subject) where
  distinct-abstract : Distinct (abstract_bindings σ.dossier)
  unfolding abstract_bindings
  distinct-abstract = distinct-bindings (unprimed σ.dossier σ.dossier.abstract)

  distinct-concrete : Distinct (concrete_bindings σ.dossier)
  unfolding concrete_bindings
  distinct-concrete = distinct-bindings (unprimed σ.dossier σ.dossier.concrete)

  distinct-outputs : (op : Operation) → Distinct (output_bindings σ.dossier op)
  unfolding output_bindings
  distinct-outputs op = distinct-bindings (outputs σ.dossier op)

  distinct-applicability : (k : ℕ) (op : Operation) → Distinct (applicability_checks σ.dossier k op)
  unfolding applicability_checks
  distinct-applicability k op =
      distinct-flat (applies_from σ.dossier k op) before (λ a. every-applies-from σ.dossier (λ (x : Check). before x ≡ a) k op a (λ c i. refl))
      (λ a. distinct-flat (applies_at σ.dossier k op a) beside (λ c. every-applies-at σ.dossier (λ (x : Check). beside x ≡ c) k op a c (λ i. refl))
      (λ c. distinct-map (applies k op a c) given (λ i. refl) (bindings (inputs σ.dossier op)) (distinct-bindings (inputs σ.dossier op)))
      (concrete_bindings σ.dossier) distinct-concrete)
      (abstract_bindings σ.dossier) distinct-abstract

  distinct-correctness : (k : ℕ) (op : Operation) → Distinct (correctness_checks σ.dossier k op)
  unfolding correctness_checks
  distinct-correctness k op =
      distinct-flat (corrects_from σ.dossier k op) before (λ a. every-corrects-from σ.dossier (λ (x : Check). before x ≡ a) k op a (λ c i o c'. refl))
      (λ a. distinct-flat (corrects_at σ.dossier k op a) beside (λ c. every-corrects-at σ.dossier (λ (x : Check). beside x ≡ c) k op a c (λ i o c'. refl))
      (λ c. distinct-flat (corrects_by σ.dossier k op a c) given (λ i. every-corrects-by σ.dossier (λ (x : Check). given x ≡ i) k op a c i (λ o c'. refl))
      (λ i. distinct-flat (corrects_giving σ.dossier k op a c i) produced (λ o. every-corrects-giving σ.dossier (λ (x : Check). produced x ≡ o) k op a c i o (λ c'. refl))
      (λ o. distinct-map (corrects k op a c i o) reached (λ c'. refl) (concrete_bindings σ.dossier) distinct-concrete)
      (output_bindings σ.dossier op) (distinct-outputs op))
      (bindings (inputs σ.dossier op)) (distinct-bindings (inputs σ.dossier op)))
      (concrete_bindings σ.dossier) distinct-concrete)
      (abstract_bindings σ.dossier) distinct-abstract

  -- an operation's checks bear its number; the two obligations differ
  block-number : (k : ℕ) (op : Operation) (x : Check) → Among x (block_of σ.dossier k op) → (numbered x ≡ k) × (1 ≤ kind x)
  block-number k op x m =
      let P : Check → Type 0 = λ (y : Check). (numbered y ≡ k) × (1 ≤ kind y) in
      ⊎_elim (every-applicability σ.dossier P k op (λ a c i. (refl, omega arith)) x) (every-correctness σ.dossier P k op (λ a c i o c'. (refl, omega arith)) x)
      (among-append x (applicability_checks σ.dossier k op) (correctness_checks σ.dossier k op) m)

  distinct-block : (k : ℕ) (op : Operation) → Distinct (block_of σ.dossier k op)
  distinct-block k op =
      distinct_append (applicability_checks σ.dossier k op) (correctness_checks σ.dossier k op) (distinct-applicability k op) (distinct-correctness k op)
      (λ x m n.
      let one : kind x ≡ 1 = every-applicability σ.dossier (λ (y : Check). kind y ≡ 1) k op (λ a c i. refl) x m in
      let two : kind x ≡ 2 = every-correctness σ.dossier (λ (y : Check). kind y ≡ 2) k op (λ a c i o c'. refl) x n in
      omega arith)

  operation-number : (k : ℕ) (ops : List Operation) (x : Check) → Among x (operation_checks σ.dossier k ops) → (k ≤ numbered x) × (1 ≤ kind x)
  unfolding operation_checks Among
  operation-number k [] x m = absurd m
  operation-number k (op ∷ ops) x m =
      ⊎_elim
      (λ (n : Among x (block_of σ.dossier k op)). let s : (numbered x ≡ k) × (1 ≤ kind x) = block-number k op x n in (omega (arith, s.0), s.1))
      (λ (n : Among x (operation_checks σ.dossier (suc k) ops)). let s : (suc k ≤ numbered x) × (1 ≤ kind x) = operation-number (suc k) ops x n in (omega (arith, s.0), s.1))
      (among-append x (block_of σ.dossier k op) (operation_checks σ.dossier (suc k) ops) m)

  distinct-operations : (k : ℕ) (ops : List Operation) → Distinct (operation_checks σ.dossier k ops)
  unfolding operation_checks Distinct
  distinct-operations k [] = tt
  distinct-operations k (op ∷ ops) =
      distinct_append (block_of σ.dossier k op) (operation_checks σ.dossier (suc k) ops) (distinct-block k op) (distinct-operations (suc k) ops)
      (λ x m n.
      let one : numbered x ≡ k = (block-number k op x m).0 in
      let two : suc k ≤ numbered x = (operation-number (suc k) ops x n).0 in
      omega arith)

  -- "All values in the carriers are visited", each once
  pub distinct-checks : Distinct (checks σ)
  unfolding checks opening
  distinct-checks =
      distinct_append (opening σ) (operation_checks σ.dossier 0 σ.dossier.operations)
      (distinct-map initialises before (λ c. refl) (concrete_bindings σ.dossier) distinct-concrete) (distinct-operations 0 σ.dossier.operations)
      (λ x m n.
      let one : kind x ≡ 0 = every_map (λ (y : Check). kind y ≡ 0) initialises (concrete_bindings σ.dossier) (λ c. refl) x m in
      let two : 1 ≤ kind x = (operation-number 0 σ.dossier.operations x n).1 in
      omega arith)

  -- each place has a check of the dossier, each check of the dossier has a place, and no two places have one check
  pub one-to-one : OneToOne σ
  unfolding total check_at
  one-to-one =
      record {
        inside = λ p h. listed-check σ (check_at σ p) (member-at (checks σ) p (initialises []) h);
        reached = λ x i. place-of x (checks σ) (initialises []) (check-listed σ x i);
        once = distinct-places (checks σ) (initialises []) distinct-checks;
      }
