-- Given sets and operations as bodies: their nodes, faults and places.
use mathlib.Core.Path.{◌≡◌, refl, sym, ap, ◌∙◌}
use mathlib.Core.List.{List, [], ◌∷◌, ◌++◌, append_assoc}
use Prim.Native.Nat.{ℕ, suc, ◌+◌, ◌≤◌}
use native.Mathlib.Omega.{arith}
use lib.ListN.{length, length-map}
use Rattle.lexical.specs.Kinds as kind
use Rattle.lexical.specs.Lists.{same}
use Rattle.refusals.specs.Refusals.{Fault, fault, heading_differs, unless}
use Rattle.lexical.specs.Symbols.{no_ending}
use Rattle.form.specs.Tree.{Letters, Given, elements, Operation, Dossier}
use Rattle.form.specs.Written.{Written, bare, write_contents, write_givens, write_state, write_where, write_operations, written, symbols_of}
use Rattle.form.specs.Headings.{givens_at, abstract_at, concrete_at, ainit_at, cinit_at, retrieve_at, operations_at, given_length, operation_length, given_headings}
use Rattle.form.specs.Headings.{operation_headings}
use Rattle.form.specs.Codes.{node, Numbering, number_of_name, pred_width, element_codes, given_codes, parameter_codes, condition_codes, abstractly_at, operation_codes}
use Rattle.parser.proofs.ItemNodes.{items-wide, items-append, elements-items, parameters-items, condition-items}
use Rattle.parser.proofs.BodyFaults.{Body, body_codes, faults, Risen, Inners}
use Rattle.form.proofs.RelationsBehind as kept

-- given sets from the symbol i on, and the symbol behind them
abbrev pub given_bodies : ℕ → List Given → Numbering → List Body
given_bodies i [] ρ = []
given_bodies i (g ∷ gs) ρ = record { title = g.title; at = i; inner = element_codes (i + 2) (elements g) ρ } ∷ given_bodies (i + given_length g) gs ρ

abbrev pub givens_end : ℕ → List Given → ℕ
givens_end i [] = i
givens_end i (g ∷ gs) = givens_end (i + given_length g) gs

pub givens-codes : (i : ℕ) (gs : List Given) (ρ : Numbering) → given_codes i gs ρ ≡ body_codes 3 ρ (given_bodies i gs ρ)
unfolding given_codes
givens-codes i [] ρ = refl
givens-codes i (g ∷ gs) ρ =
    ap (λ (l : List ℕ). node 3 i (number_of_name ρ g.title no_ending) 0 ++ (element_codes (i + 2) (elements g) ρ ++ l)) (givens-codes (i + given_length g) gs ρ)

pub givens-faults : (i : ℕ) (xs : List Letters) (gs : List Given) (ρ : Numbering) → given_headings i xs gs ≡ faults (givens_end i gs) xs (given_bodies i gs ρ)
unfolding given_headings
givens-faults i [] [] ρ = refl
givens-faults i [] (g ∷ gs) ρ = ap (λ (l : List Fault). fault i heading_differs ∷ l) (givens-faults (i + given_length g) [] gs ρ)
givens-faults i (x ∷ xs) [] ρ = refl
givens-faults i (x ∷ xs) (g ∷ gs) ρ =
    ap (λ (l : List Fault). unless (same x g.title) (fault i heading_differs) ++ l) (givens-faults (i + given_length g) xs gs ρ)

pub givens-risen : (j i : ℕ) (gs : List Given) (ρ : Numbering) → j ≤ i → Risen j (given_bodies i gs ρ) (givens_end i gs)
givens-risen j i [] ρ l = l
givens-risen j i (g ∷ gs) ρ l = (l, givens-risen i (i + given_length g) gs ρ (omega arith))

pub givens-inners : (i : ℕ) (gs : List Given) (ρ : Numbering) → Inners 4 4 (given_bodies i gs ρ)
givens-inners i [] ρ = tt
givens-inners i (g ∷ gs) ρ = (elements-items (i + 2) (elements g) ρ, givens-inners (i + given_length g) gs ρ)

-- operations likewise
abbrev pub operation_inner : ℕ → Operation → Numbering → List ℕ
operation_inner i o ρ =
    parameter_codes (i + 2) o.parameters ρ
    ++ (condition_codes (abstractly_at i o) o.abstractly ρ ++ condition_codes (suc (abstractly_at i o) + pred_width o.abstractly) o.concretely ρ)

abbrev pub operation_bodies : ℕ → List Operation → Numbering → List Body
operation_bodies i [] ρ = []
operation_bodies i (o ∷ os) ρ = record { title = o.title; at = i; inner = operation_inner i o ρ } ∷ operation_bodies (i + operation_length o) os ρ

abbrev pub operations_end : ℕ → List Operation → ℕ
operations_end i [] = i
operations_end i (o ∷ os) = operations_end (i + operation_length o) os

pub operations-codes : (i : ℕ) (os : List Operation) (ρ : Numbering) → operation_codes i os ρ ≡ body_codes 8 ρ (operation_bodies i os ρ)
unfolding operation_codes
operations-codes i [] ρ = refl
operations-codes i (o ∷ os) ρ =
    let P : List ℕ = parameter_codes (i + 2) o.parameters ρ in
    let A : List ℕ = condition_codes (abstractly_at i o) o.abstractly ρ in
    let C : List ℕ = condition_codes (suc (abstractly_at i o) + pred_width o.abstractly) o.concretely ρ in
    let B : List ℕ = body_codes 8 ρ (operation_bodies (i + operation_length o) os ρ) in
    ap (λ (l : List ℕ). node 8 i (number_of_name ρ o.title no_ending) 0 ++ l)
    (ap (λ (l : List ℕ). P ++ (A ++ (C ++ l))) (operations-codes (i + operation_length o) os ρ)
    ∙ ap (λ (l : List ℕ). P ++ l) (sym (append_assoc A C B)) ∙ sym (append_assoc P (A ++ C) B))

pub operations-faults : (i : ℕ) (xs : List Letters) (os : List Operation) (ρ : Numbering)
    → operation_headings i xs os ≡ faults (operations_end i os) xs (operation_bodies i os ρ)
unfolding operation_headings
operations-faults i [] [] ρ = refl
operations-faults i [] (o ∷ os) ρ = ap (λ (l : List Fault). fault i heading_differs ∷ l) (operations-faults (i + operation_length o) [] os ρ)
operations-faults i (x ∷ xs) [] ρ = refl
operations-faults i (x ∷ xs) (o ∷ os) ρ =
    ap (λ (l : List Fault). unless (same x o.title) (fault i heading_differs) ++ l) (operations-faults (i + operation_length o) xs os ρ)

pub operations-risen : (j i : ℕ) (os : List Operation) (ρ : Numbering) → j ≤ i → Risen j (operation_bodies i os ρ) (operations_end i os)
operations-risen j i [] ρ l = l
operations-risen j i (o ∷ os) ρ l = (l, operations-risen i (i + operation_length o) os ρ (omega arith))

pub operations-inners : (i : ℕ) (os : List Operation) (ρ : Numbering) → Inners 6 7 (operation_bodies i os ρ)
operations-inners i [] ρ = tt
operations-inners i (o ∷ os) ρ = (
  items-append (items-wide (parameters-items (i + 2) o.parameters ρ) (omega arith) (omega arith))
      (items-append (items-wide (condition-items (abstractly_at i o) o.abstractly ρ) (omega arith) (omega arith))
      (items-wide (condition-items (suc (abstractly_at i o) + pred_width o.abstractly) o.concretely ρ) (omega arith) (omega arith))),
  operations-inners (i + operation_length o) os ρ,
)

-- one list is longer than the other by n
abbrev Longer : ℕ → List Written → List Written → Type 0
Longer n u v = length u ≡ length v + n

longer : (n : ℕ) (x y : Written) (u v : List Written) → Longer n u v → Longer n (x ∷ u) (y ∷ v)
longer n x y u v h = omega arith

pub givens-end : (n i : ℕ) (gs : List Given) → givens_end i gs ≡ i + length (write_givens n gs [])
unfolding write_givens given_length
givens-end n i [] = omega arith
givens-end n i (g ∷ gs) =
    let m : ℕ = length (write_givens (suc n) gs []) in
    let k : length (write_givens n (g ∷ gs) []) ≡ given_length g + m = kept.given (Longer m) (longer m) n 0 g gs [] [] [] (omega arith) in
    givens-end (suc n) (i + given_length g) gs ∙ omega arith

pub operations-end : (n i : ℕ) (os : List Operation) → operations_end i os ≡ i + length (write_operations n os [])
unfolding write_operations operation_length
operations-end n i [] = omega arith
operations-end n i (o ∷ os) =
    let m : ℕ = length (write_operations (suc n) os []) in
    let k : length (write_operations n (o ∷ os) []) ≡ operation_length o + m = kept.operation (Longer m) (longer m) n 0 o os [] [] [] (omega arith) in
    operations-end (suc n) (i + operation_length o) os ∙ omega arith

behind : (w : List Written) → Longer (length w) w []
behind w = omega arith

-- the symbol behind the given sets is the heading of the abstract state
pub givens-end-at : (d : Dossier) → givens_end (givens_at d) d.givens ≡ abstract_at d
unfolding abstract_at
givens-end-at d = givens-end 0 (givens_at d) d.givens

pub abstract-before : (d : Dossier) → abstract_at d ≤ operations_at d
unfolding operations_at retrieve_at cinit_at ainit_at concrete_at
abstract-before d = omega arith

-- the symbol behind the operations is the text's end
pub operations-end-at : (d : Dossier) → operations_end (operations_at d) d.operations ≡ length (symbols_of d)
unfolding symbols_of written operations_at retrieve_at cinit_at ainit_at concrete_at abstract_at givens_at
operations-end-at d =
    let w₇ : List Written = write_operations 0 d.operations [] in
    let w₆ : List Written = write_where d.retrieve w₇ in
    let w₅ : List Written = write_where d.cinit (bare kind.RETRIEVE ∷ w₆) in
    let w₄ : List Written = write_where d.ainit (bare kind.CINIT ∷ w₅) in
    let w₃ : List Written = write_state d.concrete (bare kind.AINIT ∷ w₄) in
    let w₂ : List Written = write_state d.abstract (bare kind.CONCRETE ∷ w₃) in
    let w₁ : List Written = write_givens 0 d.givens (bare kind.ABSTRACT ∷ w₂) in
    let l₆ : length w₆ ≡ length (write_where d.retrieve []) + length w₇ = kept.condition (Longer (length w₇)) (longer (length w₇)) d.retrieve w₇ [] (behind w₇) in
    let v₆ : List Written = bare kind.RETRIEVE ∷ w₆ in
    let l₅ : length w₅ ≡ length (write_where d.cinit []) + length v₆ = kept.condition (Longer (length v₆)) (longer (length v₆)) d.cinit v₆ [] (behind v₆) in
    let v₅ : List Written = bare kind.CINIT ∷ w₅ in
    let l₄ : length w₄ ≡ length (write_where d.ainit []) + length v₅ = kept.condition (Longer (length v₅)) (longer (length v₅)) d.ainit v₅ [] (behind v₅) in
    let v₄ : List Written = bare kind.AINIT ∷ w₄ in
    let l₃ : length w₃ ≡ length (write_state d.concrete []) + length v₄ = kept.state (Longer (length v₄)) (longer (length v₄)) d.concrete v₄ [] (behind v₄) in
    let v₃ : List Written = bare kind.CONCRETE ∷ w₃ in
    let l₂ : length w₂ ≡ length (write_state d.abstract []) + length v₃ = kept.state (Longer (length v₃)) (longer (length v₃)) d.abstract v₃ [] (behind v₃) in
    let v₂ : List Written = bare kind.ABSTRACT ∷ w₂ in
    let l₁ : length w₁ ≡ length (write_givens 0 d.givens []) + length v₂ = kept.givens (Longer (length v₂)) (longer (length v₂)) 0 0 d.givens v₂ [] (behind v₂) in
    let l₀ : length (write_contents d w₁) ≡ length (write_contents d []) + length w₁ = kept.contents (Longer (length w₁)) (longer (length w₁)) d w₁ [] (behind w₁) in
    operations-end 0 (operations_at d) d.operations ∙ omega arith ∙ sym (length-map (write_contents d w₁) (λ (x : Written). x.symbol))
