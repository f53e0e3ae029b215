-- Document 01, number 7: headings against contents; and the symbol at which each body begins.
use Rattle.std.specs.Prelude.{List, [], ◌∷◌, ◌++◌, ℕ, suc, ◌+◌, length}
use Rattle.lexical.specs.Lists.{same}
use Rattle.refusals.specs.Refusals.{Fault, fault, heading_differs, unless}
use Rattle.form.specs.Tree.{Letters, Given, Operation, Dossier}
use Rattle.form.specs.Written.{write_contents, write_givens, write_state, write_where, write_operations}

-- the number of the first symbol of each body; of the given sets and of the operations, that of the first one
unfoldable pub givens_at : Dossier → ℕ
givens_at d = length (write_contents d [])

unfoldable pub abstract_at : Dossier → ℕ
abstract_at d = givens_at d + length (write_givens 0 d.givens [])

unfoldable pub concrete_at : Dossier → ℕ
concrete_at d = suc (abstract_at d) + length (write_state d.abstract [])

unfoldable pub ainit_at : Dossier → ℕ
ainit_at d = suc (concrete_at d) + length (write_state d.concrete [])

unfoldable pub cinit_at : Dossier → ℕ
cinit_at d = suc (ainit_at d) + length (write_where d.ainit [])

unfoldable pub retrieve_at : Dossier → ℕ
retrieve_at d = suc (cinit_at d) + length (write_where d.cinit [])

unfoldable pub operations_at : Dossier → ℕ
operations_at d = suc (retrieve_at d) + length (write_where d.retrieve [])

unfoldable pub given_length : Given → ℕ
given_length g = length (write_givens 0 (g ∷ []) [])

unfoldable pub operation_length : Operation → ℕ
operation_length o = length (write_operations 0 (o ∷ []) [])

-- 7. "A body's heading differs from its contents entry, is extra, or is wanting (place: the heading's first symbol, or that of what stands in its stead, or the text's end)."
unfoldable pub given_headings : (i : ℕ) → List Letters → List Given → List Fault
given_headings i [] [] = []
given_headings i [] (g ∷ gs) = fault i heading_differs ∷ given_headings (i + given_length g) [] gs
given_headings i (x ∷ xs) [] = fault i heading_differs ∷ []
given_headings i (x ∷ xs) (g ∷ gs) = unless (same x g.title) (fault i heading_differs) ++ given_headings (i + given_length g) xs gs

unfoldable pub operation_headings : (i : ℕ) → List Letters → List Operation → List Fault
operation_headings i [] [] = []
operation_headings i [] (o ∷ os) = fault i heading_differs ∷ operation_headings (i + operation_length o) [] os
operation_headings i (x ∷ xs) [] = fault i heading_differs ∷ []
operation_headings i (x ∷ xs) (o ∷ os) = unless (same x o.title) (fault i heading_differs) ++ operation_headings (i + operation_length o) xs os

unfoldable pub heading_faults : Dossier → List Fault
heading_faults d = given_headings (givens_at d) d.given_entries d.givens ++ operation_headings (operations_at d) d.operation_entries d.operations
