-- The predicates of a dossier in the reader's table, each as the evaluator asks it. Nothing here need be believed.
use Rattle.std.specs.Prelude.{List, [], ◌∷◌, ℕ, ◌+◌, length}
use Rattle.static_rules.specs.Scope.{Context}
use Rattle.value_types.specs.FaultlessContexts.{ContextFine}
use Rattle.conjunct_tests.specs.TablePlacesResolvedTable.{Slots, pred_table}
use Rattle.conjunct_tests.specs.ConjunctTests.{Conjunct}

-- the predicate of each context, with its slots and the place where its table begins
pub data Tested (table : List ℕ) : List Context → List Slots → List ℕ → Type 0 where
  none_tested : Tested table [] [] []
  one_tested : {c : Context} {cs : List Context} {W : Slots} {Ws : List Slots} {q : ℕ} {qs : List ℕ} → ContextFine c
      → Conjunct table c.scope W c.predicate q (q + length (pred_table c.predicate c.scope W 38 q)) → Tested table cs Ws qs
      → Tested table (c ∷ cs) (W ∷ Ws) (q ∷ qs)
