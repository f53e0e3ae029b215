-- The conjuncts of a predicate, as a search tests them: where each one's nodes stand, and which values it depends on. Nothing here need be believed.
use Rattle.std.specs.Prelude.{◌≡◌, List, [], ◌∷◌, ◌++◌, ℕ, ◌≤◌}
use Rattle.lexical.specs.Symbols.{Name}
use Rattle.search_groups.specs.FormTree.{Pred}
use Rattle.evaluation.specs.StaticRulesScope.{Scope}
use Rattle.evaluation.specs.StaticRulesNames.{judge_pred}
use Rattle.evaluation.specs.StaticRulesLimits.{size_pred}
use Rattle.evaluation.specs.MeaningValues.{Value}
use Rattle.evaluation.specs.MeaningMeaning.{Binding}
use Rattle.evaluation.specs.ValueTypesTypedValues.{PredWithin, sizes_in}
use Rattle.search_groups.specs.FormBoundNames.{PredBindsFew}
use Rattle.search_groups.specs.NodeSpansSpans.{Stands}
use Rattle.evaluation.specs.TablePlacesResolvedTable.{Slots, pred_table}
use Rattle.search_groups.specs.Conjuncts.{used_pred, conjunct_row}

-- the nodes of q stand in the table; q has no faults of names and types where it begins at the symbol `at`, nor of number 13's sizes at `sized_at`;
-- its numbers are at most 1,000, and at most three bound names are in reach
pub record Conjunct (table : List ℕ) (Γ : Scope) (W : Slots) (q : Pred) (from to : ℕ) : Type 0 where
  pub stands : Stands table from to (pred_table q Γ W 38 from)
  pub low : to ≤ 16384
  pub at : ℕ
  pub sized_at : ℕ
  pub judged : (judge_pred q Γ at).faults ≡ []
  pub sized : (size_pred q (sizes_in Γ) sized_at).faults ≡ []
  pub within : PredWithin q
  pub few : PredBindsFew q 0

-- the rows of these conjuncts, one behind the other
pub data Conjuncts (table : List ℕ) (Γ : Scope) (W : Slots) : (rows : List ℕ) → List Pred → Type 0 where
  no_conjuncts : Conjuncts table Γ W [] []
  more_conjuncts : {from to : ℕ} {p : Pred} {rows : List ℕ} {ps : List Pred} → Conjunct table Γ W p from to → Conjuncts table Γ W rows ps
      → Conjuncts table Γ W (conjunct_row from to (used_pred p W 38) ++ rows) (p ∷ ps)

-- Slots and two bindings side by side, by their places: the same names, and the same values where the slot passes P
pub data Agree (P : ℕ → Type 0) : Slots → Binding → Binding → Type 0 where
  agree_none : Agree P [] [] []
  agree_more : {w : Name × ℕ} {b c : Name × Value} {W : Slots} {B C : Binding} → w.0 ≡ b.0 → w.0 ≡ c.0 → (P w.1 → b.1 ≡ c.1) → Agree P W B C
      → Agree P (w ∷ W) (b ∷ B) (c ∷ C)
