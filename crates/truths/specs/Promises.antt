-- What the evaluator promises over the definitions: wherever the table of a predicate stands up to a place, and the slots hold the values that an environment of
-- names gives, the answer is whether the predicate holds there.
use Rattle.std.specs.Prelude.{◌≡◌, Bool, List, ℕ}
use Rattle.form.specs.Tree.{Pred}
use Rattle.evaluator.specs.StaticRulesScope.{Scope}
use Rattle.evaluator.specs.MeaningMeaning.{Environment, holds}
use Rattle.evaluator.specs.TablePlacesResolvedTable.{Slots}
use Rattle.conjunct_tests.specs.EvaluationEvaluationByNumber.{Values}
use Rattle.conjunct_tests.specs.EvaluationSlotValues.{Held}
use Rattle.conjunct_tests.specs.ConjunctTests.{Conjunct}

-- some predicate stands there, without faults in its scope, and the slots hold the values of its names
pub record Asked (table : List ℕ) (end : ℕ) (σ : Values) : Type 0 where
  pub scope : Scope
  pub slots : Slots
  pub environment : Environment
  pub predicate : Pred
  pub from : ℕ
  pub stands : Conjunct table scope slots predicate from end
  pub held : Held scope slots 0 environment σ

-- whatever predicate stands there, and whatever environment the slots hold
pub record Answers (table : List ℕ) (end : ℕ) (σ : Values) (r : Bool) : Type 0 where
  pub means : (Γ : Scope) (W : Slots) (ρ : Environment) (q : Pred) (from : ℕ) → Conjunct table Γ W q from end → Held Γ W 0 ρ σ → r ≡ holds q ρ
