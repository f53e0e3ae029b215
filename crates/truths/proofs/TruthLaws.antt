-- From what stands in the table to what the evaluator asks and answers by numbers.
use mathlib.Core.Bool.{Bool}
use mathlib.Core.List.{List}
use Prim.Native.Nat.{ℕ, zero, suc}
use Rattle.conjunct_tests.specs.EvaluationEvaluationByNumber.{Values, Inside, TruthIs}
use Rattle.conjunct_tests.specs.EvaluationHeights.{height_pred}
use Rattle.evaluator.specs.EvaluationPromises.{TruthRuns, TruthAnswers}
use Rattle.evaluator.specs.MeaningMeaning.{holds}
use Rattle.conjunct_tests.proofs.ConjunctRows.{conjunct-answers}
use Rattle.truths.specs.Promises.{Asked, Answers}

inside_of : (t : List ℕ) (e : ℕ) (σ : Values) (b : Bool) (f : ℕ) → TruthIs f t e σ b → Inside e
unfolding TruthIs
inside_of t e σ b zero h = absurd h
inside_of t e σ b (suc f) h = h.0

asked_is : {t : List ℕ} {e : ℕ} {σ : Values} (a : Asked t e σ) → TruthIs (height_pred a.predicate) t e σ (holds a.predicate a.environment)
asked_is {t} {e} {σ} a = conjunct-answers t a.scope a.slots a.predicate a.from e a.environment σ a.stands a.held

pub asked-inside : {t : List ℕ} {e : ℕ} {σ : Values} → Asked t e σ → Inside e
asked-inside {t} {e} {σ} a = inside_of t e σ (holds a.predicate a.environment) (height_pred a.predicate) (asked_is a)

pub asked-runs : {t : List ℕ} {e : ℕ} {σ : Values} → Asked t e σ → TruthRuns t e σ
asked-runs a = record { fuel = height_pred a.predicate; value = holds a.predicate a.environment; is = asked_is a }

pub answered : {t : List ℕ} {e : ℕ} {σ : Values} {r : Bool} → TruthAnswers t e σ r → Answers t e σ r
answered {t} {e} {σ} h = record { means = λ Γ W ρ q from c k. h.is (height_pred q) (holds q ρ) (conjunct-answers t Γ W q from e ρ σ c k) }
