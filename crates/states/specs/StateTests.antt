-- Bindings of a dossier's variables and parameters as they stand in the slots: a state's, and a step's. Nothing here need be believed.
use Rattle.std.specs.Prelude.{◌≡◌, List, ℕ, length}
use Rattle.form.specs.Tree.{State, Operation, Dossier}
use Rattle.static_rules.specs.Carriers.{Variable}
use Rattle.static_rules.specs.Scope.{unprimed, primed, inputs, outputs}
use Rattle.meaning.specs.Meaning.{Binding}
use Rattle.meaning.specs.Bindings.{Over}
use Rattle.meaning.specs.Operations.{after}
use Rattle.search_groups.specs.TablePlacesResolvedTable.{Slots, slotted}
use Rattle.evaluator.specs.EvaluationEvaluationByNumber.{Values}
use Rattle.evaluator.specs.EvaluationSlotValues.{Slotted}

-- a binding of variables over their carriers, whose values stand in these slots
pub record Placed (vs : List Variable) (W : Slots) (b : Binding) (σ : Values) : Type 0 where
  pub over : Over vs b
  pub slotted : Slotted W b σ
  pub long : length σ ≡ 64

-- a step's bindings: the state before, the state after under its primed names, inputs and outputs in one array; the state after under its plain names in another.
-- The state's slots begin at `plain`, the primed ones at `dashed`.
pub record StepAt (d : Dossier) (s : State) (plain dashed : ℕ) (op : Operation) (b i o b' : Binding) (σ later : Values) : Type 0 where
  pub before : Placed (unprimed d s) (slotted plain (unprimed d s)) b σ
  pub primes : Slotted (slotted dashed (primed d s)) (after b') σ
  pub inward : Placed (inputs d op) (slotted 16 (inputs d op)) i σ
  pub outward : Placed (outputs d op) (slotted 19 (outputs d op)) o σ
  pub behind : Placed (unprimed d s) (slotted plain (unprimed d s)) b' later
