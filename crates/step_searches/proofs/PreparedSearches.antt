-- The cells, the plan and the sizes that are made for an operation's correctness part, or for initialisation, are those of its searches, for every dossier whose reading the arrays are.
-- Assumes nothing.
use mathlib.Core.Path.{subst}
use mathlib.Core.List.{List}
use Prim.Native.Nat.{ℕ, ◌+◌, ◌*◌, ◌<◌}
use native.Mathlib.Omega.{arith}
use lib.ListN.{length}
use Rattle.form.specs.Tree.{Operation, Dossier}
use Rattle.static_rules.specs.Scope.{unprimed, outputs}
use Rattle.plans.specs.declared.Part.{Part}
use Rattle.plans.specs.PlanPromises.{CorrectnessPlan}
use Rattle.part_setup.specs.ReadingsReadings.{ReadingOf}
use Rattle.parts.specs.PartSearchesPartCells.{StatesCelled}
use Rattle.parts.proofs.PartSearchesOperationPremises as premises
use Rattle.parts.proofs.PartSearchesOperationPremises.{OperationReading}
use Rattle.parts.proofs.PartSearchesOperationSteps.{steps_search}
use Rattle.parts.proofs.PartSearchesCorrectnessNest as correctness
use Rattle.parts.proofs.PartSearchesInitialisationNest as initialisation
use Rattle.parts.specs.SearchPromises.{OpeningReady, CorrectnessReady, LookAsked}
use Rattle.parts.proofs.LookLaws.{state-cells}
use Rattle.part_setup.proofs.AskedParts.{opening-counts}
use Rattle.parts.proofs.SetupLaws.{OperationLook, operation-counts, correctness-is}
use Rattle.step_searches.specs.StepPromises.{StatesFew, StepSearches, ReadAsked, PrepareAsked, Prepared, OpenAsked, Opened}

states-few : {table rows firsts groups : List ℕ} {d : Dossier} → ReadingOf table rows firsts groups d → StatesFew d
states-few R = record {
  abstracts = R.abstracts.short;
  concretes = R.concretes.short;
  abstract_bindings_lem = R.abstracts.bindings;
  concrete_bindings_lem = R.concretes.bindings;
}

-- operations below the last one are listed
pub prepare-asked : {table rows firsts groups : List ℕ} {operations j : ℕ} → ReadAsked table rows firsts groups operations → j < operations → PrepareAsked table rows firsts groups j
prepare-asked q h = record { dossier = q.dossier; reading = q.reading; listed = omega (arith, q.many, h) }

module _ {table rows firsts groups : List ℕ} {j : ℕ} where
  pub correctness-look : PrepareAsked table rows firsts groups j → LookAsked table rows firsts groups (2 + 2 * j)
  correctness-look q = record { dossier = q.dossier; reading = q.reading; part = omega (arith, q.listed) }

  module _ {plan cells : List ℕ} {p : Part} (r : CorrectnessReady table rows firsts groups j plan cells p) where
    searches-of : (x : OperationLook table rows firsts groups j) → StepSearches table plan cells p x.dossier x.operation
    searches-of x =
        let d : Dossier = x.dossier in
        let op : Operation = x.operation in
        let R = x.reading in
        let c = (operation-counts x r.cells_set).cells_are in
        let X : OperationReading table rows firsts groups cells d op j =
        record { reading = R; celled = record { states = state-cells c.states; inputs_in = c.inputs; outputs_in = c.outputs }; is = x.listed } in
        let N : CorrectnessPlan rows firsts plan j (length (outputs d op)) = subst (λ (z : Part). CorrectnessPlan rows firsts plan j z.outputs.variables) (correctness-is x r.cells_set r.part_is) r.plan_is in
        record {
          part_is = correctness-is x r.cells_set r.part_is;
          celled = X.celled;
          first_values = r.cells_set.first_values;
          few = states-few R;
          inputs_few = (R.inputs_at j op x.listed).short;
          outputs_few = (R.outputs_at j op x.listed).short;
          input_bindings = (R.inputs_at j op x.listed).bindings;
          output_bindings_lem = (R.outputs_at j op x.listed).bindings;
          states = premises.states X N.premises;
          related = premises.related X N.premises;
          ready = premises.ready X N.premises;
          steps = steps_search X (omega arith) N.steps;
          met = correctness.met X N;
        }

    pub prepared : Prepared table rows firsts groups j plan cells p
    prepared = record { searches = λ d op R e. searches-of (record { dossier = d; operation = op; reading = R; listed = e }) }

module _ {table rows firsts groups : List ℕ} where
  pub opening-look : OpenAsked table rows firsts groups → LookAsked table rows firsts groups 0
  opening-look q = record { dossier = q.dossier; reading = q.reading; part = omega arith }

  pub opened : {plan cells : List ℕ} {p : Part} → OpeningReady table rows firsts groups plan cells p → Opened table rows firsts groups plan cells p
  opened {plan} {cells} {p} r = record {
    searches = λ d R.
        let c = opening-counts R.abstracts R.concretes r.cells_set in
        let C : StatesCelled cells d = state-cells c.cells_are in
        record {
          part_is = r.part_is.is (unprimed d d.abstract) (unprimed d d.concrete) c;
          celled = C;
          first_values = r.cells_set.first_values;
          few = states-few R;
          initials = initialisation.related R C r.plan_is;
          met = initialisation.met R C r.plan_is;
        };
  }
