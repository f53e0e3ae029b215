-- The three kinds of parts, as they are set up: for every dossier whose reading the arrays are, the nest of its part. Assumes nothing.
use mathlib.Core.Path.{◌≡◌, refl, sym, ap, ap₂, ◌∙◌, subst}
use mathlib.Core.List.{List}
use mathlib.Core.Option.{some}
use Prim.Native.Nat.{ℕ, ◌+◌, ◌-◌, ◌*◌, ◌<◌}
use native.Mathlib.Nat.{mul-one}
use native.Mathlib.Omega.{arith}
use lib.ListN.{length, get_elem?}
use Rattle.form.specs.Tree.{Operation, Dossier}
use Rattle.static_rules.specs.Scope.{unprimed}
use Rattle.static_rules.specs.Limits.{binding_count}
use Rattle.meaning.proofs.Places.{entry-below, below-entry}
use Rattle.obligations.specs.Subjects.{subject_of}
use Rattle.obligations.proofs.Digits.{concretes, givens, applicability_size, correctness_size, start_of}
use Rattle.plans.specs.declared.Part.{Part}
use Rattle.plans.specs.PlanPromises.{InitialisationPlan, ApplicabilityPlan, CorrectnessPlan}
use Rattle.nest.specs.NestStepsPartTests.{passes_from}
use Rattle.part_setup.specs.PartTestsPartsByNumber.{initialisation_tests, applicability_tests, correctness_tests}
use Rattle.part_setup.specs.PartTestsPartGroups as made
use Rattle.part_setup.specs.PartTestsPartGroups.{opening_part, applicability_part, correctness_part}
use Rattle.part_searches.specs.PartCells.{StatesCelled}
use Rattle.part_setup.specs.PartTestsPartOrder.{part_size, part_begin}
use Rattle.part_setup.specs.ReadingsReadings.{ReadingOf}
use Rattle.part_setup.proofs.PartTestsLookedChecks.{passes_place}
use Rattle.part_setup.proofs.PartTestsPartPlaces.{initialisation-part, applicability-part, correctness-part}
use Rattle.part_searches.proofs.InitialisationNest.{initialisation_groups, initialisation-nest}
use Rattle.part_searches.proofs.OperationPremises.{OperationReading}
use Rattle.part_searches.proofs.OperationSteps.{front_at}
use Rattle.part_searches.proofs.ApplicabilityNest.{applicability_of, applicability-nest}
use Rattle.part_searches.proofs.CorrectnessNest.{correctness_of, correctness-nest}
use Rattle.part_setup.specs.SetupPromises.{OperationSet, ApplicabilityPartIs, CorrectnessPartIs}
use Rattle.parts.proofs.PartOrderLaws.{first-size, first-begin, applicability-size, correctness-size, applicability-begin, correctness-begin}
use Rattle.parts.proofs.ReadingSizes.{concretes-count, givens-count, results-count, applicability-counts, correctness-counts}
use Rattle.parts.proofs.SizedParts.{opening-sized, applicability-sized, correctness-sized}
use Rattle.parts.specs.SearchPromises.{OpeningReady, ApplicabilityReady, CorrectnessReady, PartFor, PartReady}
use Rattle.part_setup.proofs.AskedParts.{opening-counts}
use Rattle.parts.proofs.SetupLaws.{OperationLook, us, cs, is, os, operation-counts, applicability-is, correctness-is, outputs-by-part}

-- the cells of a dossier's variables, by the lists of its variables
pub state-cells : {cells : List ℕ} {d : Dossier} → made.StateCells cells (unprimed d d.abstract) (unprimed d d.concrete) → StatesCelled cells d
state-cells c = record { abstracts = c.abstracts; concretes = c.concretes; concretes_primed = c.concretes_primed; abstracts_primed = c.abstracts_primed }

-- ---- initialisation

opening-here : {table rows firsts groups plan cells : List ℕ} {d : Dossier} → ReadingOf table rows firsts groups d → StatesCelled cells d → InitialisationPlan rows firsts plan
    → PartFor table plan cells (opening_part (unprimed d d.abstract) (unprimed d d.concrete)) d 0
opening-here {d = d} R C n =
    let e : concretes d ≡ binding_count (unprimed d d.concrete) = concretes-count d in
    record {
      groups = initialisation_groups d;
      tests = initialisation_tests d;
      nest = initialisation-nest R C n refl (opening-sized d R C);
      many = omega (arith, first-size d);
      same = λ q h.
          let s : q ≡ part_begin d 0 + q = omega (arith, first-begin d) in
          ap (λ (m : ℕ). passes_from (initialisation_tests d) m 1 1 1 q) (sym e)
          ∙ initialisation-part d q (omega (arith, first-size d))
          ∙ ap (passes_place (subject_of d)) s;
    }

pub opening-ready : {table rows firsts groups plan cells : List ℕ} {p : Part} → OpeningReady table rows firsts groups plan cells p
    → PartReady table rows firsts groups 0 plan cells p
opening-ready {table} {plan = plan} {cells = cells} r = record {
  first_values = r.cells_set.first_values;
  is_part = λ d R h.
      let c = opening-counts R.abstracts R.concretes r.cells_set in
      subst (λ (z : Part). PartFor table plan cells z d 0) (sym (r.part_is.is (unprimed d d.abstract) (unprimed d d.concrete) c))
      (opening-here R (state-cells c.cells_are) r.plan_is);
}

-- ---- an operation's parts

module _ {table rows firsts groups : List ℕ} {j : ℕ} (x : OperationLook table rows firsts groups j) where
  operation-reading : {cells : List ℕ} → made.OperationCells cells (us x) (cs x) (is x) (os x) → OperationReading table rows firsts groups cells x.dossier x.operation j
  operation-reading c = record {
    reading = x.reading;
    celled = record { states = state-cells c.states; inputs_in = c.inputs; outputs_in = c.outputs };
    is = x.listed;
  }

  abbrev d : Dossier
  d = x.dossier

  abbrev op : Operation
  op = x.operation

  low : j < length d.operations
  low = entry-below op d.operations j x.listed

  applicability-here : {plan cells : List ℕ} → made.OperationCells cells (us x) (cs x) (is x) (os x) → ApplicabilityPlan rows firsts plan j (length (os x))
      → PartFor table plan cells (applicability_part (us x) (cs x) (is x) (os x)) d (1 + 2 * j)
  applicability-here c n =
      let X = operation-reading c in
      let z : part_size d (1 + 2 * j) ≡ applicability_size d op = applicability-size d j op x.listed in
      record {
        groups = applicability_of d op;
        tests = applicability_tests d op;
        nest = applicability-nest X n refl (applicability-sized d op x.reading j x.listed X.celled);
        many = mul-one _ ∙ mul-one _ ∙ sym (z ∙ applicability-counts d op);
        same = λ q h.
            let s : start_of (subject_of d) j + q ≡ part_begin d (1 + 2 * j) + q = omega (arith, applicability-begin d j (omega (arith, low))) in
            ap₂ (λ (m k : ℕ). passes_from (applicability_tests d op) m k 1 1 q) (sym (concretes-count d)) (sym (givens-count d op))
            ∙ applicability-part d j op x.listed q (omega (arith, z))
            ∙ ap (passes_place (subject_of d)) s;
      }

  correctness-here : {plan cells : List ℕ} → made.OperationCells cells (us x) (cs x) (is x) (os x) → CorrectnessPlan rows firsts plan j (length (os x))
      → PartFor table plan cells (correctness_part (us x) (cs x) (is x) (os x)) d (2 + 2 * j)
  correctness-here c n =
      let X = operation-reading c in
      let z : part_size d (2 + 2 * j) ≡ correctness_size d op = correctness-size d j op x.listed in
      record {
        groups = correctness_of d op;
        tests = correctness_tests d op (front_at X);
        nest = correctness-nest X n refl (correctness-sized d op x.reading j x.listed X.celled);
        many = sym (z ∙ correctness-counts d op);
        same = λ q h.
            let s : start_of (subject_of d) j + applicability_size d op + q ≡ part_begin d (2 + 2 * j) + q = omega (arith, correctness-begin d j op x.listed) in
            ap₂ (λ (m k : ℕ). passes_from (correctness_tests d op (front_at X)) m k (binding_count (os x)) m q) (sym (concretes-count d)) (sym (givens-count d op))
            ∙ ap (λ (r : ℕ). passes_from (correctness_tests d op (front_at X)) (concretes d) (givens d op) r (concretes d) q) (sym (results-count d op))
            ∙ correctness-part d j op x.listed (front_at X) q (omega (arith, z))
            ∙ ap (passes_place (subject_of d)) s;
      }

  module _ {plan cells : List ℕ} {p : Part} (s : OperationSet table groups (18 + 8 * j) cells) where
    applicability-for : ApplicabilityPartIs groups (18 + 8 * j) cells p → ApplicabilityPlan rows firsts plan j (p.readying.variables - p.abstracts.variables) → PartFor table plan cells p d (1 + 2 * j)
    applicability-for i n =
        subst (λ (z : Part). PartFor table plan cells z d (1 + 2 * j)) (sym (applicability-is x s i))
        (applicability-here (operation-counts x s).cells_are (subst (ApplicabilityPlan rows firsts plan j) (sym (outputs-by-part x s i).1) n))

    correctness-for : CorrectnessPartIs groups (18 + 8 * j) cells p → CorrectnessPlan rows firsts plan j p.outputs.variables → PartFor table plan cells p d (2 + 2 * j)
    correctness-for i n =
        subst (λ (z : Part). PartFor table plan cells z d (2 + 2 * j)) (sym (correctness-is x s i))
        (correctness-here (operation-counts x s).cells_are (subst (λ (z : Part). CorrectnessPlan rows firsts plan j z.outputs.variables) (correctness-is x s i) n))

-- for every dossier
module _ {table rows firsts groups plan cells : List ℕ} {p : Part} {j : ℕ} where
  pub applicability-ready : ApplicabilityReady table rows firsts groups j plan cells p → PartReady table rows firsts groups (1 + 2 * j) plan cells p
  applicability-ready r = record {
    first_values = r.cells_set.first_values;
    is_part = λ d R h.
        let t : (o : Operation) × (get_elem? d.operations j ≡ some o) = below-entry d.operations j (omega arith) in
        applicability-for (record { dossier = d; operation = t.0; reading = R; listed = t.1 }) r.cells_set r.part_is r.plan_is;
  }

  pub correctness-ready : CorrectnessReady table rows firsts groups j plan cells p → PartReady table rows firsts groups (2 + 2 * j) plan cells p
  correctness-ready r = record {
    first_values = r.cells_set.first_values;
    is_part = λ d R h.
        let t : (o : Operation) × (get_elem? d.operations j ≡ some o) = below-entry d.operations j (omega arith) in
        correctness-for (record { dossier = d; operation = t.0; reading = R; listed = t.1 }) r.cells_set r.part_is r.plan_is;
  }
