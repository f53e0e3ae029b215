-- How many variables and bindings the groups of a part have, read from the groups' rows and the cells; and that the sizes of a part are those. Assumes nothing.
use mathlib.Core.List.{List}
use Prim.Native.Nat.{ℕ, ◌+◌, ◌*◌, ◌≤◌}
use native.Mathlib.Nat.{mul-le-mul}
use Rattle.plans.specs.declared.Part.{Part}
use Rattle.plans.specs.declared.Conclusion.TheVariants.{OfState, OfStep}
use Rattle.part_tests.specs.NestStepsPartTests.{places}
use Rattle.part_tests.specs.PartGroups.{no_variables}
use Rattle.part_setup.specs.SetupPromises.{ApplicabilityPartIs, CorrectnessPartIs, FewPlaces}
use Rattle.part_setup.specs.SetupSteps.{SizesOf, SizesAre}
use Rattle.part_setup.specs.declared.Sizes.{Sizes}

-- ---- the parts of an operation

module _ (groups : List ℕ) (row : ℕ) (cells : List ℕ) (r : Sizes) (w : SizesAre groups row cells r) where
  pub applicability-is :
      ApplicabilityPartIs groups row cells
      record {
        abstracts = r.abstracts;
        concretes = r.concretes;
        inputs = r.inputs;
        outputs = no_variables;
        primes = no_variables;
        readying = record { variables = r.outputs.variables + r.abstracts.variables; bindings = r.outputs.bindings * r.abstracts.bindings };
        meeting = record { variables = r.outputs.variables + r.concretes.variables; bindings = r.outputs.bindings * r.concretes.bindings };
        conclusion = OfState;
      }
  applicability-is =
      record {
        is = λ us cs is os k.
            let s : SizesOf us cs is os r = w.is us cs is os k in
            λ i.
            record {
              abstracts = s.abstracts i;
              concretes = s.concretes i;
              inputs = s.inputs i;
              outputs = no_variables;
              primes = no_variables;
              readying = record { variables = (s.outputs i).variables + (s.abstracts i).variables; bindings = (s.outputs i).bindings * (s.abstracts i).bindings };
              meeting = record { variables = (s.outputs i).variables + (s.concretes i).variables; bindings = (s.outputs i).bindings * (s.concretes i).bindings };
              conclusion = OfState;
            };
      }

  pub correctness-is :
      CorrectnessPartIs groups row cells
      record {
        abstracts = r.abstracts;
        concretes = r.concretes;
        inputs = r.inputs;
        outputs = r.outputs;
        primes = r.concretes;
        readying = record { variables = r.outputs.variables + r.abstracts.variables; bindings = r.outputs.bindings * r.abstracts.bindings };
        meeting = r.abstracts;
        conclusion = OfStep;
      }
  correctness-is =
      record {
        is = λ us cs is os k.
            let s : SizesOf us cs is os r = w.is us cs is os k in
            λ i.
            record {
              abstracts = s.abstracts i;
              concretes = s.concretes i;
              inputs = s.inputs i;
              outputs = s.outputs i;
              primes = s.concretes i;
              readying = record { variables = (s.outputs i).variables + (s.abstracts i).variables; bindings = (s.outputs i).bindings * (s.abstracts i).bindings };
              meeting = s.abstracts i;
              conclusion = OfStep;
            };
      }

-- ---- how many places a part has

module _ (p : Part) (w : FewPlaces p) where
  two : p.abstracts.bindings * p.concretes.bindings ≤ 16777216
  two = mul-le-mul {n₂ = 4096} {m₂ = 4096} w.few_a w.few_c

  three : p.abstracts.bindings * p.concretes.bindings * p.inputs.bindings ≤ 1073741824
  three = mul-le-mul {n₂ = 16777216} {m₂ = 64} two w.few_i

  four : p.abstracts.bindings * p.concretes.bindings * p.inputs.bindings * p.outputs.bindings ≤ 68719476736
  four = mul-le-mul {n₂ = 1073741824} {m₂ = 64} three w.few_q

  pub few-places : places p ≤ 281474976710656
  few-places = mul-le-mul {n₂ = 68719476736} {m₂ = 4096} four w.few_k
