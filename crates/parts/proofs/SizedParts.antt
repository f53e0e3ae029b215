-- The sizes of each part's groups are those that its searches ask for, where the cells of its variables are made. Assumes nothing.
use mathlib.Core.Path.{◌≡◌, refl, sym, ap₂, ◌∙◌}
use mathlib.Core.List.{List, [], ◌++◌}
use mathlib.Core.Option.{some}
use Prim.Native.Nat.{ℕ, ◌+◌, ◌*◌, ◌≤◌, ◌^◌}
use native.Mathlib.Nat.{mul-le-mul}
use native.Mathlib.Omega.{arith}
use lib.ListN.{length, get_elem?, length-append}
use Rattle.lexical.specs.Lists.{upward}
use Rattle.meaning.proofs.UpwardNumbers.{upward-long}
use Rattle.form.specs.Tree.{Operation, Dossier}
use Rattle.static_rules.specs.Carriers.{Variable}
use Rattle.static_rules.specs.Scope.{unprimed, inputs, outputs}
use Rattle.static_rules.specs.Limits.{binding_count}
use Rattle.carriers.proofs.Bindings.{bindings-some}
use Rattle.slot_carriers.specs.CellGroups.{CellsOf, Grouped}
use Rattle.plans.specs.PointsPoints.{span}
use Rattle.plans.proofs.PointsPointNumbers.{span-append}
use Rattle.plans.proofs.PointsPointBindings.{span-count}
use Rattle.nest.specs.NestStepsNestPromises.{SizedGroup, Sized}
use Rattle.part_setup.specs.PartTestsPartGroups.{opening_part, applicability_part, correctness_part}
use Rattle.part_searches.specs.PartCells.{StatesCelled, OperationCelled}
use Rattle.part_setup.specs.ReadingsReadings.{ReadingOf}
use Rattle.part_searches.proofs.InitialisationNest.{initialisation_groups}
use Rattle.part_searches.proofs.ApplicabilityNest.{applicability_of}
use Rattle.part_searches.proofs.CorrectnessNest.{correctness_of}

-- a group without variables, that of variables from a slot on, two groups one behind the other
none-sized : {cells : List ℕ} {most : ℕ} → 1 ≤ most → SizedGroup cells [] (record { variables = 0; bindings = 1 }) most
unfolding span
none-sized h = record { many = refl; counted = refl; few = h }

group-sized : (cells : List ℕ) (s : ℕ) (vs : List Variable) {most : ℕ} → CellsOf cells s vs → binding_count vs ≤ most
    → SizedGroup cells (upward s (length vs)) (record { variables = length vs; bindings = binding_count vs }) most
group-sized cells s vs c h = record { many = upward-long s (length vs); counted = sym (span-count cells s vs c); few = h }

both-sized : (cells : List ℕ) (s t : ℕ) (vs us : List Variable) → CellsOf cells s vs → CellsOf cells t us → binding_count vs ≤ 64 → binding_count us ≤ 4096
    → SizedGroup cells (upward s (length vs) ++ upward t (length us)) (record { variables = length vs + length us; bindings = binding_count vs * binding_count us }) (2 ^ 18)
both-sized cells s t vs us c k h l = record {
  many = length-append (upward s (length vs)) (upward t (length us)) ∙ ap₂ ◌+◌ (upward-long s (length vs)) (upward-long t (length us));
  counted = sym (span-append cells (upward s (length vs)) (upward t (length us)) ∙ ap₂ ◌*◌ (span-count cells s vs c) (span-count cells t us k));
  few = mul-le-mul {n₂ = 64} {m₂ = 4096} h l;
}

grouped : (cells : List ℕ) (vs : List Variable) → CellsOf cells 16 vs → binding_count vs ≤ 64 → Grouped cells 16 (length vs)
grouped cells vs h l = record { group = vs; each = h; long = refl; few = omega arith }

module _ (d : Dossier) where
  abbrev us : List Variable
  us = unprimed d d.abstract

  abbrev cs : List Variable
  cs = unprimed d d.concrete

  pub opening-sized : {table rows firsts groups cells : List ℕ} → ReadingOf table rows firsts groups d → StatesCelled cells d → Sized cells (opening_part us cs) (initialisation_groups d)
  unfolding upward CellsOf binding_count
  opening-sized {cells = cells} R C = record {
    abstracts = none-sized (omega arith);
    concretes = group-sized cells 8 cs C.concretes R.concretes.bindings;
    inputs = none-sized (omega arith);
    outputs = none-sized (omega arith);
    primes = none-sized (omega arith);
    readying = none-sized (omega arith);
    meeting = group-sized cells 0 us C.abstracts (omega (arith, R.abstracts.bindings));
    some_a = omega arith;
    some_c = bindings-some cs;
    some_i = omega arith;
    some_o = omega arith;
    some_k = omega arith;
    abstracts_are = refl;
    concretes_are = refl;
    inputs_are = refl;
    inputs_few = omega arith;
    grouped = record { group = []; each = tt; long = refl; few = omega arith };
  }

  module _ (op : Operation) where
    abbrev is : List Variable
    is = inputs d op

    abbrev os : List Variable
    os = outputs d op

    pub applicability-sized : {table rows firsts groups cells : List ℕ} → ReadingOf table rows firsts groups d → (j : ℕ) → get_elem? d.operations j ≡ some op
        → OperationCelled cells d op → Sized cells (applicability_part us cs is os) (applicability_of d op)
    applicability-sized {cells = cells} R j listed C = record {
      abstracts = group-sized cells 0 us C.states.abstracts R.abstracts.bindings;
      concretes = group-sized cells 8 cs C.states.concretes R.concretes.bindings;
      inputs = group-sized cells 16 is C.inputs_in (R.inputs_at j op listed).bindings;
      outputs = none-sized (omega arith);
      primes = none-sized (omega arith);
      readying = both-sized cells 19 30 os us C.outputs_in C.states.abstracts_primed (R.outputs_at j op listed).bindings R.abstracts.bindings;
      meeting = both-sized cells 19 22 os cs C.outputs_in C.states.concretes_primed (R.outputs_at j op listed).bindings R.concretes.bindings;
      some_a = bindings-some us;
      some_c = bindings-some cs;
      some_i = bindings-some is;
      some_o = omega arith;
      some_k = omega arith;
      abstracts_are = refl;
      concretes_are = refl;
      inputs_are = refl;
      inputs_few = (R.inputs_at j op listed).short;
      grouped = grouped cells is C.inputs_in (R.inputs_at j op listed).bindings;
    }

    pub correctness-sized : {table rows firsts groups cells : List ℕ} → ReadingOf table rows firsts groups d → (j : ℕ) → get_elem? d.operations j ≡ some op
        → OperationCelled cells d op → Sized cells (correctness_part us cs is os) (correctness_of d op)
    correctness-sized {cells = cells} R j listed C = record {
      abstracts = group-sized cells 0 us C.states.abstracts R.abstracts.bindings;
      concretes = group-sized cells 8 cs C.states.concretes R.concretes.bindings;
      inputs = group-sized cells 16 is C.inputs_in (R.inputs_at j op listed).bindings;
      outputs = group-sized cells 19 os C.outputs_in (R.outputs_at j op listed).bindings;
      primes = group-sized cells 22 cs C.states.concretes_primed R.concretes.bindings;
      readying = both-sized cells 19 30 os us C.outputs_in C.states.abstracts_primed (R.outputs_at j op listed).bindings R.abstracts.bindings;
      meeting = group-sized cells 30 us C.states.abstracts_primed (omega (arith, R.abstracts.bindings));
      some_a = bindings-some us;
      some_c = bindings-some cs;
      some_i = bindings-some is;
      some_o = bindings-some os;
      some_k = bindings-some cs;
      abstracts_are = refl;
      concretes_are = refl;
      inputs_are = refl;
      inputs_few = (R.inputs_at j op listed).short;
      grouped = grouped cells is C.inputs_in (R.inputs_at j op listed).bindings;
    }
