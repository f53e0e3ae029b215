-- The sizes and the slots of the groups of each part, by the variables of both states, of inputs and of outputs. Nothing here need be believed.
use Rattle.std.specs.Prelude.{List, [], ◌++◌, ℕ, ◌+◌, ◌*◌, length}
use Rattle.lexical.specs.Lists.{upward}
use Rattle.static_rules.specs.Carriers.{Variable}
use Rattle.static_rules.specs.Limits.{binding_count}
use Rattle.slot_carriers.specs.CellGroups.{CellsOf}
use Rattle.slot_carriers.specs.declared.groups.GroupSize.{GroupSize}
use Rattle.nest_steps.specs.PlansPart.{Part}
use Rattle.nest_steps.specs.PlansConclusions.{OfState, OfStep}
use Rattle.nest_steps.specs.NestPromises.{Groups}

-- the cells of both states, plain and primed
pub record StateCells (cells : List ℕ) (us cs : List Variable) : Type 0 where
  pub abstracts : CellsOf cells 0 us
  pub concretes : CellsOf cells 8 cs
  pub concretes_primed : CellsOf cells 22 cs
  pub abstracts_primed : CellsOf cells 30 us

-- those of an operation too
pub record OperationCells (cells : List ℕ) (us cs is os : List Variable) : Type 0 where
  pub states : StateCells cells us cs
  pub inputs : CellsOf cells 16 is
  pub outputs : CellsOf cells 19 os

-- the size of a group by its variables; of one without variables, which has the empty binding; of two groups together
abbrev pub size_of : List Variable → GroupSize
size_of vs = record { variables = length vs; bindings = binding_count vs }

abbrev pub no_variables : GroupSize
no_variables = record { variables = 0; bindings = 1 }

abbrev pub size_of_both : (vs us : List Variable) → GroupSize
size_of_both vs us = record { variables = length vs + length us; bindings = binding_count vs * binding_count us }

-- "Initialisation runs over the concrete variables"
abbrev pub opening_part : (us cs : List Variable) → Part
opening_part us cs = record {
  abstracts = no_variables;
  concretes = size_of cs;
  inputs = no_variables;
  outputs = no_variables;
  primes = no_variables;
  readying = no_variables;
  meeting = size_of us;
  conclusion = OfState;
}

abbrev pub opening_groups : (us cs : List Variable) → Groups
opening_groups us cs = record {
  abstracts = [];
  concretes = upward 8 (length cs);
  inputs = [];
  outputs = [];
  primes = [];
  readying = [];
  meeting = upward 0 (length us);
}

-- "applicability over abstract, concrete, inputs"
abbrev pub applicability_part : (us cs is os : List Variable) → Part
applicability_part us cs is os = record {
  abstracts = size_of us;
  concretes = size_of cs;
  inputs = size_of is;
  outputs = no_variables;
  primes = no_variables;
  readying = size_of_both os us;
  meeting = size_of_both os cs;
  conclusion = OfState;
}

abbrev pub applicability_groups : (us cs is os : List Variable) → Groups
applicability_groups us cs is os = record {
  abstracts = upward 0 (length us);
  concretes = upward 8 (length cs);
  inputs = upward 16 (length is);
  outputs = [];
  primes = [];
  readying = upward 19 (length os) ++ upward 30 (length us);
  meeting = upward 19 (length os) ++ upward 22 (length cs);
}

-- "correctness over abstract, concrete, inputs, outputs, concrete primed"
abbrev pub correctness_part : (us cs is os : List Variable) → Part
correctness_part us cs is os = record {
  abstracts = size_of us;
  concretes = size_of cs;
  inputs = size_of is;
  outputs = size_of os;
  primes = size_of cs;
  readying = size_of_both os us;
  meeting = size_of us;
  conclusion = OfStep;
}

abbrev pub correctness_groups : (us cs is os : List Variable) → Groups
correctness_groups us cs is os = record {
  abstracts = upward 0 (length us);
  concretes = upward 8 (length cs);
  inputs = upward 16 (length is);
  outputs = upward 19 (length os);
  primes = upward 22 (length cs);
  readying = upward 19 (length os) ++ upward 30 (length us);
  meeting = upward 30 (length us);
}
