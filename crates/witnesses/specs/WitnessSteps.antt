-- What the binding at a place of a part and the lines of its groups ask and promise, by the sizes of the part. Nothing here need be believed.
use Rattle.std.specs.Prelude.{◌≡◌, List, ◌++◌, ℕ, ◌+◌, ◌/◌, ◌%◌, ◌<◌, ◌≤◌, ℤ}
use Rattle.static_rules.specs.Limits.{binding_count}
use Rattle.slot_carriers.specs.CellGroups.{Grouped, HoldsBinding}
use Rattle.slot_carriers.specs.declared.groups.GroupSize.{GroupSize}
use Rattle.plans.specs.declared.Part.{Part}
use Rattle.part_places.specs.NestStepsPartTests.{places}
use Rattle.lines.specs.LinesByNumber.{group_piece}

-- a group stands from the slot s on, of at most `many` variables
pub record SizedAt (cells : List ℕ) (s many : ℕ) (g : GroupSize) : Type 0 where
  pub grouped : Grouped cells s g.variables
  pub count : g.bindings ≡ binding_count grouped.group
  pub short : g.variables ≤ many

-- all groups of a part
pub record PartSized (cells : List ℕ) (p : Part) : Type 0 where
  pub abstracts : SizedAt cells 0 8 p.abstracts
  pub concretes : SizedAt cells 8 8 p.concretes
  pub inputs : SizedAt cells 16 3 p.inputs
  pub outputs : SizedAt cells 19 3 p.outputs
  pub primes : SizedAt cells 22 8 p.primes

-- asked: the cells of all groups of a part, and a place in it
pub record BindAsked (cells : List ℕ) (p : Part) (at : ℕ) : Type 0 where
  pub sized : PartSized cells p
  pub low : at < places p

-- promised: the slots of each group hold the binding that its digit of the place says
pub record BoundAt (cells : List ℕ) (p : Part) (at : ℕ) (values : List ℤ) : Type 0 where
  pub abstracts : HoldsBinding cells 0 p.abstracts.variables (at / p.primes.bindings / p.outputs.bindings / p.inputs.bindings / p.concretes.bindings) values
  pub concretes : HoldsBinding cells 8 p.concretes.variables (at / p.primes.bindings / p.outputs.bindings / p.inputs.bindings % p.concretes.bindings) values
  pub inputs : HoldsBinding cells 16 p.inputs.variables (at / p.primes.bindings / p.outputs.bindings % p.inputs.bindings) values
  pub outputs : HoldsBinding cells 19 p.outputs.variables (at / p.primes.bindings % p.outputs.bindings) values
  pub primes : HoldsBinding cells 22 p.primes.variables (at % p.primes.bindings) values

-- the numbers of variables of a part's groups, and how far its operation's rows are from the first operation's
pub record LinesAsked (p : Part) (row : ℕ) : Type 0 where
  pub abstracts : p.abstracts.variables ≤ 8
  pub concretes : p.concretes.variables ≤ 8
  pub inputs : p.inputs.variables ≤ 3
  pub outputs : p.outputs.variables ≤ 3
  pub primes : p.primes.variables ≤ 8
  pub row_low : row ≤ 120

-- the lines of all groups of a part
abbrev pub part_piece : (text labels : List ℕ) (p : Part) (row : ℕ) → List ℤ → List ℕ
part_piece text labels p row σ =
    group_piece text labels 1 p.abstracts.variables 0 0 σ
    ++ (group_piece text labels 10 p.concretes.variables 8 0 σ
    ++ (group_piece text labels (19 + row) p.inputs.variables 16 63 σ
    ++ (group_piece text labels (23 + row) p.outputs.variables 19 33 σ
    ++ group_piece text labels 10 p.primes.variables 22 39 σ)))
