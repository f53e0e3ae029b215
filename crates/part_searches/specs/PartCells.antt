-- The cells of the variables of a dossier's states, and of an operation's parameters: part_tests/specs/PartGroups, of a dossier. Nothing here need be believed.
use Rattle.std.specs.Prelude.{List, ℕ}
use Rattle.form.specs.Tree.{Operation, Dossier}
use Rattle.static_rules.specs.Scope.{unprimed, inputs, outputs}
use Rattle.slot_carriers.specs.CellGroups.{CellsOf}

-- of both states, before and after
pub record StatesCelled (cells : List ℕ) (d : Dossier) : Type 0 where
  pub abstracts : CellsOf cells 0 (unprimed d d.abstract)
  pub concretes : CellsOf cells 8 (unprimed d d.concrete)
  pub concretes_primed : CellsOf cells 22 (unprimed d d.concrete)
  pub abstracts_primed : CellsOf cells 30 (unprimed d d.abstract)

-- of an operation's parameters too
pub record OperationCelled (cells : List ℕ) (d : Dossier) (op : Operation) : Type 0 where
  pub states : StatesCelled cells d
  pub inputs_in : CellsOf cells 16 (inputs d op)
  pub outputs_in : CellsOf cells 19 (outputs d op)
