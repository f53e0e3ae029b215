-- What the reader's arrays hold of a dossier, for the search: the rows of its predicates and the groups of its variables. Nothing here need be believed.
use Rattle.std.specs.Prelude.{◌≡◌, List, ℕ, ◌+◌, ◌*◌, ◌≤◌, get_or, length}
use Rattle.std.proofs.Math.Option.{some}
use Rattle.std.proofs.Math.ListN.{get_elem?}
use Rattle.form.specs.Tree.{Operation, Dossier}
use Rattle.static_rules.specs.Carriers.{Variable}
use Rattle.static_rules.specs.Scope.{unprimed, inputs, outputs}
use Rattle.static_rules.specs.Limits.{binding_count}
use Rattle.slot_carriers.specs.DeclaredGroups.{NodesOf}
use Rattle.read_predicates.specs.PredicateRows.{TestsOf}

-- a group: how many variables it has, and where the nodes of their types stand
pub record GroupAt (table groups : List ℕ) (row : ℕ) (vs : List Variable) (many few : ℕ) : Type 0 where
  pub count : get_or groups row 0 ≡ length vs
  pub nodes : NodesOf table groups (row + 1) vs
  pub short : length vs ≤ many
  pub bindings : binding_count vs ≤ few

pub record ReadingOf (table rows firsts groups : List ℕ) (d : Dossier) : Type 0 where
  pub tests : TestsOf table rows firsts d
  pub abstracts : GroupAt table groups 0 (unprimed d d.abstract) 8 4096
  pub concretes : GroupAt table groups 9 (unprimed d d.concrete) 8 4096
  pub operations : length d.operations ≤ 16
  pub inputs_at : (j : ℕ) (op : Operation) → get_elem? d.operations j ≡ some op → GroupAt table groups (18 + 8 * j) (inputs d op) 3 64
  pub outputs_at : (j : ℕ) (op : Operation) → get_elem? d.operations j ≡ some op → GroupAt table groups (18 + 8 * j + 4) (outputs d op) 3 64
