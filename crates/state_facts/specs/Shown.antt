-- What is shown of some bindings of a dossier by their numbers: their values in the slots, and how many variables there are. Nothing here need be believed.
use Rattle.std.specs.Prelude.{◌≡◌, List, ℕ, ◌+◌, ◌*◌, ◌<◌, ◌≤◌, length, ℤ}
use Rattle.std.proofs.Math.Option.{some}
use Rattle.std.proofs.Math.ListN.{get_elem?}
use Rattle.form.specs.Tree.{Operation, Dossier}
use Rattle.static_rules.specs.Scope.{unprimed, inputs, outputs}
use Rattle.slot_carriers.specs.CellGroups.{Holding}
use Rattle.part_places.specs.PartTestsPartsByNumber.{abstract_at, concrete_at, input_at, output_at}
use Rattle.part_places.specs.Places.{GroupsOf}
use Rattle.pages.specs.declared.Bindings.{Bindings}
use Rattle.pages.specs.declared.Counts.{Counts}

-- the part whose groups are shown
pub record PartOf (operations operation r : ℕ) : Type 0 where
  pub inside : r < 1 + 2 * operations
  pub own : operation < operations → r ≡ 2 + 2 * operation
  pub first : operations ≤ operation → r ≡ 0

-- both states, before and after. A number out of range has the empty binding (part_tests/specs/PartsByNumber), of which no slot holds anything
pub record ShownStates (d : Dossier) (x : Bindings) (σ : List ℤ) (r : Counts) : Type 0 where
  pub abstractly : Holding σ 0 (abstract_at d x.a)
  pub concretely : Holding σ 8 (concrete_at d x.c)
  pub concretely_after : Holding σ 22 (concrete_at d x.k)
  pub abstractly_after : Holding σ 30 (abstract_at d x.b)
  pub abstracts : r.va ≡ length (unprimed d d.abstract)
  pub concretes : r.vc ≡ length (unprimed d d.concrete)

pub record ShownParameters (d : Dossier) (op : Operation) (x : Bindings) (σ : List ℤ) (r : Counts) : Type 0 where
  pub inward : Holding σ 16 (input_at d op x.i)
  pub outward : Holding σ 19 (output_at d op x.o)
  pub inputs_are : r.vi ≡ length (inputs d op)
  pub outputs_are : r.vo ≡ length (outputs d op)

-- of every dossier whose groups stand in the arrays
pub record Shown (table groups : List ℕ) (operations operation : ℕ) (x : Bindings) (σ : List ℤ) (r : Counts) : Type 0 where
  pub states : (d : Dossier) → GroupsOf table groups d → operations ≡ length d.operations → ShownStates d x σ r
  pub parameters : (d : Dossier) (op : Operation) → GroupsOf table groups d → operations ≡ length d.operations → get_elem? d.operations operation ≡ some op
      → ShownParameters d op x σ r
  pub no_parameters : operations ≤ operation → (r.vi ≡ 0) × (r.vo ≡ 0)
