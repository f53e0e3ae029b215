-- Which part of a check a place belongs to, and how many places there are, over the reader's groups. Nothing here need be believed.
use Rattle.std.specs.Prelude.{◌≡◌, List, ℕ, ◌+◌, ◌*◌, ◌<◌, ◌≤◌, length}
use Rattle.std.proofs.Math.Option.{some}
use Rattle.std.proofs.Math.ListN.{get_elem?}
use Rattle.form.specs.Tree.{Operation, Dossier}
use Rattle.static_rules.specs.Scope.{unprimed, inputs, outputs}
use Rattle.plans.specs.declared.Part.{Part}
use Rattle.obligations.specs.Subjects.{subject_of}
use Rattle.obligations.specs.Order.{total}
use Rattle.part_setup.specs.PartTestsPartGroups.{StateCells, OperationCells, opening_part, applicability_part, correctness_part}
use Rattle.part_setup.specs.PartTestsPartOrder.{part_size, part_begin}
use Rattle.part_setup.specs.ReadingsReadings.{GroupAt}

-- the groups of a dossier's variables stand in the table and in the groups
pub record GroupsOf (table groups : List ℕ) (d : Dossier) : Type 0 where
  pub abstracts : GroupAt table groups 0 (unprimed d d.abstract) 8 4096
  pub concretes : GroupAt table groups 9 (unprimed d d.concrete) 8 4096
  pub operations : length d.operations ≤ 16
  pub inputs_at : (j : ℕ) (op : Operation) → get_elem? d.operations j ≡ some op → GroupAt table groups (18 + 8 * j) (inputs d op) 3 64
  pub outputs_at : (j : ℕ) (op : Operation) → get_elem? d.operations j ≡ some op → GroupAt table groups (18 + 8 * j + 4) (outputs d op) 3 64

abbrev pub parts : Dossier → ℕ
parts d = 1 + 2 * length d.operations

-- asked of a part by its number
pub record PartAsked (table groups : List ℕ) (k : ℕ) : Type 0 where
  pub dossier : Dossier
  pub groups_are : GroupsOf table groups dossier
  pub inside : k < parts dossier

-- the cells and the sizes of the k-th part
pub record PartSet (table groups : List ℕ) (k : ℕ) (cells : List ℕ) (p : Part) : Type 0 where
  pub opening : (d : Dossier) → GroupsOf table groups d → k ≡ 0
      → StateCells cells (unprimed d d.abstract) (unprimed d d.concrete) × (p ≡ opening_part (unprimed d d.abstract) (unprimed d d.concrete))
  pub applying : (d : Dossier) → GroupsOf table groups d → (j : ℕ) (op : Operation) → get_elem? d.operations j ≡ some op → k ≡ 1 + 2 * j
      → OperationCells cells (unprimed d d.abstract) (unprimed d d.concrete) (inputs d op) (outputs d op)
      × (p ≡ applicability_part (unprimed d d.abstract) (unprimed d d.concrete) (inputs d op) (outputs d op))
  pub correcting : (d : Dossier) → GroupsOf table groups d → (j : ℕ) (op : Operation) → get_elem? d.operations j ≡ some op → k ≡ 2 + 2 * j
      → OperationCells cells (unprimed d d.abstract) (unprimed d d.concrete) (inputs d op) (outputs d op)
      × (p ≡ correctness_part (unprimed d d.abstract) (unprimed d d.concrete) (inputs d op) (outputs d op))

-- how many places the k-th part has
pub record SizeIs (table groups : List ℕ) (k r : ℕ) : Type 0 where
  pub is : (d : Dossier) → GroupsOf table groups d → k < parts d → r ≡ part_size d k

-- asked of all parts
pub record AllAsked (table groups : List ℕ) (operations : ℕ) : Type 0 where
  pub dossier : Dossier
  pub groups_are : GroupsOf table groups dossier
  pub many : operations ≡ length dossier.operations

pub record TotalIs (table groups : List ℕ) (operations r : ℕ) : Type 0 where
  pub is : (d : Dossier) → GroupsOf table groups d → operations ≡ length d.operations → r ≡ total (subject_of d)

-- a place of the order
pub record PlaceAsked (table groups : List ℕ) (operations place : ℕ) : Type 0 where
  pub all : AllAsked table groups operations
  pub inside : place < total (subject_of all.dossier)

-- its part, and its place there
pub record PlaceFound (table groups : List ℕ) (operations place part at : ℕ) : Type 0 where
  pub within : (d : Dossier) → GroupsOf table groups d → operations ≡ length d.operations → place < total (subject_of d) → part < parts d
  pub low : (d : Dossier) → GroupsOf table groups d → operations ≡ length d.operations → place < total (subject_of d) → at < part_size d part
  pub is : (d : Dossier) → GroupsOf table groups d → operations ≡ length d.operations → place < total (subject_of d) → place ≡ part_begin d part + at
