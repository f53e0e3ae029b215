-- A part is set up by its number: what is asked of the cells and the sizes, and that both are those of every dossier whose groups stand in the arrays. Assumes nothing.
use mathlib.Core.Path.{◌≡◌, subst}
use mathlib.Core.List.{List}
use mathlib.Core.Option.{some}
use Prim.Native.Nat.{ℕ, ◌+◌, ◌*◌, ◌<◌}
use native.Mathlib.Omega.{arith}
use lib.ListN.{length, get_elem?}
use Rattle.form.specs.Tree.{Operation, Dossier}
use Rattle.static_rules.specs.Scope.{unprimed, inputs, outputs}
use Rattle.meaning.proofs.Places.{below-entry}
use Rattle.plans.specs.declared.Part.{Part}
use Rattle.part_setup.specs.SetupPromises.{StatesAsked, StatesSet, OperationAsked, OperationSet, OpeningPartIs}
use Rattle.part_setup.specs.SetupPromises.{OperationCounts, ApplicabilityPartIs, CorrectnessPartIs}
use Rattle.part_setup.proofs.AskedParts as part
use Rattle.part_places.specs.Places.{GroupsOf, PartAsked, PartSet}

module _ {table groups : List ℕ} {d : Dossier} (G : GroupsOf table groups d) where
  operation-counts : (j : ℕ) (op : Operation) → get_elem? d.operations j ≡ some op → {cells : List ℕ} → OperationSet table groups (18 + 8 * j) cells
      → OperationCounts groups (18 + 8 * j) cells (unprimed d d.abstract) (unprimed d d.concrete) (inputs d op) (outputs d op)
  operation-counts j op listed s = part.operation-counts G.abstracts G.concretes (G.inputs_at j op listed) (G.outputs_at j op listed) s

-- ---- asked

module _ {table groups : List ℕ} {k : ℕ} (a : PartAsked table groups k) where
  pub states-asked : StatesAsked table groups
  states-asked = part.states-asked a.groups_are.abstracts a.groups_are.concretes

  module _ (j : ℕ) (h : j < length a.dossier.operations) where
    pub operation-asked : OperationAsked table groups (18 + 8 * j)
    operation-asked =
        let t : (op : Operation) × (get_elem? a.dossier.operations j ≡ some op) = below-entry a.dossier.operations j h in
        part.operation-asked a.groups_are.abstracts a.groups_are.concretes (omega (arith, a.groups_are.operations)) (a.groups_are.inputs_at j t.0 t.1) (a.groups_are.outputs_at j t.0 t.1)

  -- its operation is one of the dossier's
  pub applicability-low : (j : ℕ) → k ≡ 1 + 2 * j → j < length a.dossier.operations
  applicability-low j e = omega (arith, a.inside)

  pub correctness-low : (j : ℕ) → k ≡ 2 + 2 * j → j < length a.dossier.operations
  correctness-low j e = omega (arith, a.inside)

-- ---- promised

-- by the operation's number
set_at : {table groups cells : List ℕ} {n j : ℕ} → OperationSet table groups (18 + 8 * n) cells → n ≡ j → OperationSet table groups (18 + 8 * j) cells
set_at {table} {groups} {cells} s e = subst (λ (m : ℕ). OperationSet table groups (18 + 8 * m) cells) e s

module _ {table groups cells : List ℕ} {k : ℕ} {p : Part} where
  pub opening-set : k ≡ 0 → StatesSet table groups cells → OpeningPartIs groups cells p → PartSet table groups k cells p
  opening-set h s i = record {
    opening = λ d G e.
        let c = part.opening-counts G.abstracts G.concretes s in
        (c.cells_are, i.is (unprimed d d.abstract) (unprimed d d.concrete) c);
    applying = λ d G j op listed e. absurd (omega arith);
    correcting = λ d G j op listed e. absurd (omega arith);
  }

  module _ (n : ℕ) (s : OperationSet table groups (18 + 8 * n) cells) where
    pub applicability-set : k ≡ 1 + 2 * n → ApplicabilityPartIs groups (18 + 8 * n) cells p → PartSet table groups k cells p
    applicability-set r i = record {
      opening = λ d G e. absurd (omega arith);
      applying = λ d G j op listed e.
          let m : n ≡ j = omega arith in
          let c = operation-counts G j op listed (set_at s m) in
          (c.cells_are, (subst (λ (x : ℕ). ApplicabilityPartIs groups (18 + 8 * x) cells p) m i).is (unprimed d d.abstract) (unprimed d d.concrete) (inputs d op) (outputs d op) c);
      correcting = λ d G j op listed e. absurd (omega arith);
    }

    pub correctness-set : k ≡ 2 + 2 * n → CorrectnessPartIs groups (18 + 8 * n) cells p → PartSet table groups k cells p
    correctness-set r i = record {
      opening = λ d G e. absurd (omega arith);
      applying = λ d G j op listed e. absurd (omega arith);
      correcting = λ d G j op listed e.
          let m : n ≡ j = omega arith in
          let c = operation-counts G j op listed (set_at s m) in
          (c.cells_are, (subst (λ (x : ℕ). CorrectnessPartIs groups (18 + 8 * x) cells p) m i).is (unprimed d d.abstract) (unprimed d d.concrete) (inputs d op) (outputs d op) c);
    }
