-- What is asked where a part of a dossier's check is set up: the cells of its variables, the sizes of its groups, the rows of its predicates. Assumes nothing.
use mathlib.Core.Path.{◌≡◌, sym, subst}
use mathlib.Core.List.{List}
use mathlib.Core.Option.{some}
use Prim.Native.Nat.{ℕ, ◌+◌, ◌-◌, ◌*◌, ◌<◌, ◌≤◌}
use native.Mathlib.Omega.{arith}
use lib.ListN.{length, get_elem?, replicate}
use Rattle.form.specs.Tree.{Operation, Dossier}
use Rattle.static_rules.specs.Carriers.{Variable}
use Rattle.static_rules.specs.Scope.{unprimed, inputs, outputs}
use Rattle.meaning.proofs.Places.{entry-below, below-entry}
use Rattle.plans.specs.declared.Part.{Part}
use Rattle.plans.specs.PlanPromises.{CommonRows, OperationRows}
use Rattle.part_setup.specs.PartTestsPartGroups.{applicability_part, correctness_part}
use Rattle.part_setup.specs.ReadingsReadings.{ReadingOf}
use Rattle.nest.proofs.MemoMemos.{all-zero}
use Rattle.part_searches.proofs.NestParts.{common-rows, operation-rows}
use Rattle.part_setup.specs.SetupPromises.{Blank, StatesAsked, OperationAsked, OperationSet, OperationCounts, ApplicabilityPartIs, CorrectnessPartIs}
use Rattle.part_setup.proofs.AskedParts as part
use Rattle.parts.specs.SearchPromises.{LookAsked, PartReady}

-- the cells before anything is written
pub blank : (n : ℕ) → Blank (replicate n 0)
blank n = record { each = all-zero n }

-- a part by another name of its number
module _ {table rows firsts groups : List ℕ} {k m : ℕ} where
  pub asked-as : LookAsked table rows firsts groups k → k ≡ m → LookAsked table rows firsts groups m
  asked-as a e = subst (LookAsked table rows firsts groups) e a

  pub ready-as : {plan cells : List ℕ} {p : Part} → PartReady table rows firsts groups m plan cells p → k ≡ m → PartReady table rows firsts groups k plan cells p
  ready-as {plan} {cells} {p} r e = subst (λ (n : ℕ). PartReady table rows firsts groups n plan cells p) (sym e) r

-- ---- initialisation

module _ {table rows firsts groups : List ℕ} {k : ℕ} (a : LookAsked table rows firsts groups k) where
  pub opening-cells-asked : StatesAsked table groups
  opening-cells-asked = part.states-asked a.reading.abstracts a.reading.concretes

  pub opening-rows : CommonRows rows firsts
  opening-rows = common-rows a.reading.tests

-- ---- an operation's parts

-- operation j of a dossier whose reading the arrays are
pub record OperationLook (table rows firsts groups : List ℕ) (j : ℕ) : Type 0 where
  pub dossier : Dossier
  pub operation : Operation
  pub reading : ReadingOf table rows firsts groups dossier
  pub listed : get_elem? dossier.operations j ≡ some operation

looked-operation : {table rows firsts groups : List ℕ} (j : ℕ) (d : Dossier) → ReadingOf table rows firsts groups d → j < length d.operations
    → OperationLook table rows firsts groups j
looked-operation j d R h =
    let t : (op : Operation) × (get_elem? d.operations j ≡ some op) = below-entry d.operations j h in
    record { dossier = d; operation = t.0; reading = R; listed = t.1 }

module _ {table rows firsts groups : List ℕ} (j : ℕ) where
  pub applicability-look : LookAsked table rows firsts groups (1 + 2 * j) → OperationLook table rows firsts groups j
  applicability-look a = looked-operation j a.dossier a.reading (omega (arith, a.part))

  pub correctness-look : LookAsked table rows firsts groups (2 + 2 * j) → OperationLook table rows firsts groups j
  correctness-look a = looked-operation j a.dossier a.reading (omega (arith, a.part))

module _ {table rows firsts groups : List ℕ} {j : ℕ} (x : OperationLook table rows firsts groups j) where
  abbrev pub us : List Variable
  us = unprimed x.dossier x.dossier.abstract

  abbrev pub cs : List Variable
  cs = unprimed x.dossier x.dossier.concrete

  abbrev pub is : List Variable
  is = inputs x.dossier x.operation

  abbrev pub os : List Variable
  os = outputs x.dossier x.operation

  operation-low : j < 16
  operation-low = let h = entry-below x.operation x.dossier.operations j x.listed in omega (arith, x.reading.operations)

  pub operation-cells-asked : OperationAsked table groups (18 + 8 * j)
  operation-cells-asked =
      part.operation-asked x.reading.abstracts x.reading.concretes (omega (arith, operation-low)) (x.reading.inputs_at j x.operation x.listed) (x.reading.outputs_at j x.operation x.listed)

  module _ {cells : List ℕ} (s : OperationSet table groups (18 + 8 * j) cells) where
    pub operation-counts : OperationCounts groups (18 + 8 * j) cells us cs is os
    operation-counts =
        part.operation-counts x.reading.abstracts x.reading.concretes (x.reading.inputs_at j x.operation x.listed) (x.reading.outputs_at j x.operation x.listed) s

    rows_of : OperationRows rows firsts j (length os)
    rows_of =
        operation-rows x.reading.tests x.listed x.reading.operations (x.reading.outputs_at j x.operation x.listed).short

    module _ {p : Part} where
      pub applicability-is : ApplicabilityPartIs groups (18 + 8 * j) cells p → p ≡ applicability_part us cs is os
      applicability-is q = q.is us cs is os operation-counts

      pub correctness-is : CorrectnessPartIs groups (18 + 8 * j) cells p → p ≡ correctness_part us cs is os
      correctness-is q = q.is us cs is os operation-counts

      -- how many outputs it has
      pub outputs-by-part : ApplicabilityPartIs groups (18 + 8 * j) cells p → (p.abstracts.variables ≤ p.readying.variables) × (length os ≡ p.readying.variables - p.abstracts.variables)
      outputs-by-part q =
          subst (λ (z : Part). (z.abstracts.variables ≤ z.readying.variables) × (length os ≡ z.readying.variables - z.abstracts.variables)) (sym (applicability-is q)) (omega arith, omega arith)

      pub applicability-rows : ApplicabilityPartIs groups (18 + 8 * j) cells p → OperationRows rows firsts j (p.readying.variables - p.abstracts.variables)
      applicability-rows q = subst (OperationRows rows firsts j) (outputs-by-part q).1 rows_of

      pub correctness-rows : CorrectnessPartIs groups (18 + 8 * j) cells p → OperationRows rows firsts j p.outputs.variables
      correctness-rows q = subst (λ (z : Part). OperationRows rows firsts j z.outputs.variables) (sym (correctness-is q)) rows_of
