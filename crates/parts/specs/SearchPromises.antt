-- What the search over all parts promises: for every dossier whose reading the arrays are, it looks at the checks of document 01's order one after the other, up to the first that fails.
use Rattle.std.specs.Prelude.{◌≡◌, Bool, cond, Option, None, IfSome, is_some, List, ℕ, suc, ◌+◌, ◌-◌, ◌*◌, ◌<◌, ◌≤◌, min, length, take, drop}
use Rattle.form.specs.Tree.{Dossier}
use Rattle.plans.specs.declared.Part.{Part}
use Rattle.plans.specs.PlanPromises.{InitialisationPlan, ApplicabilityPlan, CorrectnessPlan}
use Rattle.nest.specs.NestStepsPartTests.{PartTests, places, passing, stopped_at, Looked}
use Rattle.nest.specs.NestStepsNestPromises.{Groups, Nest}
use Rattle.obligations.specs.Subjects.{subject_of}
use Rattle.obligations.specs.Order.{passes, checks, total, look}
use Rattle.obligations.specs.Report.{check_at}
use Rattle.part_setup.specs.PartTestsPartOrder.{part_size, part_begin}
use Rattle.part_setup.specs.ReadingsReadings.{ReadingOf}
use Rattle.part_setup.specs.SetupPromises.{FirstValues, StatesSet, OperationSet, OpeningPartIs, ApplicabilityPartIs, CorrectnessPartIs}

-- how many places from `from` on were looked at, up to `at`; a failing one there too
abbrev pub counted : (from at : ℕ) → Bool → ℕ
counted from at failed = cond failed (suc (at - from)) (at - from)

-- where a search up to `end` stops, of so many places in all
abbrev pub came_to : (end all : ℕ) → Option ℕ → ℕ
came_to end all failing = stopped_at (min end all) failing

-- one part, by its tests
pub record PartAsked (table plan cells : List ℕ) (p : Part) : Type 0 where
  pub groups : Groups
  pub tests : PartTests
  pub nest : Nest table plan cells p groups tests
  pub first_values : FirstValues cells

pub record PartAnswers (table plan cells : List ℕ) (p : Part) (from end size : ℕ) (failing : Option ℕ) : Type 0 where
  pub size_is : size ≡ places p
  pub past : size ≤ from → failing ≡ None
  pub looked : from < size → (G : Groups) (T : PartTests) → Nest table plan cells p G T
      → Looked (passing p T) from (min end size) (stopped_at (min end size) failing) (is_some failing)

-- the k-th part of a check, counted from where it begins
pub record LookAsked (table rows firsts groups : List ℕ) (k : ℕ) : Type 0 where
  pub dossier : Dossier
  pub reading : ReadingOf table rows firsts groups dossier
  pub part : k < 1 + 2 * length dossier.operations

-- the plan, the cells and the sizes that are made for initialisation, for applicability and correctness of operation j
pub record OpeningReady (table rows firsts groups plan cells : List ℕ) (p : Part) : Type 0 where
  pub cells_set : StatesSet table groups cells
  pub part_is : OpeningPartIs groups cells p
  pub plan_is : InitialisationPlan rows firsts plan

pub record ApplicabilityReady (table rows firsts groups : List ℕ) (j : ℕ) (plan cells : List ℕ) (p : Part) : Type 0 where
  pub cells_set : OperationSet table groups (18 + 8 * j) cells
  pub part_is : ApplicabilityPartIs groups (18 + 8 * j) cells p
  pub plan_is : ApplicabilityPlan rows firsts plan j (p.readying.variables - p.abstracts.variables)

pub record CorrectnessReady (table rows firsts groups : List ℕ) (j : ℕ) (plan cells : List ℕ) (p : Part) : Type 0 where
  pub cells_set : OperationSet table groups (18 + 8 * j) cells
  pub part_is : CorrectnessPartIs groups (18 + 8 * j) cells p
  pub plan_is : CorrectnessPlan rows firsts plan j p.outputs.variables

-- the k-th part of a dossier's check, as the nest goes through it
pub record PartFor (table plan cells : List ℕ) (p : Part) (d : Dossier) (k : ℕ) : Type 0 where
  pub groups : Groups
  pub tests : PartTests
  pub nest : Nest table plan cells p groups tests
  pub many : places p ≡ part_size d k
  pub same : (q : ℕ) → q < part_size d k → passing p tests q ≡ passes (subject_of d) (check_at (subject_of d) (part_begin d k + q))

pub record PartReady (table rows firsts groups : List ℕ) (k : ℕ) (plan cells : List ℕ) (p : Part) : Type 0 where
  pub first_values : FirstValues cells
  pub is_part : (d : Dossier) → ReadingOf table rows firsts groups d → k < 1 + 2 * length d.operations → PartFor table plan cells p d k

pub record LookAnswers (table rows firsts groups : List ℕ) (k from end size : ℕ) (failing : Option ℕ) : Type 0 where
  pub size_is : (d : Dossier) → ReadingOf table rows firsts groups d → k < 1 + 2 * length d.operations → size ≡ part_size d k
  pub past : size ≤ from → failing ≡ None
  pub looked : (d : Dossier) → ReadingOf table rows firsts groups d → k < 1 + 2 * length d.operations → from < size
      → Looked (λ (q : ℕ). passes (subject_of d) (check_at (subject_of d) (part_begin d k + q))) from (min end size) (stopped_at (min end size) failing) (is_some failing)

-- all of them
pub record SearchAsked (table rows firsts groups : List ℕ) (operations from : ℕ) : Type 0 where
  pub dossier : Dossier
  pub reading : ReadingOf table rows firsts groups dossier
  pub many : operations ≡ length dossier.operations
  pub inside : from ≤ total (subject_of dossier)

-- "Advance by n looks at the next n bindings": how many were looked at from `from` on, and whether the last one failed. The search stops at the failing binding if there is one, else at
-- its end or at that of the check
pub record SearchAnswers (table rows firsts groups : List ℕ) (operations from end : ℕ) (failing : Option ℕ) : Type 0 where
  pub low : IfSome failing (λ (at : ℕ). from ≤ at)
  pub looks : (d : Dossier) → ReadingOf table rows firsts groups d → operations ≡ length d.operations → from ≤ total (subject_of d)
      → look (subject_of d) (take (end - from) (drop from (checks (subject_of d))))
      ≡ record { count = counted from (stopped_at (min end (total (subject_of d))) failing) (is_some failing); failed = is_some failing }

-- the same by the place where it stopped, at the end too
pub record SearchStops (table rows firsts groups : List ℕ) (operations from end at : ℕ) (failing : Option ℕ) : Type 0 where
  pub low : from ≤ at
  pub looks : (d : Dossier) → ReadingOf table rows firsts groups d → operations ≡ length d.operations → from ≤ total (subject_of d)
      → look (subject_of d) (take (end - from) (drop from (checks (subject_of d)))) ≡ record { count = counted from at (is_some failing); failed = is_some failing }
