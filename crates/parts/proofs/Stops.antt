-- Where a search that answers with the first failing place, or none, stops, and how many checks it looked at. Assumes nothing.
use Rattle.std.specs.Prelude.{Option, None, Some, is_some}
use mathlib.Core.Path.{◌≡◌, sym, ap, ◌∙◌}
use mathlib.Core.List.{List}
use Prim.Native.Nat.{ℕ, ◌-◌, ◌≤◌, min}
use native.Mathlib.Omega.{arith}
use lib.ListN.{length, take, drop}
use Rattle.form.specs.Tree.{Dossier}
use Rattle.obligations.specs.Subjects.{subject_of}
use Rattle.obligations.specs.Order.{Look, checks, total, look}
use Rattle.nest.specs.NestStepsPartTests.{stopped_at}
use Rattle.part_setup.specs.ReadingsReadings.{ReadingOf}
use Rattle.parts.specs.SearchPromises.{counted, came_to, SearchAnswers}

abbrev look-of : (from : ℕ) → Option ℕ → (at : ℕ) → Look
look-of from failing at = record { count = counted from at (is_some failing); failed = is_some failing }

pub looks-at : {table rows firsts groups : List ℕ} {operations from end all at : ℕ} {failing : Option ℕ} → SearchAnswers table rows firsts groups operations from end failing → (d : Dossier)
    → ReadingOf table rows firsts groups d → operations ≡ length d.operations → from ≤ total (subject_of d) → all ≡ total (subject_of d) → at ≡ came_to end all failing
    → look (subject_of d) (take (end - from) (drop from (checks (subject_of d)))) ≡ record { count = counted from at (is_some failing); failed = is_some failing }
looks-at {from = from} {end} {failing = failing} w d r m h e s =
    w.looks d r m h
    ∙ ap (look-of from failing) (sym (s ∙ ap (λ (n : ℕ). stopped_at (min end n) failing) e))

pub stops_low : {table rows firsts groups : List ℕ} {operations from end all at : ℕ} (failing : Option ℕ) → SearchAnswers table rows firsts groups operations from end failing → from ≤ end → from ≤ all
    → at ≡ came_to end all failing → from ≤ at
stops_low None w l h e = omega arith
stops_low (Some x) w l h e = omega (arith, w.low)
