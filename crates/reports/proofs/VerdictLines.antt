-- What a search over all places says of the report's lines.
use mathlib.Core.Path.{◌≡◌, refl, sym, ap, ◌∙◌}
use Rattle.std.specs.Prelude.{Option, is_some}
use mathlib.Core.Bool.{Bool, true, false, cond}
use mathlib.Core.List.{List, [], ◌++◌}
use Prim.Native.Nat.{ℕ, suc, ◌<◌, ◌-◌}
use native.Mathlib.Omega.{arith}
use lib.ListN.{length, take, drop}
use lib.Seq.{take_all}
use Rattle.lexical.specs.Lists.{bytes}
use Rattle.form.specs.Tree.{Dossier}
use Rattle.obligations.specs.Subjects.{subject_of}
use Rattle.obligations.specs.Order.{initialises, obligation_of, checks, total, Look, look}
use Rattle.obligations.specs.Report.{check_at, witness_lines, refuted_line, count_line, verdict_lines}
use Rattle.obligations.proofs.Looks.{First, look-first, look-whole}
use Rattle.labels.specs.ReadingsReadings.{ReadingOf}
use Rattle.parts.specs.SearchPromises.{came_to, SearchAnswers}
use Rattle.parts.proofs.Stops.{looks-at}

abbrev pub came : (at : ℕ) (failed : Bool) → Look
came at failed = record { count = cond failed (suc at) at; failed = failed }

-- a search from the first place up to the last one is a look over all checks
all-checks : (d : Dossier) (all : ℕ) → all ≡ total (subject_of d) → take (all - 0) (drop 0 (checks (subject_of d))) ≡ checks (subject_of d)
unfolding total
all-checks d all e = take_all (all - 0) (checks (subject_of d)) (let f : length (checks (subject_of d)) ≡ all = sym e in omega arith)

less_zero : (n : ℕ) → n - 0 ≡ n
less_zero n = omega arith

pub whole-look : {table rows firsts groups : List ℕ} {operations all : ℕ} (failing : Option ℕ) (d : Dossier)
    → SearchAnswers table rows firsts groups operations 0 all failing → ReadingOf table rows firsts groups d → operations ≡ length d.operations → all ≡ total (subject_of d)
    → look (subject_of d) (checks (subject_of d)) ≡ came (came_to all all failing) (is_some failing)
whole-look {all = all} failing d w r m e =
    ap (look (subject_of d)) (sym (all-checks d all e)) ∙ looks-at w d r m (omega arith) e refl ∙ ap (λ (n : ℕ). came n (is_some failing)) (less_zero (came_to all all failing))

-- where it failed, the place is one of the order
pub failed-inside : (d : Dossier) (at : ℕ) → look (subject_of d) (checks (subject_of d)) ≡ came at true → at < total (subject_of d)
unfolding total
failed-inside d at e = go (look-first (subject_of d) (initialises []) (checks (subject_of d)) (ap (λ (l : Look). l.failed) e))
  where
    go : First (subject_of d) (initialises []) (checks (subject_of d)) (look (subject_of d) (checks (subject_of d))) → at < length (checks (subject_of d))
    go f =
        let c : suc at ≡ suc f.0 = sym (ap (λ (l : Look). l.count) e) ∙ f.1 in
        let h : f.0 < length (checks (subject_of d)) = f.2 in
        omega arith

-- where it did not fail, all places were looked at
pub accepted-whole : (d : Dossier) (at : ℕ) → look (subject_of d) (checks (subject_of d)) ≡ came at false → at ≡ total (subject_of d)
unfolding total
accepted-whole d at e =
    sym (ap (λ (l : Look). l.count) e) ∙ (look-whole (subject_of d) (initialises []) (checks (subject_of d)) (ap (λ (l : Look). l.failed) e)).0

-- the lines of a check that is refuted at a place, and of an accepted one
pub refuted-lines : (d : Dossier) (at : ℕ) → look (subject_of d) (checks (subject_of d)) ≡ came at true
    → verdict_lines (subject_of d) (look (subject_of d) (checks (subject_of d)))
    ≡ refuted_line d (obligation_of (check_at (subject_of d) at)) ++ witness_lines (subject_of d) (check_at (subject_of d) at) ++ count_line (suc at)
unfolding verdict_lines
refuted-lines d at e = ap (verdict_lines (subject_of d)) e

pub accepted-lines : (d : Dossier) (at : ℕ) → look (subject_of d) (checks (subject_of d)) ≡ came at false
    → verdict_lines (subject_of d) (look (subject_of d) (checks (subject_of d))) ≡ bytes "accepted\n" ++ count_line at
unfolding verdict_lines
accepted-lines d at e = ap (verdict_lines (subject_of d)) e
