-- The loop over the parts of a check: where it stands, how it goes on, and what it has found where it ends. Assumes nothing.
use Rattle.std.specs.Prelude.{Option, None, Some, is_some}
use mathlib.Core.Path.{◌≡◌, refl, sym, ap, ap₂, ◌∙◌, subst}
use mathlib.Core.Bool.{true, false}
use mathlib.Core.List.{List}
use Prim.Native.Nat.{ℕ, ◌+◌, ◌-◌, ◌*◌, ◌<◌, ◌≤◌, ◌^◌, min, max}
use native.Mathlib.Omega.{arith}
use native.Mathlib.Decide.{dec_lt}
use lib.ListN.{length}
use Rattle.form.specs.Tree.{Dossier}
use Rattle.obligations.specs.Subjects.{subject_of}
use Rattle.obligations.specs.Order.{Look, total}
use Rattle.nest.specs.NestStepsPartTests.{stopped_at, Looked}
use Rattle.part_setup.specs.PartTestsPartOrder.{part_size, part_begin}
use Rattle.part_setup.specs.ReadingsReadings.{ReadingOf}
use Rattle.part_setup.proofs.PartTestsLookedChecks.{passes_place, looked-look, looked-none}
use Rattle.parts.specs.SearchPromises.{LookAsked, LookAnswers, SearchAsked, SearchAnswers, SearchStops}
use Rattle.parts.proofs.PartOrderLaws.{first-begin, next-begin, all_end, part-within}
use Rattle.parts.proofs.ReadingSizes.{reading_small}
use Rattle.parts.proofs.SearchSteps.{Continued, continued}

-- at the head of the loop, for every dossier whose reading the arrays are: the k-th part begins at `begin`, all places from `from` up to `at` pass; only where the search came to its end
-- can `at` stand before `begin`
pub record Gone (table rows firsts groups : List ℕ) (operations from end k begin at : ℕ) : Type 0 where
  pub within : k ≤ 1 + 2 * operations
  pub low : from ≤ at
  pub high : at ≤ end
  pub behind : at < end → begin ≤ at
  pub begins : (d : Dossier) → ReadingOf table rows firsts groups d → operations ≡ length d.operations → begin ≡ part_begin d k
  pub inside : (d : Dossier) → ReadingOf table rows firsts groups d → operations ≡ length d.operations → from ≤ total (subject_of d) → at ≤ total (subject_of d)
  pub passed : (d : Dossier) → ReadingOf table rows firsts groups d → operations ≡ length d.operations → from ≤ total (subject_of d)
      → Looked (passes_place (subject_of d)) from at at false

-- the part that is asked next
pub part-asked : {table rows firsts groups : List ℕ} {operations from : ℕ} (k : ℕ) → k < 1 + 2 * operations → SearchAsked table rows firsts groups operations from
    → LookAsked table rows firsts groups k
part-asked k h a = record { dossier = a.dossier; reading = a.reading; part = omega (arith, a.many) }

pub operations-low : {table rows firsts groups : List ℕ} {operations from : ℕ} → SearchAsked table rows firsts groups operations from → operations ≤ 16
operations-low a = omega (arith, a.many, a.reading.operations)

pub unfinished : {table rows firsts groups : List ℕ} {operations from end k begin at : ℕ} → Gone table rows firsts groups operations from end k begin at → (at ≡ end → ⊥)
    → at < end
unfinished {end = end} {at = at} i e = let n : at ≡ end → ⊥ = e in omega (arith, i.high)

-- where the search of one part came to that went up to n: at m or n where all passed, else at the failing place
abbrev come_to : (m n : ℕ) → Option ℕ → ℕ
come_to m n None = max m n
come_to m n (Some q) = q

come-past : (m n : ℕ) {failing : Option ℕ} → n ≤ m → failing ≡ None → (come_to m n failing ≡ m) × (is_some failing ≡ false)
come-past m n h e = subst (λ (r : Option ℕ). (come_to m n r ≡ m) × (is_some r ≡ false)) (sym e) (omega arith, refl)

come-through : (m n : ℕ) → m ≤ n → (failing : Option ℕ) → stopped_at n failing ≡ come_to m n failing
come-through m n h None = omega arith
come-through m n h (Some q) = refl

-- what is looked at where all passes
abbrev passed-look : (from at : ℕ) → Look
passed-look from at = record { count = at - from; failed = false }

module _ {table rows firsts groups : List ℕ} {operations from end : ℕ} where
  pub gone-start : {k begin at : ℕ} → from ≤ end → k ≡ 0 → begin ≡ 0 → at ≡ from → Gone table rows firsts groups operations from end k begin at
  gone-start h ek eb ea = record {
    within = omega arith;
    low = omega arith;
    high = omega arith;
    behind = λ l. omega arith;
    begins = λ d g m. eb ∙ sym (first-begin d) ∙ ap (part_begin d) (sym ek);
    inside = λ d g m l. omega arith;
    passed = λ d g m l. subst (λ (n : ℕ). Looked (passes_place (subject_of d)) from n n false) (sym ea) (looked-none (passes_place (subject_of d)) from);
  }

  module _ {k begin at size : ℕ} {failing : Option ℕ} (i : Gone table rows firsts groups operations from end k begin at)
      (w : LookAnswers table rows firsts groups k (at - begin) (end - begin) size failing) (lk : k < 1 + 2 * operations) (le : at < end) where
    -- where this part's search stopped, counted from where the part begins
    abbrev r : ℕ
    r = come_to (at - begin) (min (end - begin) size) failing

    -- what the part comes to, for a dossier
    step : (d : Dossier) → ReadingOf table rows firsts groups d → operations ≡ length d.operations → from ≤ total (subject_of d)
        → Continued (passes_place (subject_of d)) from end (total (subject_of d)) (begin + size) (begin + r) (is_some failing)
    step d g m l =
        let part : k < 1 + 2 * length d.operations = omega arith in
        let b : begin ≡ part_begin d k = i.begins d g m in
        let s : size ≡ part_size d k = w.size_is d g part in
        continued (passes_place (subject_of d)) from end (total (subject_of d)) begin size at r (i.passed d g m l) (i.behind le) le
        (omega (arith, b, s, part-within d k part)) (i.inside d g m l) (is_some failing)
        (λ h. come-past (at - begin) (min (end - begin) size) (omega arith) (w.past h))
        (λ h. subst (λ (n : ℕ). Looked (λ (q : ℕ). passes_place (subject_of d) (begin + q)) (at - begin) (min (end - begin) size) n (is_some failing))
        (come-through (at - begin) (min (end - begin) size) (omega arith) failing)
        (subst (λ (n : ℕ). Looked (λ (q : ℕ). passes_place (subject_of d) (n + q)) (at - begin) (min (end - begin) size) (stopped_at (min (end - begin) size) failing) (is_some failing)) (sym b)
        (w.looked d g part h)))

    module _ (a : SearchAsked table rows firsts groups operations from) where
      first : Continued (passes_place (subject_of a.dossier)) from end (total (subject_of a.dossier)) (begin + size) (begin + r) (is_some failing)
      first = step a.dossier a.reading a.many a.inside

      -- a failing place stands before the end of the search, and the part ends among the places of the check
      pub step-high : {place : ℕ} → failing ≡ Some place → begin + place ≤ end
      step-high {place} e = subst (λ (r : Option ℕ). begin + come_to (at - begin) (min (end - begin) size) r ≤ end) e first.high

      pub step_small : begin + size < 2 ^ 53
      step_small =
          omega (
            arith,
            i.begins a.dossier a.reading a.many,
            w.size_is a.dossier a.reading (omega (arith, a.many)),
            part-within a.dossier k (omega (arith, a.many)),
            reading_small a.reading,
          )

      pub gone-on : {next to : ℕ} → failing ≡ None → next ≡ k + 1 → to ≡ max at (min end (begin + size))
          → Gone table rows firsts groups operations from end next (begin + size) to
      gone-on {next} {to} f e u = subst (Gone table rows firsts groups operations from end next (begin + size)) s onward
        where
          passed : is_some failing ≡ false
          passed = ap is_some f

          s : begin + r ≡ to
          s = ap (λ (r : Option ℕ). begin + come_to (at - begin) (min (end - begin) size) r) f ∙ (let lb : begin ≤ at = i.behind le in omega arith)

          onward : Gone table rows firsts groups operations from end next (begin + size) (begin + r)
          onward = record {
            within = omega arith;
            low = first.low;
            high = first.high;
            behind = first.behind passed;
            begins = λ d g m. ap₂ ◌+◌ (i.begins d g m) (w.size_is d g (omega (arith, m))) ∙ sym (next-begin d k) ∙ ap (part_begin d) (sym e);
            inside = λ d g m l. (step d g m l).inside;
            passed = λ d g m l. (step d g m l).onward passed;
          }

      -- a binding fails
      pub gone-failed : {place : ℕ} → failing ≡ Some place → SearchAnswers table rows firsts groups operations from end (Some (begin + place))
      gone-failed {place} f = record {
        low = subst (λ (n : ℕ). from ≤ n) s first.low;
        looks = λ d g m l. looked-look (subject_of d) from (end - from) (min end (total (subject_of d))) (begin + place) true l (omega (arith, i.low, i.high))
            (subst (λ (n : ℕ). Looked (passes_place (subject_of d)) from (min end (total (subject_of d))) n true) s ((step d g m l).stopped (ap is_some f)));
      }
        where
          s : begin + r ≡ begin + place
          s = ap (λ (r : Option ℕ). begin + come_to (at - begin) (min (end - begin) size) r) f

      -- and there it stops
      pub failed-stops : {place : ℕ} → failing ≡ Some place → SearchStops table rows firsts groups operations from end (begin + place) (Some (begin + place))
      failed-stops f = let s = gone-failed f in record { low = s.low; looks = s.looks }

  -- the search came to its end
  all-stops : (at : ℕ) → from ≤ at
      → ((d : Dossier) → ReadingOf table rows firsts groups d → operations ≡ length d.operations → from ≤ total (subject_of d) → at ≡ min end (total (subject_of d)))
      → SearchAnswers table rows firsts groups operations from end None
      → SearchStops table rows firsts groups operations from end at None
  all-stops at low ends answers = record {
    low = low;
    looks = λ d g m l. answers.looks d g m l ∙ ap (passed-look from) (sym (ends d g m l));
  }

  passed-all : (at : ℕ) → from ≤ at → at ≤ end
      → ((d : Dossier) → ReadingOf table rows firsts groups d → operations ≡ length d.operations → from ≤ total (subject_of d) → at ≡ min end (total (subject_of d)))
      → ((d : Dossier) → ReadingOf table rows firsts groups d → operations ≡ length d.operations → from ≤ total (subject_of d) → Looked (passes_place (subject_of d)) from at at false)
      → SearchAnswers table rows firsts groups operations from end None
  passed-all at low high ends passed = record {
    low = tt;
    looks = λ d g m l.
        let e : at ≡ min end (total (subject_of d)) = ends d g m l in
        looked-look (subject_of d) from (end - from) (min end (total (subject_of d))) (min end (total (subject_of d))) false l (omega arith)
        (subst (λ (n : ℕ). Looked (passes_place (subject_of d)) from n n false) e (passed d g m l));
  }

  -- where it ends before the check does
  end-is : {k begin at : ℕ} → Gone table rows firsts groups operations from end k begin at → at ≡ end
      → (d : Dossier) → ReadingOf table rows firsts groups d → operations ≡ length d.operations → from ≤ total (subject_of d) → at ≡ min end (total (subject_of d))
  end-is i e d g m l = omega (arith, i.inside d g m l)

  pub gone-end : {k begin at : ℕ} → Gone table rows firsts groups operations from end k begin at → at ≡ end → SearchAnswers table rows firsts groups operations from end None
  gone-end {at = at} i e = passed-all at i.low i.high (end-is i e) i.passed

  pub end-stops : {k begin at : ℕ} → Gone table rows firsts groups operations from end k begin at → at ≡ end → SearchStops table rows firsts groups operations from end at None
  end-stops {at = at} i e = all-stops at i.low (end-is i e) (gone-end i e)

  -- or to that of the check
  whole-is : {k begin at : ℕ} → Gone table rows firsts groups operations from end k begin at → 1 + 2 * operations ≤ k
      → (d : Dossier) → ReadingOf table rows firsts groups d → operations ≡ length d.operations → from ≤ total (subject_of d) → at ≡ min end (total (subject_of d))
  whole-is {k} {begin} {at} i h d g m l =
      let s : k ≡ 1 + 2 * length d.operations = omega (arith, i.within) in
      let b : begin ≡ total (subject_of d) = i.begins d g m ∙ ap (part_begin d) s ∙ all_end d in
      let x : at ≤ total (subject_of d) = i.inside d g m l in
      let y : at ≤ end = i.high in
      elim (dec_lt at end) [
        | yes t ↦ (let z : begin ≤ at = i.behind t in omega arith)
        | no t ↦ omega arith
      ]

  pub gone_whole : {k begin at : ℕ} → Gone table rows firsts groups operations from end k begin at → 1 + 2 * operations ≤ k
      → SearchAnswers table rows firsts groups operations from end None
  gone_whole {at = at} i h = passed-all at i.low i.high (whole-is i h) i.passed

  pub whole-stops : {k begin at : ℕ} → Gone table rows firsts groups operations from end k begin at → 1 + 2 * operations ≤ k
      → SearchStops table rows firsts groups operations from end at None
  whole-stops {at = at} i h = all-stops at i.low (whole-is i h) (gone_whole i h)
