-- Advance: what is asked of the search, and what its answer says of the call. Assumes nothing.
use mathlib.Core.Path.{◌≡◌, refl, sym, ap, ap₂, ◌∙◌, subst}
use Rattle.std.specs.Prelude.{Option, None, Some, is_some, unwrap_or, min}
use mathlib.Core.Bool.{Bool, true, false, cond, ◌&&◌, ◌||◌}
use mathlib.Core.List.{List, []}
use Prim.Native.Nat.{ℕ, suc, ◌+◌, ◌-◌, ◌<◌, ◌≤◌, ◌^◌}
use native.Mathlib.Omega.{arith}
use native.Mathlib.Decide.{dec_lt}
use lib.Dec.{eqb, leb, ltb}
use lib.ListN.{length, take, drop}
use borrow.Author.Tests.{eq-eqb, ne_eqb, lt-ltb, le-ltb}
use Rattle.lexical.proofs.RangeTests.{inside_range, outside_range}
use Rattle.refusals.specs.Refusals.{number_of, advance_range}
use Rattle.obligations.specs.Subjects.{Subject, subject_of}
use Rattle.obligations.specs.Order.{Check, initialises, checks, total, Look, look}
use Rattle.obligations.specs.Calls as calls
use Rattle.obligations.specs.Calls.{unfinished, Held, holding, advance, outcome, verdict_at, advanced, advancing, respond}
use Rattle.obligations.proofs.Looks.{look-whole, look-first}
use Rattle.obligations.proofs.Advances.{next-length}
use Rattle.parts.specs.SearchPromises.{came_to, SearchAsked, SearchAnswers}
use Rattle.parts.proofs.Stops.{looks-at, stops_low}
use Rattle.parts.proofs.ReadingSizes.{reading_small}
use Rattle.held_checks.specs.HeldBytes.{bytes_of, held_text, verdict_marked, held_by}
use Rattle.held_checks.specs.Answers.{refused, looked}
use Rattle.held_checks.specs.CallPromises.{Responds}
use Rattle.held_checks.specs.StepPromises.{place_after, mark_after}
use Rattle.held_checks.specs.BytePromises.{Turned}
use Rattle.checker.specs.OpenPromises.{Opened}
use Rattle.checker.proofs.MarkLaws.{fits-unfinished, mark-is}
use Rattle.checker.proofs.CallLaws.{responds, refuses, held-as}

-- "Advance by 0 or over 1,000,000,000.", and what else it comes to
advancing-as : (σ : Subject) (p n : ℕ) {t : Bool} → (eqb n 0 || ltb 1000000000 n) ≡ t
    → advancing σ p n ≡ cond t (outcome (calls.refused advance_range) (holding σ p unfinished) []) (advanced σ p (look σ (take n (drop p (checks σ)))))
unfolding advancing
advancing-as σ p n e = ap (λ (t : Bool). cond t (outcome (calls.refused advance_range) (holding σ p unfinished) []) (advanced σ p (look σ (take n (drop p (checks σ)))))) e

in-range : (n : ℕ) → (leb 1 n && leb n 1000000000) ≡ true → (eqb n 0 || ltb 1000000000 n) ≡ false
in-range n h = let i = inside_range {x = n} {low = 1} {high = 1000000000} h in ap₂ ◌||◌ (ne_eqb n 0 (λ e. absurd (omega (arith, i.0)))) (le-ltb 1000000000 n i.1)

over-range : (n : ℕ) → (leb 1 n && leb n 1000000000) ≡ false → (eqb n 0 || ltb 1000000000 n) ≡ true
over-range n h = elim (dec_lt 0 n) [
  | yes l ↦ ap₂ ◌||◌ (ne_eqb n 0 (λ e. absurd (omega arith))) (lt-ltb 1000000000 n (outside_range {x = n} {low = 1} {high = 1000000000} h l))
  | no l ↦ ap (λ (b : Bool). b || ltb 1000000000 n) (eq-eqb n 0 (omega arith))
]

-- a look from one place to another
abbrev look-to : (p at : ℕ) → Bool → Look
look-to p at failed = record { count = cond failed (suc (at - p)) (at - p); failed = failed }

-- where a search stops, in the words of the code
pub stop-is : (end all : ℕ) (failing : Option ℕ) {at m : ℕ} → at ≡ unwrap_or failing m → m ≡ min end all → at ≡ came_to end all failing
stop-is end all None e f = e ∙ f
stop-is end all (Some x) e f = e

-- how many were looked at, from the place that the search came to
count_is : (p at : ℕ) (failed : Bool) → p ≤ at → p + cond failed (suc (at - p)) (at - p) ≡ place_after failed at
count_is p at true h = omega arith
count_is p at false h = omega arith

least-of : (m n : ℕ) (failed : Bool) → cond failed (suc m) m ≤ n → m ≤ n
least-of m n true h = omega arith
least-of m n false h = h

-- a look is over no more checks than there are
look-most : (σ : Subject) (xs : List Check) → (look σ xs).count ≤ length xs
look-most σ xs = on (look σ xs).failed refl
  where
    on : (t : Bool) → (look σ xs).failed ≡ t → (look σ xs).count ≤ length xs
    on true q = let f = look-first σ (initialises []) xs q in omega (arith, f.1, f.2)
    on false q = omega (arith, (look-whole σ (initialises []) xs q).0)

advanced-is : (σ : Subject) (p at place : ℕ) (failed : Bool) → p ≤ at → place_after failed at ≡ place
    → advanced σ p record { count = cond failed (suc (at - p)) (at - p); failed = failed } ≡ outcome (calls.looked (place - p)) (holding σ place (verdict_at σ place failed)) []
unfolding advanced
advanced-is σ p at place failed h e =
    let s : p + cond failed (suc (at - p)) (at - p) ≡ place = count_is p at failed h ∙ e in
    let c : cond failed (suc (at - p)) (at - p) ≡ place - p = omega (arith, s) in
    ap₂ (λ (m k : ℕ). outcome (calls.looked m) (holding σ k (verdict_at σ k failed)) []) c s

module _ {b text table rows firsts groups labels : List ℕ} {mark place operations all : ℕ} (o : Opened b text table rows firsts groups labels mark place operations all) (one : mark ≡ 1) where
  abbrev σ : Subject
  σ = subject_of o.dossier

  is-advancing : (n : ℕ) → respond (held_by b) (advance n) ≡ advancing σ place n
  unfolding respond verdict_marked
  is-advancing n = ap (λ (h : Held). respond h (advance n)) (held-as o one)

  pub advance-outside : (n : ℕ) → (leb 1 n && leb n 1000000000) ≡ false → Responds b (advance n) b [] (refused (number_of advance_range))
  advance-outside n h = refuses advance_range (holding σ place unfinished) (is-advancing n ∙ advancing-as σ place n (over-range n h)) refl refl

  place-low : place < total σ
  place-low = omega (arith, o.all_is, fits-unfinished all place mark o.fits one)

  -- the search is asked from the place on
  pub search-asked : SearchAsked table rows firsts groups operations place
  search-asked = record { dossier = o.dossier; reading = o.arrays; many = o.many; inside = omega (arith, place-low) }

  pub place-small : place < 2 ^ 53
  place-small = omega (arith, place-low, reading_small o.arrays)

  module _ (n : ℕ) {at end : ℕ} {failing : Option ℕ} {failed : Bool} (inside : (leb 1 n && leb n 1000000000) ≡ true) (is : end ≡ place + n) (w : SearchAnswers table rows firsts groups operations place end failing)
      (stop : at ≡ came_to end all failing) (came : is_some failing ≡ failed) where
    -- the search stops no earlier than where it began
    pub looked-least : place ≤ at
    looked-least = stops_low failing w (omega (arith, (inside_range {x = n} {low = 1} {high = 1000000000} inside).0)) (omega (arith, o.all_is, place-low)) stop

    looks : look σ (take n (drop place (checks σ))) ≡ record { count = cond failed (suc (at - place)) (at - place); failed = failed }
    looks =
        let s : end - place ≡ n = omega arith in
        ap (λ (k : ℕ). look σ (take k (drop place (checks σ)))) (sym s) ∙ looks-at w o.dossier o.arrays o.many (omega (arith, place-low)) o.all_is stop ∙ ap (look-to place at) came

    -- the search stops no later than asked
    pub looked-most : at ≤ place + n
    looked-most =
        let c : (look σ (take n (drop place (checks σ)))).count ≤ n = omega (arith, look-most σ (take n (drop place (checks σ))), next-length σ place n) in
        let s : cond failed (suc (at - place)) (at - place) ≤ n = subst (λ (l : Look). l.count ≤ n) looks c in
        let m : at - place ≤ n = least-of (at - place) n failed s in
        omega (arith, m)

    pub advance-looked : {after : List ℕ} {r : ℕ} → Turned b (place_after failed at) (mark_after failed all (place_after failed at)) after → r ≡ place_after failed at - place
        → Responds b (advance n) after [] (looked r)
    advance-looked m e =
        let next : ℕ = place_after failed at in
        responds (outcome (calls.looked (next - place)) (holding σ next (verdict_at σ next failed)) [])
        (is-advancing n ∙ advancing-as σ place n (in-range n inside) ∙ ap (advanced σ place) looks ∙ advanced-is σ place at next failed looked-least refl)
        (ap looked e)
        (m.is (held_text b) place mark o.short o.bytes ∙ ap (bytes_of (held_text b) next) (mark-is σ next o.all_is failed))
        refl
