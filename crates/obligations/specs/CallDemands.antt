-- What the calls show of a dossier's checks: advance, verdict, witness, drop and the report.
use Rattle.std.specs.Prelude.{◌≡◌, Bool, true, false, cond, List, [], ◌∷◌, ◌++◌, ℕ, suc, pred, ◌<◌, ◌≤◌, ◌+◌, ◌-◌, min, ltb, length, drop}
use Rattle.lexical.specs.Lists.{bytes}
use Rattle.refusals.specs.Refusals.{Fault}
use Rattle.form.specs.Tree.{Dossier}
use Rattle.static_rules.specs.Read.{refusal, reading, read}
use Rattle.obligations.specs.Subjects.{Subject, subject_of}
use Rattle.obligations.specs.Obligations.{Obligations}
use Rattle.obligations.specs.Order.{Obligation, obligation_of, passes, checks, total, look}
use Rattle.obligations.specs.Report.{check_at, witness_lines, refuted_line, count_line, refused_line, report}
use Rattle.obligations.specs.Calls.{Verdict, unfinished, accepted, refuted, Held, nothing, holding, Call, load, advance, verdict, witness, release, Reply, refused_at, refused, loaded, looked, verdict_is, written, dropped, outcome, respond, Exchange, Trace, held_after}

abbrev pub IsRefusal : Reply → Type 0
IsRefusal (refused_at f) = Unit {0}
IsRefusal (refused r) = Unit {0}
IsRefusal loaded = ⊥
IsRefusal (looked n) = ⊥
IsRefusal (verdict_is v) = ⊥
IsRefusal (written n) = ⊥
IsRefusal dropped = ⊥

-- "The binding shown is the first in the fixed order": the check at the place q does not pass, and every one before it does
pub record FirstFailing (σ : Subject) (q : ℕ) : Type 0 where
  pub inside : q < total σ
  pub fails : passes σ (check_at σ q) ≡ false
  pub before : (r : ℕ) → r < q → passes σ (check_at σ r) ≡ true

-- one look over all checks: "how many were looked at up to it", whether the last one failed, and the verdict after it
abbrev pub whole_count : Subject → ℕ
whole_count σ = (look σ (checks σ)).count

abbrev pub whole_fails : Subject → Bool
whole_fails σ = (look σ (checks σ)).failed

abbrev pub verdict_by : Bool → Obligation → Verdict
verdict_by true o = refuted o
verdict_by false o = accepted

abbrev pub whole_verdict : Subject → Verdict
whole_verdict σ = verdict_by (whole_fails σ) (obligation_of (check_at σ (pred (whole_count σ))))

-- "The verdict is unfinished until the last binding, or the first failing one, has been looked at.": once q bindings have been
abbrev pub verdict_after : Subject → (q : ℕ) → Verdict
verdict_after σ q = cond (ltb q (whole_count σ)) unfinished (whole_verdict σ)

-- "Load a text"
abbrev pub Loads : Type 0
Loads = (t : List ℕ) (d : Dossier) → read t ≡ reading d → respond nothing (load t) ≡ outcome loaded (holding (subject_of d) 0 unfinished) []

-- "Advance by n looks at the next n bindings, fewer if the verdict comes, and returns how many."
abbrev pub Advances : Type 0
Advances = (σ : Subject) (p n : ℕ) → p < whole_count σ → 1 ≤ n → n ≤ 1000000000
    → respond (holding σ p unfinished) (advance n)
    ≡ outcome (looked (min n (whole_count σ - p))) (holding σ (p + min n (whole_count σ - p)) (verdict_after σ (p + min n (whole_count σ - p)))) []

-- the held verdict, whatever is held
abbrev pub AnswersVerdict : Type 0
AnswersVerdict = (σ : Subject) (p : ℕ) (v : Verdict) → respond (holding σ p v) verdict ≡ outcome (verdict_is v) (holding σ p v) []

-- "Drop returns to nothing held and is never refused."
abbrev pub Drops : Type 0
Drops = (h : Held) → respond h release ≡ outcome dropped nothing []

-- what is held agrees with one look over all checks, in whatever strides it was advanced
abbrev pub Proper : Held → Type 0
Proper nothing = Unit {0}
Proper (holding σ p unfinished) = p < whole_count σ
Proper (holding σ p accepted) = (p ≡ whole_count σ) × (whole_fails σ ≡ false)
Proper (holding σ p (refuted o)) = (p ≡ whole_count σ) × (whole_fails σ ≡ true) × (o ≡ obligation_of (check_at σ (pred p)))

-- "The dossier meant is that of the last unrefused load before the verdict."
pub data Loaded : Type 0 where
  none : Loaded
  text : List ℕ → Loaded

abbrev pub after_reply : List ℕ → Reply → Loaded → Loaded
after_reply t (refused_at f) l = l
after_reply t (refused r) l = l
after_reply t loaded l = text t
after_reply t (looked n) l = l
after_reply t (verdict_is v) l = l
after_reply t (written n) l = l
after_reply t dropped l = l

abbrev pub after_call : Call → Reply → Loaded → Loaded
after_call (load t) r l = after_reply t r l
after_call (advance n) r l = l
after_call verdict r l = l
after_call (witness b) r l = l
after_call release r l = l

unfoldable pub last_loaded : Loaded → List Exchange → Loaded
last_loaded l [] = l
last_loaded l (x ∷ xs) = last_loaded (after_call x.call x.reply l) xs

-- what is held is the reading of the text t that was loaded last
abbrev pub Meant : Held → Loaded → Type 0
Meant nothing l = Unit {0}
Meant (holding σ p v) l = (t : List ℕ) × (l ≡ text t) × (read t ≡ reading σ.dossier)

-- "Counted bindings are returned by advance; their sum equals the position in the defined search order.": the sum since the last load
abbrev pub counted : Reply → ℕ → ℕ
counted (refused_at f) n = n
counted (refused r) n = n
counted loaded n = 0
counted (looked k) n = n + k
counted (verdict_is v) n = n
counted (written k) n = n
counted dropped n = n

unfoldable pub sum_of_advances : ℕ → List Exchange → ℕ
sum_of_advances n [] = n
sum_of_advances n (x ∷ xs) = sum_of_advances (counted x.reply n) xs

abbrev pub AtPlace : Held → ℕ → Type 0
AtPlace nothing n = Unit {0}
AtPlace (holding σ p v) n = n ≡ p

-- after any list of calls from nothing held on
pub record Reached (xs : List Exchange) : Type 0 where
  pub proper : Proper (held_after nothing xs)
  pub meant : Meant (held_after nothing xs) (last_loaded none xs)
  pub counts : AtPlace (held_after nothing xs) (sum_of_advances 0 xs)

-- "Witness writes one line per variable .. into lent bytes from their start, returns the length, touches no byte after it.": of the first failing check
pub record Shown (h : Held) (b : List ℕ) : Type 0 where
  pub subject : Subject
  pub place : ℕ
  pub held : h ≡ holding subject (suc place) (refuted (obligation_of (check_at subject place)))
  pub first : FirstFailing subject place
  pub answer : respond h (witness b)
      ≡ outcome (written (length (witness_lines subject (check_at subject place)))) h
      (witness_lines subject (check_at subject place) ++ drop (length (witness_lines subject (check_at subject place))) b)

abbrev pub ShowsFirst : Type 0
ShowsFirst = (xs : List Exchange) → Trace nothing xs → (b : List ℕ) → (IsRefusal (respond (held_after nothing xs) (witness b)).reply → ⊥) → Shown (held_after nothing xs) b

-- "The first line names obligation and operation; the next give the binding in search order; the last is the count over the whole check."
pub record Reports : Type 0 where
  pub refused : (t : List ℕ) (f : Fault) → read t ≡ refusal f → report t ≡ refused_line f
  pub accepted : (t : List ℕ) (d : Dossier) → read t ≡ reading d → Obligations (subject_of d) → report t ≡ bytes "accepted\n" ++ count_line (total (subject_of d))
  pub refuted : (t : List ℕ) (d : Dossier) → read t ≡ reading d → (q : ℕ) → FirstFailing (subject_of d) q
      → report t ≡ refuted_line d (obligation_of (check_at (subject_of d) q)) ++ witness_lines (subject_of d) (check_at (subject_of d) q) ++ count_line (suc q)
