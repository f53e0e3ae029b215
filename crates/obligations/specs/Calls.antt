-- Document 01, "Calls": load, advance, verdict, witness and drop, as one function from held check and call to reply, held check and lent bytes.
use Rattle.std.specs.Prelude.{◌≡◌, Bool, true, false, cond, ◌||◌, List, [], ◌∷◌, ◌++◌, ℕ, pred, ◌+◌, eqb, leb, ltb, length, take, drop}
use Rattle.refusals.specs.Refusals.{Refusal, Fault, advance_range, short_bytes, nothing_held, something_held, check_finished, no_counterexample}
use Rattle.static_rules.specs.Read.{Reading, refusal, reading, read}
use Rattle.obligations.specs.Subjects.{Subject, subject_of}
use Rattle.obligations.specs.Order.{Obligation, obligation_of, checks, total, Look, look}
use Rattle.obligations.specs.Report.{check_at, witness_lines}

-- "A refuted verdict carries its obligation and, for the last two, the operation."
pub data Verdict : Type 0 where
  unfinished accepted : Verdict
  refuted : Obligation → Verdict

-- what is checked, how many of its bindings have been looked at, and the verdict so far
pub data Held : Type 0 where
  nothing : Held
  holding : Subject → (place : ℕ) → Verdict → Held

pub data Call : Type 0 where
  load : (text : List ℕ) → Call
  advance : (n : ℕ) → Call
  verdict : Call
  witness : (lent : List ℕ) → Call
  release : Call

pub data Reply : Type 0 where
  refused_at : Fault → Reply
  refused : Refusal → Reply
  loaded : Reply
  looked : (count : ℕ) → Reply
  verdict_is : Verdict → Reply
  written : (length : ℕ) → Reply
  dropped : Reply

-- what a call answers and leaves: the held check, and the bytes lent to be written
pub record Outcome : Type 0 where
  pub reply : Reply
  pub held : Held
  pub lent : List ℕ

abbrev pub outcome : Reply → Held → List ℕ → Outcome
outcome r h b = record { reply = r; held = h; lent = b }

-- "Load a text": "nothing held changes" where it is refused
unfoldable pub loading : Reading → Outcome
loading (refusal f) = outcome (refused_at f) nothing []
loading (reading d) = outcome loaded (holding (subject_of d) 0 unfinished) []

-- "The verdict is unfinished until the last binding, or the first failing one, has been looked at.": at the place p, after a look
unfoldable pub verdict_at : Subject → (p : ℕ) → Bool → Verdict
verdict_at σ p true = refuted (obligation_of (check_at σ (pred p)))
verdict_at σ p false = cond (leb (total σ) p) accepted unfinished

-- "Advance by n looks at the next n bindings, fewer if the verdict comes, and returns how many."
unfoldable pub advanced : Subject → (p : ℕ) → Look → Outcome
advanced σ p l = outcome (looked l.count) (holding σ (p + l.count) (verdict_at σ (p + l.count) l.failed)) []

-- 15. "Advance by 0 or over 1,000,000,000."
unfoldable pub advancing : Subject → (p n : ℕ) → Outcome
advancing σ p n = cond (eqb n 0 || ltb 1000000000 n) (outcome (refused advance_range) (holding σ p unfinished) []) (advanced σ p (look σ (take n (drop p (checks σ)))))

-- "into lent bytes from their start, returns the length, touches no byte after it"; 16. "Lent bytes shorter than the witness."
unfoldable pub writing : Subject → (p : ℕ) → Obligation → (lines lent : List ℕ) → Outcome
writing σ p o lines lent =
    cond (ltb (length lent) (length lines)) (outcome (refused short_bytes) (holding σ p (refuted o)) lent)
    (outcome (written (length lines)) (holding σ p (refuted o)) (lines ++ drop (length lines) lent))

-- 21 to 24, "State refusals come before input refusals, in the order above."
unfoldable pub respond : Held → Call → Outcome
respond nothing (load text) = loading (read text)
respond nothing (advance n) = outcome (refused nothing_held) nothing []
respond nothing verdict = outcome (refused nothing_held) nothing []
respond nothing (witness b) = outcome (refused nothing_held) nothing b
respond nothing release = outcome dropped nothing []
respond (holding σ p v) (load text) = outcome (refused something_held) (holding σ p v) []
respond (holding σ p unfinished) (advance n) = advancing σ p n
respond (holding σ p accepted) (advance n) = outcome (refused check_finished) (holding σ p accepted) []
respond (holding σ p (refuted o)) (advance n) = outcome (refused check_finished) (holding σ p (refuted o)) []
respond (holding σ p v) verdict = outcome (verdict_is v) (holding σ p v) []
respond (holding σ p unfinished) (witness b) = outcome (refused no_counterexample) (holding σ p unfinished) b
respond (holding σ p accepted) (witness b) = outcome (refused no_counterexample) (holding σ p accepted) b
respond (holding σ p (refuted o)) (witness b) = writing σ p o (witness_lines σ (check_at σ (pred p))) b
respond (holding σ p v) release = outcome dropped nothing []

-- a call, its reply, and the lent bytes after it
pub record Exchange : Type 0 where
  pub call : Call
  pub reply : Reply
  pub lent : List ℕ

-- lists of calls: "Each call gets the held check as the last one left it, and nobody else writes it."
unfoldable pub Trace : Held → List Exchange → Type 0
Trace h [] = Unit {0}
Trace h (x ∷ xs) = ((respond h x.call).reply ≡ x.reply) × ((respond h x.call).lent ≡ x.lent) × Trace (respond h x.call).held xs

unfoldable pub held_after : Held → List Exchange → Held
held_after h [] = h
held_after h (x ∷ xs) = held_after (respond h x.call).held xs
