-- The demands over the code: of every list of calls on the held bytes, from all zero on, whose steps are the very promises in the calls' `ensures` (held_checks/specs/CallPromises.Responds).
use Rattle.std.specs.Prelude.{◌≡◌, List, [], ◌∷◌, ◌++◌, ℕ, suc, ◌≤◌, ◌+◌, ◌-◌, min, length, drop}
use Rattle.lexical.specs.Lists.{bytes}
use Rattle.refusals.specs.Refusals.{Fault}
use Rattle.form.specs.Tree.{Dossier}
use Rattle.static_rules.specs.Read.{refusal, reading, read}
use Rattle.obligations.specs.Subjects.{Subject, subject_of}
use Rattle.obligations.specs.Obligations.{Obligations}
use Rattle.obligations.specs.Order.{Obligation, obligation_of, total}
use Rattle.obligations.specs.Report.{check_at, witness_lines, refuted_line, count_line, refused_line}
use Rattle.obligations.specs.Calls.{Verdict, unfinished, accepted, refuted, nothing, holding, advance, verdict, witness, respond, Exchange, Trace, held_after}
use Rattle.obligations.specs.Runs.{RunsMatch}
use Rattle.obligations.specs.RefusalTable.{lent_to, expected, refusal_in}
use Rattle.obligations.specs.CallDemands.{IsRefusal, FirstFailing, whole_count, verdict_after, none, text, last_loaded, Reached}
use Rattle.obligations.specs.Demands.{acceptance}
use Rattle.held_checks.specs.HeldBytes.{none_held, held_by}
use Rattle.held_checks.specs.Answers.{Answer, looked, verdict_is, written, answer_to}
use Rattle.held_checks.specs.CallPromises.{Responds}
use Rattle.reports.specs.ReportPromises.{Reported}

-- one call: the bytes before and after it, its answer by document 01's numbers, and the lent bytes after it
abbrev pub Step : (before : List ℕ) → Exchange → (after : List ℕ) → Type 0
Step before x after = Responds before x.call after x.lent (answer_to x.reply)

-- "Each call gets the held check as the last one left it, and nobody else writes it."
pub data Steps : (before : List ℕ) → List Exchange → (after : List ℕ) → Type 0 where
  no_call : {b : List ℕ} → Steps b [] b
  one_call : {b c e : List ℕ} {x : Exchange} {xs : List Exchange} → Step b x c → Steps c xs e → Steps b (x ∷ xs) e

-- Demand 1: "gives either a result or one of the numbered refusals of document 01, each in exactly the case written there. A refused call changes neither the held check nor one byte of a
-- lent buffer.": for all contents of the held bytes
pub record CodeDemand1 : Type 0 where
  pub exactly : (b : List ℕ) (x : Exchange) (c : List ℕ) → Step b x c → refusal_in x.reply ≡ expected (held_by b) x.call
  pub unchanged : (b : List ℕ) (x : Exchange) (c : List ℕ) → Step b x c → IsRefusal x.reply → (c ≡ b) × (x.lent ≡ lent_to x.call)

-- "Witness writes one line per variable .. into lent bytes from their start, returns the length, touches no byte after it.": after the bytes e, into the bytes b, of the first failing check
pub record Witnessed (e b c lent : List ℕ) (n : ℕ) : Type 0 where
  pub subject : Subject
  pub place : ℕ
  pub held : held_by e ≡ holding subject (suc place) (refuted (obligation_of (check_at subject place)))
  pub first : FirstFailing subject place
  pub kept : c ≡ e
  pub long : n ≡ length (witness_lines subject (check_at subject place))
  pub lines : lent ≡ witness_lines subject (check_at subject place) ++ drop n b

-- the report: "The first line names obligation and operation; the next give the binding in search order; the last is the count over the whole check.", from its promise alone
pub record CodeReports : Type 0 where
  pub refused : (t before after : List ℕ) (r : ℕ) → Reported t before after r → (f : Fault) → read t ≡ refusal f → after ≡ refused_line f ++ drop r before
  pub accepted : (t before after : List ℕ) (r : ℕ) → Reported t before after r → (d : Dossier) → read t ≡ reading d → Obligations (subject_of d)
      → after ≡ bytes "accepted\n" ++ count_line (total (subject_of d)) ++ drop r before
  pub refuted : (t before after : List ℕ) (r : ℕ) → Reported t before after r → (d : Dossier) → read t ≡ reading d → (q : ℕ) → FirstFailing (subject_of d) q
      → after ≡ refuted_line d (obligation_of (check_at (subject_of d) q)) ++ witness_lines (subject_of d) (check_at (subject_of d) q) ++ count_line (suc q) ++ drop r before

-- what a verdict says of the subject: "A dossier is accepted exactly if no binding over its carriers breaks initialisation, applicability or correctness .., and refuted exactly if one does."
pub record Decides (σ : Subject) (a : Answer) : Type 0 where
  pub accepted : a ≡ verdict_is accepted → Obligations σ
  pub refuted : (o : Obligation) → a ≡ verdict_is (refuted o) → (q : ℕ) × (FirstFailing σ q × (o ≡ obligation_of (check_at σ q)))

-- Demand 2: what is held after any list of calls, and what the calls show of it
pub record CodeDemand2 : Type 0 where
  -- the bytes that a call leaves stand for exactly the held check that `respond` leaves
  pub stands : (b : List ℕ) (x : Exchange) (c : List ℕ) → Step b x c → held_by c ≡ (respond (held_by b) x.call).held
  -- a list of calls on the bytes is one of `respond`, and ends where that does
  pub follows : (xs : List Exchange) (e : List ℕ) → Steps none_held xs e → Trace nothing xs × (held_by e ≡ held_after nothing xs)
  -- the held check agrees with one look over all checks, is that of the last loaded text, and is at the sum of the counts
  pub reached : (xs : List Exchange) (e : List ℕ) → Steps none_held xs e → Reached xs
  -- "Advance by n looks at the next n bindings, fewer if the verdict comes, and returns how many."
  pub advances : (xs : List Exchange) (e : List ℕ) → Steps none_held xs e → (σ : Subject) (p : ℕ) → held_by e ≡ holding σ p unfinished
      → (n : ℕ) → 1 ≤ n → n ≤ 1000000000 → (c lent : List ℕ) (a : Answer) → Responds e (advance n) c lent a
      → (a ≡ looked (min n (whole_count σ - p))) × (held_by c ≡ holding σ (p + min n (whole_count σ - p)) (verdict_after σ (p + min n (whole_count σ - p))))
  -- the verdict is that of the bindings looked at so far
  pub tells : (xs : List Exchange) (e : List ℕ) → Steps none_held xs e → (σ : Subject) (p : ℕ) (v : Verdict) → held_by e ≡ holding σ p v
      → (c lent : List ℕ) (a : Answer) → Responds e verdict c lent a → (a ≡ verdict_is (verdict_after σ p)) × (c ≡ e)
  -- it is accepted only where the obligations hold, and refuted only at the first binding that breaks one
  pub decides : (xs : List Exchange) (e : List ℕ) → Steps none_held xs e → (σ : Subject) (p : ℕ) (v : Verdict) → held_by e ≡ holding σ p v
      → (c lent : List ℕ) (a : Answer) → Responds e verdict c lent a → Decides σ a
  -- "The binding shown is the first in the fixed order"
  pub shows : (xs : List Exchange) (e : List ℕ) → Steps none_held xs e → (b c lent : List ℕ) (n : ℕ) → Responds e (witness b) c lent (written n) → Witnessed e b c lent n
  -- what the program prints
  pub reports : CodeReports

-- Demand 3: "Take any list of the calls ..., with any arguments, refused ones included, from nothing held on. Of every dossier that a verdict in it calls accepted, this holds"
abbrev pub CodeDemand3 : Type 0
CodeDemand3 = (xs : List Exchange) (e : List ℕ) → Steps none_held xs e
    → (earlier later : List Exchange) → xs ≡ earlier ++ (acceptance ∷ later)
    → (t : List ℕ) × ((d : Dossier) × ((last_loaded none earlier ≡ text t) × (read t ≡ reading d) × RunsMatch d))
