-- For every case of an enum answer of the calls: document 01's number and values.
use Rattle.std.specs.Prelude.{ℕ, Result, Ok, Err}
use Rattle.refusals.specs.Refusals.{number_of, something_held}
use Rattle.refusals.specs.RefusalNames.{refusal_is, fault_is}
use Rattle.refusals.specs.declared.Refusal.{Refusal}
use Rattle.obligations.specs.Order as order
use Rattle.obligations.specs.Calls as calls
use Rattle.held_checks.specs.declared.Obligation as obligation
use Rattle.held_checks.specs.declared.Obligation.TheVariants.{Initialisation, Applicability, Correctness}
use Rattle.held_checks.specs.declared.Verdict as verdict
use Rattle.held_checks.specs.declared.Verdict.TheVariants.{Unfinished, Accepted, Refuted}
use Rattle.held_checks.specs.declared.LoadRefusal.{LoadRefusal}
use Rattle.held_checks.specs.declared.LoadRefusal.TheVariants.{Faulty, SomethingHeld}

-- an answer: "Each returns its number, 1 to 14 also the place"; or what the call returns
pub data Answer : Type 0 where
  refused : (number : ℕ) → Answer
  refused_at : (number place : ℕ) → Answer
  loaded dropped : Answer
  looked : (count : ℕ) → Answer
  verdict_is : calls.Verdict → Answer
  written : (length : ℕ) → Answer

-- that of a reply of `respond`
abbrev pub answer_to : calls.Reply → Answer
answer_to (calls.refused_at f) = refused_at (number_of f.refusal) f.place
answer_to (calls.refused r) = refused (number_of r)
answer_to calls.loaded = loaded
answer_to (calls.looked n) = looked n
answer_to (calls.verdict_is v) = verdict_is v
answer_to (calls.written n) = written n
answer_to calls.dropped = dropped

-- "A refuted verdict carries its obligation and, for the last two, the operation."
abbrev pub obligation_is : obligation.Obligation → order.Obligation
obligation_is Initialisation = order.initialisation
obligation_is (Applicability k) = order.applicability k
obligation_is (Correctness k) = order.correctness k

abbrev pub verdict_of : verdict.Verdict → calls.Verdict
verdict_of Unfinished = calls.unfinished
verdict_of Accepted = calls.accepted
verdict_of (Refuted o) = calls.refuted (obligation_is o)

-- a refused call
abbrev pub refusal_answer : Refusal → Answer
refusal_answer r = refused (number_of (refusal_is r))

abbrev pub load_answer : Result (Unit {0}) LoadRefusal → Answer
load_answer (Ok u) = loaded
load_answer (Err (Faulty f)) = refused_at (number_of (fault_is f).refusal) (fault_is f).place
load_answer (Err SomethingHeld) = refused (number_of something_held)

abbrev pub advance_answer : Result ℕ Refusal → Answer
advance_answer (Ok n) = looked n
advance_answer (Err r) = refusal_answer r

abbrev pub verdict_answer : Result verdict.Verdict Refusal → Answer
verdict_answer (Ok v) = verdict_is (verdict_of v)
verdict_answer (Err r) = refusal_answer r

abbrev pub witness_answer : Result ℕ Refusal → Answer
witness_answer (Ok n) = written n
witness_answer (Err r) = refusal_answer r
