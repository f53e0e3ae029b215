-- What the steps of the calls that need no text promise: a text laid, the place and the mark after a search, what verdict answers by a mark, the obligation of a part. Nothing here need be believed.
use Rattle.std.specs.Prelude.{◌≡◌, Bool, cond, ℕ, ◌+◌, ◌*◌, eqb, leb, Option, Some, None}
use Rattle.obligations.specs.Order.{initialisation, applicability, correctness}
use Rattle.obligations.specs.Calls.{unfinished, accepted}
use Rattle.held_checks.specs.declared.Obligation.{Obligation}
use Rattle.held_checks.specs.declared.Verdict.{Verdict}
use Rattle.held_checks.specs.declared.Mark.{Mark}
use Rattle.held_checks.specs.declared.Mark.TheVariants.{Unfinished, Accepted, Refuted}
use Rattle.held_checks.specs.Answers.{Answer, refused, verdict_is, obligation_is, verdict_of}

-- the byte of a mark
abbrev pub mark_byte : Mark → ℕ
mark_byte Unfinished = 1
mark_byte Accepted = 2
mark_byte Refuted = 3

-- the mark of a byte; any other byte is of none
pub record NoMark (byte : ℕ) : Type 0 where
  pub not_one : byte ≡ 1 → ⊥
  pub not_two : byte ≡ 2 → ⊥
  pub not_three : byte ≡ 3 → ⊥

abbrev pub Marks : (byte : ℕ) → Option Mark → Type 0
Marks byte (Some m) = byte ≡ mark_byte m
Marks byte None = NoMark byte

-- the place after a search that stopped at one: behind the binding that failed, if one did
abbrev pub place_after : (failed : Bool) (at : ℕ) → ℕ
place_after failed at = cond failed (at + 1) at

-- the mark there
abbrev pub mark_after : (failed : Bool) (all place : ℕ) → ℕ
mark_after failed all place = cond failed 3 (cond (leb all place) 2 1)

-- the verdict of a mark; that of 3 speaks of an obligation
abbrev pub Tells : (mark : ℕ) → Option Verdict → Type 0
Tells m (Some v) = (m ≡ 1 → verdict_of v ≡ unfinished) × (m ≡ 2 → verdict_of v ≡ accepted) × (m ≡ 3 → ⊥)
Tells m None = m ≡ 3

-- the answer of verdict by the mark, where it is not that of a refuted check
abbrev pub told_by : (mark : ℕ) → Answer
told_by m = cond (eqb m 0) (refused 21) (cond (eqb m 1) (verdict_is unfinished) (verdict_is accepted))

-- the obligation of a part by its number
pub record PartTold (part : ℕ) (r : Obligation) : Type 0 where
  pub opening : part ≡ 0 → obligation_is r ≡ initialisation
  pub applying : (j : ℕ) → part ≡ 1 + 2 * j → obligation_is r ≡ applicability j
  pub correcting : (j : ℕ) → part ≡ 2 + 2 * j → obligation_is r ≡ correctness j
