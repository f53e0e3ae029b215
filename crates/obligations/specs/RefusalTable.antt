-- Document 01, "Refusals that come from the input" and "from the state": which call is refused with what, a row for each sentence.
use Rattle.std.specs.Prelude.{Bool, true, false, not, ◌&&◌, ◌||◌, List, [], ◌∷◌, ℕ, pred, eqb, ltb, length}
use Rattle.std.proofs.Math.Option.{Option, none, some}
use Rattle.refusals.specs.Refusals.{advance_range, short_bytes, nothing_held, something_held, check_finished, no_counterexample}
use Rattle.static_rules.specs.Read.{Reading, refusal, reading, read}
use Rattle.obligations.specs.Report.{check_at, witness_lines}
use Rattle.obligations.specs.Calls.{unfinished, accepted, refuted, Held, nothing, holding, Call, load, advance, verdict, witness, release, Reply, refused_at, refused, loaded, looked, verdict_is, written, dropped}

-- tests of the held check
abbrev pub is_nothing : Held → Bool
is_nothing nothing = true
is_nothing (holding σ p v) = false

abbrev pub is_finished : Held → Bool
is_finished nothing = false
is_finished (holding σ p unfinished) = false
is_finished (holding σ p accepted) = true
is_finished (holding σ p (refuted o)) = true

abbrev pub is_refuted : Held → Bool
is_refuted nothing = false
is_refuted (holding σ p unfinished) = false
is_refuted (holding σ p accepted) = false
is_refuted (holding σ p (refuted o)) = true

-- tests of the call
abbrev pub is_load : Call → Bool
is_load (load t) = true
is_load (advance n) = false
is_load verdict = false
is_load (witness b) = false
is_load release = false

abbrev pub is_advance : Call → Bool
is_advance (load t) = false
is_advance (advance n) = true
is_advance verdict = false
is_advance (witness b) = false
is_advance release = false

abbrev pub is_verdict : Call → Bool
is_verdict (load t) = false
is_verdict (advance n) = false
is_verdict verdict = true
is_verdict (witness b) = false
is_verdict release = false

abbrev pub is_witness : Call → Bool
is_witness (load t) = false
is_witness (advance n) = false
is_witness verdict = false
is_witness (witness b) = true
is_witness release = false

-- a row: the refusal, where the test says so
abbrev pub when : Bool → Reply → Option Reply
when true r = some r
when false r = none

-- 21. "Nothing held: advance, verdict, witness."
abbrev pub row21 : Held → Call → Option Reply
row21 h c = when (is_nothing h && (is_advance c || is_verdict c || is_witness c)) (refused nothing_held)

-- 22. "Something held: load."
abbrev pub row22 : Held → Call → Option Reply
row22 h c = when (not (is_nothing h) && is_load c) (refused something_held)

-- 23. "Check finished: advance."
abbrev pub row23 : Held → Call → Option Reply
row23 h c = when (is_finished h && is_advance c) (refused check_finished)

-- 24. "No counterexample found so far, or accepted: witness."
abbrev pub row24 : Held → Call → Option Reply
row24 h c = when (not (is_refuted h) && is_witness c) (refused no_counterexample)

-- 1 to 14, "also the place": the fault of the text that `read` finds
abbrev pub fault_in : Reading → Option Reply
fault_in (refusal f) = some (refused_at f)
fault_in (reading d) = none

abbrev pub rows1to14 : Call → Option Reply
rows1to14 (load t) = fault_in (read t)
rows1to14 (advance n) = none
rows1to14 verdict = none
rows1to14 (witness b) = none
rows1to14 release = none

-- 15. "Advance by 0 or over 1,000,000,000."
abbrev pub stride : Call → ℕ
stride (load t) = 0
stride (advance n) = n
stride verdict = 0
stride (witness b) = 0
stride release = 0

abbrev pub row15 : Call → Option Reply
row15 c = when (is_advance c && (eqb (stride c) 0 || ltb 1000000000 (stride c))) (refused advance_range)

-- 16. "Lent bytes shorter than the witness.": the lines of the binding looked at last
abbrev pub lent_to : Call → List ℕ
lent_to (load t) = []
lent_to (advance n) = []
lent_to verdict = []
lent_to (witness b) = b
lent_to release = []

abbrev pub witness_of : Held → List ℕ
witness_of nothing = []
witness_of (holding σ p v) = witness_lines σ (check_at σ (pred p))

abbrev pub row16 : Held → Call → Option Reply
row16 h c = when (is_witness c && ltb (length (lent_to c)) (length (witness_of h))) (refused short_bytes)

-- the first row that refuses
unfoldable pub first_of : List (Option Reply) → Option Reply
first_of [] = none
first_of (none ∷ rs) = first_of rs
first_of (some r ∷ rs) = some r

-- "State refusals come before input refusals, in the order above."
abbrev pub expected : Held → Call → Option Reply
expected h c = first_of (row21 h c ∷ row22 h c ∷ row23 h c ∷ row24 h c ∷ rows1to14 c ∷ row15 c ∷ row16 h c ∷ [])

-- a reply, if it is a refusal
abbrev pub refusal_in : Reply → Option Reply
refusal_in (refused_at f) = some (refused_at f)
refusal_in (refused r) = some (refused r)
refusal_in loaded = none
refusal_in (looked n) = none
refusal_in (verdict_is v) = none
refusal_in (written n) = none
refusal_in dropped = none
