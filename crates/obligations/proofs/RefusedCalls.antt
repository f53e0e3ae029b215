-- Demand 1: each call is refused as the table says, and a refused call leaves the held check and the lent bytes as they were. Assumes nothing.
use mathlib.Core.Path.{◌≡◌, refl, sym, ◌∙◌}
use mathlib.Core.Bool.{Bool, true, false, cond, ◌||◌}
use mathlib.Core.List.{List, [], ◌∷◌}
use mathlib.Core.Option.{Option, none, some}
use Prim.Native.Nat.{ℕ}
use lib.Dec.{eqb, ltb}
use lib.ListN.{length}
use Rattle.refusals.specs.Refusals.{advance_range, short_bytes}
use Rattle.static_rules.specs.Read.{Reading, refusal, reading, read}
use Rattle.obligations.specs.Subjects.{Subject}
use Rattle.obligations.specs.Order.{Obligation}
use Rattle.obligations.specs.Calls.{unfinished, accepted, refuted, Held, nothing, holding, Call, load, advance, verdict, witness, release, Reply, refused, Outcome, loading, advanced, advancing, writing, respond}
use Rattle.obligations.specs.RefusalTable.{when, fault_in, row15, first_of, expected, refusal_in, lent_to}
use Rattle.obligations.specs.CallDemands.{IsRefusal}
use Rattle.obligations.specs.Demands.{Demand1}
use Rattle.lexical.proofs.BooleanTests.{on-cond}

-- "each in exactly the case written there": the inputs' refusals, where no row of the state refuses
load-exactly : (r : Reading) → refusal_in (loading r).reply ≡ first_of (fault_in r ∷ none ∷ none ∷ [])
unfolding loading first_of
load-exactly (refusal f) = refl
load-exactly (reading d) = refl

by-test : (t : Bool) (x y : Outcome) (r : Reply) (rs : List (Option Reply)) → refusal_in x.reply ≡ some r → refusal_in y.reply ≡ none → first_of rs ≡ none
    → refusal_in (cond t x y).reply ≡ first_of (when t r ∷ rs)
unfolding first_of
by-test true x y r rs e f g = e
by-test false x y r rs e f g = f ∙ sym g

advance-exactly : (σ : Subject) (p n : ℕ) → refusal_in (advancing σ p n).reply ≡ first_of (row15 (advance n) ∷ none ∷ [])
unfolding advancing advanced first_of
advance-exactly σ p n = by-test (eqb n 0 || ltb 1000000000 n) _ _ (refused advance_range) (none ∷ []) refl refl refl

witness-exactly : (σ : Subject) (p : ℕ) (o : Obligation) (lines lent : List ℕ)
    → refusal_in (writing σ p o lines lent).reply ≡ first_of (when (ltb (length lent) (length lines)) (refused short_bytes) ∷ [])
unfolding writing first_of
witness-exactly σ p o lines lent = by-test (ltb (length lent) (length lines)) _ _ (refused short_bytes) [] refl refl refl

exactly : (h : Held) (c : Call) → refusal_in (respond h c).reply ≡ expected h c
unfolding respond first_of
exactly nothing (load t) = load-exactly (read t)
exactly nothing (advance n) = refl
exactly nothing verdict = refl
exactly nothing (witness b) = refl
exactly nothing release = refl
exactly (holding σ p v) (load t) = refl
exactly (holding σ p unfinished) (advance n) = advance-exactly σ p n
exactly (holding σ p accepted) (advance n) = refl
exactly (holding σ p (refuted o)) (advance n) = refl
exactly (holding σ p unfinished) verdict = refl
exactly (holding σ p accepted) verdict = refl
exactly (holding σ p (refuted o)) verdict = refl
exactly (holding σ p unfinished) (witness b) = refl
exactly (holding σ p accepted) (witness b) = refl
exactly (holding σ p (refuted o)) (witness b) = witness-exactly σ p o _ b
exactly (holding σ p unfinished) release = refl
exactly (holding σ p accepted) release = refl
exactly (holding σ p (refuted o)) release = refl

-- nothing but a reply came of the call
abbrev Unchanged : Outcome → Held → List ℕ → Type 0
Unchanged o h b = IsRefusal o.reply → (o.held ≡ h) × (o.lent ≡ b)

load-refused : (r : Reading) → Unchanged (loading r) nothing []
unfolding loading
load-refused (refusal f) i = (refl, refl)
load-refused (reading d) i = absurd i

advance-refused : (σ : Subject) (p n : ℕ) → Unchanged (advancing σ p n) (holding σ p unfinished) []
unfolding advancing advanced
advance-refused σ p n = on-cond (λ (o : Outcome). Unchanged o (holding σ p unfinished) []) (eqb n 0 || ltb 1000000000 n) _ _ (λ i. (refl, refl)) (λ i. absurd i)

witness-refused : (σ : Subject) (p : ℕ) (o : Obligation) (lines lent : List ℕ) → Unchanged (writing σ p o lines lent) (holding σ p (refuted o)) lent
unfolding writing
witness-refused σ p o lines lent =
    on-cond (λ (r : Outcome). Unchanged r (holding σ p (refuted o)) lent) (ltb (length lent) (length lines)) _ _ (λ i. (refl, refl)) (λ i. absurd i)

-- "A refused call changes neither the held check nor one byte of a lent buffer."
unchanged : (h : Held) (c : Call) → IsRefusal (respond h c).reply → ((respond h c).held ≡ h) × ((respond h c).lent ≡ lent_to c)
unfolding respond
unchanged nothing (load t) i = load-refused (read t) i
unchanged nothing (advance n) i = (refl, refl)
unchanged nothing verdict i = (refl, refl)
unchanged nothing (witness b) i = (refl, refl)
unchanged nothing release i = absurd i
unchanged (holding σ p v) (load t) i = (refl, refl)
unchanged (holding σ p unfinished) (advance n) i = advance-refused σ p n i
unchanged (holding σ p accepted) (advance n) i = (refl, refl)
unchanged (holding σ p (refuted o)) (advance n) i = (refl, refl)
unchanged (holding σ p v) verdict i = absurd i
unchanged (holding σ p unfinished) (witness b) i = (refl, refl)
unchanged (holding σ p accepted) (witness b) i = (refl, refl)
unchanged (holding σ p (refuted o)) (witness b) i = witness-refused σ p o _ b i
unchanged (holding σ p v) release i = absurd i

pub demand_1 : Demand1
demand_1 = record { exactly = exactly; unchanged = unchanged }
