-- "Counted bindings are returned by advance; their sum equals the position in the defined search order." Assumes nothing.
use mathlib.Core.Path.{◌≡◌, refl, sym, ap, subst}
use mathlib.Core.Bool.{◌||◌}
use mathlib.Core.List.{List, [], ◌∷◌}
use Prim.Native.Nat.{ℕ, ◌+◌}
use lib.Dec.{eqb, ltb}
use lib.ListN.{length}
use Rattle.static_rules.specs.Read.{Reading, refusal, reading, read}
use Rattle.obligations.specs.Subjects.{Subject}
use Rattle.obligations.specs.Order.{Obligation, Look}
use Rattle.obligations.specs.Calls.{unfinished, accepted, refuted, Held, nothing, holding, Call, load, advance, verdict, witness, release, Reply, Outcome, loading, advanced, advancing, writing, respond, Exchange, Trace, held_after}
use Rattle.obligations.specs.CallDemands.{counted, sum_of_advances, AtPlace}
use Rattle.lexical.proofs.BooleanTests.{on-cond}
use Rattle.obligations.proofs.PlainCalls.{loads}

-- the sum n before the call becomes the place that the call leaves
abbrev Counted : Outcome → ℕ → Type 0
Counted o n = AtPlace o.held (counted o.reply n)

load-counted : (t : List ℕ) (r : Reading) → read t ≡ r → (n : ℕ) → Counted (respond nothing (load t)) n
unfolding respond loading
load-counted t (refusal f) e n = subst (λ (r : Reading). Counted (loading r) n) (sym e) tt
load-counted t (reading d) e n = subst (λ (o : Outcome). Counted o n) (sym (loads t d e)) refl

look-counted : (σ : Subject) (p : ℕ) (l : Look) (n : ℕ) → n ≡ p → Counted (advanced σ p l) n
unfolding advanced
look-counted σ p l n e = ap (λ (x : ℕ). x + l.count) e

advance-counted : (σ : Subject) (p k n : ℕ) → n ≡ p → Counted (advancing σ p k) n
unfolding advancing
advance-counted σ p k n e =
    on-cond (λ (o : Outcome). Counted o n) (eqb k 0 || ltb 1000000000 k) _ _ e (look-counted σ p _ n e)

witness-counted : (σ : Subject) (p : ℕ) (o : Obligation) (lines lent : List ℕ) (n : ℕ) → n ≡ p → Counted (writing σ p o lines lent) n
unfolding writing
witness-counted σ p o lines lent n e = on-cond (λ (r : Outcome). Counted r n) (ltb (length lent) (length lines)) _ _ e e

call-counted : (h : Held) (c : Call) (n : ℕ) → AtPlace h n → Counted (respond h c) n
unfolding respond
call-counted nothing (load t) n s = load-counted t (read t) refl n
call-counted nothing (advance k) n s = tt
call-counted nothing verdict n s = tt
call-counted nothing (witness b) n s = tt
call-counted nothing release n s = tt
call-counted (holding σ p v) (load t) n s = s
call-counted (holding σ p unfinished) (advance k) n s = advance-counted σ p k n s
call-counted (holding σ p accepted) (advance k) n s = s
call-counted (holding σ p (refuted o)) (advance k) n s = s
call-counted (holding σ p v) verdict n s = s
call-counted (holding σ p unfinished) (witness b) n s = s
call-counted (holding σ p accepted) (witness b) n s = s
call-counted (holding σ p (refuted o)) (witness b) n s = witness-counted σ p o _ b n s
call-counted (holding σ p v) release n s = tt

-- from any held check on whose place the sum n stands at
sum-from : (xs : List Exchange) (h : Held) (n : ℕ) → AtPlace h n → Trace h xs → AtPlace (held_after h xs) (sum_of_advances n xs)
unfolding Trace held_after sum_of_advances
sum-from [] h n s t = s
sum-from (x ∷ xs) h n s t =
    sum-from xs (respond h x.call).held (counted x.reply n)
    (subst (λ (r : Reply). AtPlace (respond h x.call).held (counted r n)) t.0 (call-counted h x.call n s)) t.2

-- over every list of calls from nothing held on: the counts that advance returned since the last load add up to the place
pub sum-of-advances : (xs : List Exchange) → Trace nothing xs → AtPlace (held_after nothing xs) (sum_of_advances 0 xs)
sum-of-advances xs t = sum-from xs nothing 0 tt t
