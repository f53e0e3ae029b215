-- The bytes that a call leaves stand for exactly the held check that `respond` leaves. Assumes nothing.
use mathlib.Core.Path.{◌≡◌, refl}
use mathlib.Core.Bool.{Bool, true, false, cond, ◌||◌}
use mathlib.Core.List.{List, []}
use Prim.Native.Nat.{ℕ, ◌+◌, ◌<◌, ◌≤◌}
use native.Mathlib.Omega.{arith}
use borrow.Author.Tests.{leb-true, leb-false}
use lib.Dec.{eqb, leb, ltb}
use lib.ListN.{length}
use Rattle.lexical.proofs.BooleanTests.{on-cond}
use Rattle.static_rules.specs.Read.{Reading, refusal, reading, read}
use Rattle.obligations.specs.Subjects.{Subject, subject_of}
use Rattle.obligations.specs.Order.{Obligation, initialises, total, Look, look}
use Rattle.obligations.specs.Calls.{unfinished, accepted, refuted, Held, nothing, holding, Call, load, advance, verdict, witness, release, Outcome, loading, verdict_at, advanced, advancing, writing, respond}
use Rattle.obligations.proofs.Looks.{look-whole, look-first}
use Rattle.obligations.proofs.Advances.{next_checks, next-length}
use Rattle.obligations.proofs.Strides.{count-within, count-positive}
use Rattle.held_checks.specs.HeldBytes.{held_text, held_by}
use Rattle.held_checks.specs.CallPromises.{text_after, bytes_left, bytes_after}
use Rattle.demands.proofs.HeldStanding.{Fits, stand-for, stood_for, none-held}

-- a look at the next bindings ends inside the search order, and where one failed behind a binding
within : (σ : Subject) (p n : ℕ) → p < total σ → (t : Bool) → (look σ (next_checks σ p n)).failed ≡ t → p + (look σ (next_checks σ p n)).count ≤ total σ
within σ p n h false e = omega (arith, (look-whole σ (initialises []) (next_checks σ p n) e).0, next-length σ p n)
within σ p n h true e =
    let s = look-first σ (initialises []) (next_checks σ p n) e in
    omega (arith, s.1, s.2, next-length σ p n)

begun : (σ : Subject) (p n : ℕ) → (look σ (next_checks σ p n)).failed ≡ true → 0 < p + (look σ (next_checks σ p n)).count
begun σ p n e = omega (arith, (look-first σ (initialises []) (next_checks σ p n) e).1)

-- the place and the verdict that a look leaves fit
look-fits : (σ : Subject) (q : ℕ) → q ≤ total σ → (t : Bool) → (t ≡ true → 0 < q) → Fits σ q (verdict_at σ q t)
unfolding verdict_at
look-fits σ q h true b = (b refl, h, refl)
look-fits σ q h false b = go (leb (total σ) q) refl
  where
    go : (x : Bool) → leb (total σ) q ≡ x → Fits σ q (cond x accepted unfinished)
    go true e = omega (arith, leb-true (total σ) q e)
    go false e = leb-false (total σ) q e

-- what is left of the bytes b stands for what is held after the call
abbrev Left : (b text : List ℕ) → Outcome → Type 0
Left b t o = held_by (bytes_left b t o.reply o.held) ≡ o.held

load-left : (b t : List ℕ) → held_by b ≡ nothing → (r : Reading) → read t ≡ r → Left b t (loading r)
unfolding loading
load-left b t e (refusal f) q = e
load-left b t e (reading d) q =
    stand-for t (subject_of d) 0 unfinished q (omega (arith, count-within (subject_of d), count-positive (subject_of d)))

advanced-left : (b : List ℕ) (σ : Subject) (p n : ℕ) → held_by b ≡ holding σ p unfinished → Left b (held_text b) (advanced σ p (look σ (next_checks σ p n)))
unfolding advanced
advanced-left b σ p n e =
    let s = stood_for b σ p unfinished e in
    let l : Look = look σ (next_checks σ p n) in
    stand-for (held_text b) σ (p + l.count) (verdict_at σ (p + l.count) l.failed) s.0
    (look-fits σ (p + l.count) (within σ p n s.1 l.failed refl) l.failed (begun σ p n))

advance-left : (b : List ℕ) (σ : Subject) (p n : ℕ) → held_by b ≡ holding σ p unfinished → Left b (held_text b) (advancing σ p n)
unfolding advancing
advance-left b σ p n e = on-cond (Left b (held_text b)) (eqb n 0 || ltb 1000000000 n) _ _ e (advanced-left b σ p n e)

witness-left : (b : List ℕ) (σ : Subject) (p : ℕ) (o : Obligation) (lines lent : List ℕ) → held_by b ≡ holding σ p (refuted o) → Left b (held_text b) (writing σ p o lines lent)
unfolding writing
witness-left b σ p o lines lent e = on-cond (Left b (held_text b)) (ltb (length lent) (length lines)) _ _ e e

call-left : (b : List ℕ) (h : Held) (c : Call) → held_by b ≡ h → Left b (text_after b c) (respond h c)
unfolding respond
call-left b nothing (load t) e = load-left b t e (read t) refl
call-left b nothing (advance n) e = e
call-left b nothing verdict e = e
call-left b nothing (witness l) e = e
call-left b nothing release e = none-held
call-left b (holding σ p v) (load t) e = e
call-left b (holding σ p unfinished) (advance n) e = advance-left b σ p n e
call-left b (holding σ p accepted) (advance n) e = e
call-left b (holding σ p (refuted o)) (advance n) e = e
call-left b (holding σ p v) verdict e = e
call-left b (holding σ p unfinished) (witness l) e = e
call-left b (holding σ p accepted) (witness l) e = e
call-left b (holding σ p (refuted o)) (witness l) e = witness-left b σ p o _ l e
call-left b (holding σ p v) release e = none-held

pub call-stands : (b : List ℕ) (c : Call) → held_by (bytes_after b c) ≡ (respond (held_by b) c).held
unfolding bytes_after
call-stands b c = call-left b (held_by b) c refl
