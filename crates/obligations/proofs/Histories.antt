-- Over any list of calls: what is held agrees with one look over all checks of the last loaded text. Assumes nothing.
use mathlib.Core.Path.{◌≡◌, refl, sym, ap, subst}
use mathlib.Core.Bool.{Bool, true, false, cond, ◌||◌}
use mathlib.Core.List.{List, [], ◌∷◌, ◌++◌}
use Prim.Native.Nat.{ℕ, pred, ◌+◌, ◌-◌, ◌<◌, ◌≤◌, min}
use native.Mathlib.Omega.{arith}
use borrow.Author.Tests.{ltb-true, ltb-false, eqb-false}
use lib.Dec.{eqb, ltb}
use lib.ListN.{length}
use Rattle.form.specs.Tree.{Dossier}
use Rattle.static_rules.specs.Read.{Reading, refusal, reading, read}
use Rattle.meaning.specs.Operations.{related}
use Rattle.obligations.specs.Subjects.{Subject, subject_of}
use Rattle.obligations.specs.Order.{Obligation, obligation_of}
use Rattle.obligations.specs.Report.{check_at}
use Rattle.obligations.specs.Calls.{Verdict, unfinished, accepted, refuted, Held, nothing, holding, Call, load, advance, verdict, witness, release, Reply, verdict_is, Outcome, loading, advancing, writing, respond, Exchange, Trace, held_after}
use Rattle.obligations.specs.Machines.{abstract_side, concrete_side}
use Rattle.obligations.specs.Runs.{RunsMatch}
use Rattle.obligations.specs.CallDemands.{IsRefusal, whole_count, whole_fails, verdict_by, verdict_after, Proper, Loaded, none, text, after_reply, after_call, last_loaded, Meant, Reached}
use Rattle.obligations.specs.Demands.{acceptance, Demand3}
use Rattle.std.proofs.lemmas.Bool.{or_parts}
use Rattle.lexical.proofs.BooleanTests.{on-cond}
use Rattle.obligations.proofs.Accuracy.{accurate}
use Rattle.obligations.proofs.Strides.{advances, count-positive}
use Rattle.obligations.proofs.PlainCalls.{loads}
use Rattle.obligations.proofs.RefusedCalls.{demand_1}
use Rattle.obligations.proofs.Counts.{sum-of-advances}
use Rattle.obligations.proofs.Sides.{same-operations}
use Rattle.obligations.proofs.Matching.{match}

-- at a place that the look reaches, the verdict after as many bindings is proper
proper-after : (σ : Subject) (p n : ℕ) → p < whole_count σ → Proper (holding σ (p + min n (whole_count σ - p)) (verdict_after σ (p + min n (whole_count σ - p))))
proper-after σ p n h = go (ltb q (whole_count σ)) refl
  where
    q : ℕ
    q = p + min n (whole_count σ - p)

    ended : (t : Bool) → whole_fails σ ≡ t → q ≡ whole_count σ → Proper (holding σ q (verdict_by t (obligation_of (check_at σ (pred (whole_count σ))))))
    ended true e f = (f, e, ap (λ (k : ℕ). obligation_of (check_at σ (pred k))) (sym f))
    ended false e f = (f, e)

    go : (t : Bool) → ltb q (whole_count σ) ≡ t → Proper (holding σ q (cond t unfinished (verdict_by (whole_fails σ) (obligation_of (check_at σ (pred (whole_count σ)))))))
    go true e = ltb-true q (whole_count σ) e
    go false e = let l : whole_count σ ≤ q = ltb-false q (whole_count σ) e in ended (whole_fails σ) refl (omega arith)

-- what is held is the reading of the last loaded text, and the rest is proper
abbrev pub Sound : Held → Loaded → Type 0
Sound h l = Meant h l × Proper h

load-sound : (t : List ℕ) (l : Loaded) (r : Reading) → read t ≡ r → Sound (respond nothing (load t)).held (after_reply t (respond nothing (load t)).reply l)
unfolding respond loading
load-sound t l (refusal f) e = subst (λ (r : Reading). Sound (loading r).held (after_reply t (loading r).reply l)) (sym e) (tt, tt)
load-sound t l (reading d) e = subst (λ (o : Outcome). Sound o.held (after_reply t o.reply l)) (sym (loads t d e)) ((t, refl, e), count-positive (subject_of d))

out_of_range : (σ : Subject) (p n : ℕ) → (eqb n 0 || ltb 1000000000 n) ≡ true → IsRefusal (respond (holding σ p unfinished) (advance n)).reply
unfolding respond advancing
out_of_range σ p n e = rw e tt

-- an advance out of range is refused, any other is what `advances` says
advance-sound : (σ : Subject) (p n : ℕ) (l : Loaded) → Sound (holding σ p unfinished) l → Sound (respond (holding σ p unfinished) (advance n)).held l
advance-sound σ p n l s = go (eqb n 0 || ltb 1000000000 n) refl
  where
    go : (t : Bool) → (eqb n 0 || ltb 1000000000 n) ≡ t → Sound (respond (holding σ p unfinished) (advance n)).held l
    go true e = subst (λ (h : Held). Sound h l) (sym (demand_1.unchanged (holding σ p unfinished) (advance n) (out_of_range σ p n e)).0) s
    go false e =
        let f : (eqb n 0 ≡ false) × (ltb 1000000000 n ≡ false) = or_parts (eqb n 0) (ltb 1000000000 n) e in
        let k : n ≡ 0 → ⊥ = eqb-false n 0 f.0 in
        subst (λ (o : Outcome). Sound o.held l) (sym (advances σ p n s.1 (omega arith) (ltb-false 1000000000 n f.1))) (s.0, proper-after σ p n s.1)

witness-sound : (σ : Subject) (p : ℕ) (o : Obligation) (lines lent : List ℕ) (l : Loaded) → Sound (holding σ p (refuted o)) l → Sound (writing σ p o lines lent).held l
unfolding writing
witness-sound σ p o lines lent l s = on-cond (λ (r : Outcome). Sound r.held l) (ltb (length lent) (length lines)) _ _ s s

call-sound : (h : Held) (c : Call) (l : Loaded) → Sound h l → Sound (respond h c).held (after_call c (respond h c).reply l)
unfolding respond
call-sound nothing (load t) l s = load-sound t l (read t) refl
call-sound nothing (advance n) l s = s
call-sound nothing verdict l s = s
call-sound nothing (witness b) l s = s
call-sound nothing release l s = s
call-sound (holding σ p v) (load t) l s = s
call-sound (holding σ p unfinished) (advance n) l s = advance-sound σ p n l s
call-sound (holding σ p accepted) (advance n) l s = s
call-sound (holding σ p (refuted o)) (advance n) l s = s
call-sound (holding σ p v) verdict l s = s
call-sound (holding σ p unfinished) (witness b) l s = s
call-sound (holding σ p accepted) (witness b) l s = s
call-sound (holding σ p (refuted o)) (witness b) l s = witness-sound σ p o _ b l s
call-sound (holding σ p v) release l s = (tt, tt)

sound-next : (h : Held) (x : Exchange) (l : Loaded) → Sound h l → (respond h x.call).reply ≡ x.reply → Sound (respond h x.call).held (after_call x.call x.reply l)
sound-next h x l s e = subst (λ (r : Reply). Sound (respond h x.call).held (after_call x.call r l)) e (call-sound h x.call l s)

-- over every list of calls from a sound held check on, in whatever strides
pub sound-after : (xs : List Exchange) (h : Held) (l : Loaded) → Sound h l → Trace h xs → Sound (held_after h xs) (last_loaded l xs)
unfolding Trace held_after last_loaded
sound-after [] h l s t = s
sound-after (x ∷ xs) h l s t = sound-after xs (respond h x.call).held (after_call x.call x.reply l) (sound-next h x l s t.0) t.2

pub reached : (xs : List Exchange) → Trace nothing xs → Reached xs
reached xs t =
    let s : Sound (held_after nothing xs) (last_loaded none xs) = sound-after xs nothing none (tt, tt) t in
    record { proper = s.1; meant = s.0; counts = sum-of-advances xs t }

-- what demand 3 says where l was loaded last
abbrev Claimed : Loaded → Type 0
Claimed l = (t : List ℕ) × ((d : Dossier) × ((l ≡ text t) × (read t ≡ reading d) × RunsMatch d))

at-verdict : (h : Held) (l : Loaded) → Sound h l → (respond h verdict).reply ≡ verdict_is accepted → Claimed l
unfolding respond
at-verdict nothing l s e = absurd (subst IsRefusal e tt)
at-verdict (holding σ p v) l s e =
    let q : v ≡ accepted = cc in
    let w : Proper (holding σ p accepted) = subst (λ (x : Verdict). Proper (holding σ p x)) q s.1 in
    (s.0.0, (σ.dossier, (s.0.1, s.0.2, match (abstract_side σ.dossier) (concrete_side σ.dossier) (related σ.dossier) (same-operations σ.dossier) ((accurate σ).sound w.1))))

at-acceptance : (h : Held) (l : Loaded) → Sound h l → (earlier later : List Exchange) → Trace h (earlier ++ (acceptance ∷ later)) → Claimed (last_loaded l earlier)
unfolding Trace last_loaded
at-acceptance h l s [] later t = at-verdict h l s t.0
at-acceptance h l s (x ∷ earlier) later t =
    at-acceptance (respond h x.call).held (after_call x.call x.reply l) (sound-next h x l s t.0) earlier later t.2

-- "Take any list of the calls ..., with any arguments, refused ones included, from nothing held on. Of every dossier that a verdict in it calls accepted, this holds"
pub demand_3 : Demand3
demand_3 xs t earlier later e = at-acceptance nothing none (tt, tt) earlier later (subst (Trace nothing) e t)
