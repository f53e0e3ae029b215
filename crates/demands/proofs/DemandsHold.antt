-- The demands over the code hold: a list of calls on the held bytes is one of `respond`, so that the demands over the definitions say what it shows. Assumes nothing.
use mathlib.Core.Path.{◌≡◌, refl, sym, ap, ◌∙◌, subst}
use mathlib.Core.Bool.{Bool, cond}
use mathlib.Core.List.{List, ◌∷◌, ◌++◌}
use Prim.Native.Nat.{ℕ, pred, ◌≤◌, ◌+◌, ◌-◌, min}
use native.Mathlib.Omega.{arith}
use borrow.Author.Tests.{lt-ltb, le-ltb}
use lib.ListN.{length, drop}
use Rattle.obligations.specs.Subjects.{Subject}
use Rattle.obligations.specs.Order.{obligation_of}
use Rattle.obligations.specs.Report.{check_at, witness_lines}
use Rattle.obligations.specs.Calls as calls
use Rattle.obligations.specs.Calls.{Verdict, unfinished, accepted, refuted, Held, nothing, holding, Call, advance, verdict, witness, Reply, Outcome, respond, Exchange, Trace, held_after}
use Rattle.obligations.specs.RefusalTable.{lent_to, refusal_in}
use Rattle.obligations.specs.CallDemands.{IsRefusal, whole_count, whole_verdict, verdict_by, verdict_after, Proper, Shown}
use Rattle.obligations.proofs.RefusedCalls.{demand_1}
use Rattle.obligations.proofs.Reports.{demand_2}
use Rattle.obligations.proofs.Histories.{demand_3}
use Rattle.held_checks.specs.HeldBytes.{none_held, held_by}
use Rattle.held_checks.specs.Answers.{Answer, looked, verdict_is, written, answer_to}
use Rattle.held_checks.specs.CallPromises.{text_after, bytes_left, bytes_after, Responds}
use Rattle.demands.specs.CodeDemands.{Step, Steps, no_call, one_call, CodeDemand1, Witnessed, CodeDemand2, CodeDemand3}
use Rattle.demands.proofs.RepliesNumbered.{one-reply}
use Rattle.demands.proofs.HeldStanding.{none-held}
use Rattle.demands.proofs.CallsStand.{call-stands}
use Rattle.demands.proofs.ReportDemand.{code-reports, decided}

-- ---- one call

reply-is : (b : List ℕ) (x : Exchange) (c : List ℕ) → Step b x c → x.reply ≡ (respond (held_by b) x.call).reply
reply-is b x c s = one-reply x.reply (respond (held_by b) x.call).reply s.answer

stands : (b : List ℕ) (d : Call) (c lent : List ℕ) (a : Answer) → Responds b d c lent a → held_by c ≡ (respond (held_by b) d).held
stands b d c lent a s = ap held_by s.bytes ∙ call-stands b d

-- load, advance and drop write the held bytes where they are not refused
abbrev Keeps : Reply → Type 0
Keeps (calls.refused_at f) = Unit {0}
Keeps (calls.refused r) = Unit {0}
Keeps calls.loaded = ⊥
Keeps (calls.looked n) = ⊥
Keeps (calls.verdict_is v) = Unit {0}
Keeps (calls.written n) = Unit {0}
Keeps calls.dropped = ⊥

left-kept : (b t : List ℕ) (r : Reply) (h : Held) → Keeps r → bytes_left b t r h ≡ b
left-kept b t (calls.refused_at f) h k = refl
left-kept b t (calls.refused r) h k = refl
left-kept b t calls.loaded h k = absurd k
left-kept b t (calls.looked n) h k = absurd k
left-kept b t (calls.verdict_is v) h k = refl
left-kept b t (calls.written n) h k = refl
left-kept b t calls.dropped h k = absurd k

bytes-kept : (b : List ℕ) (d : Call) (c lent : List ℕ) (a : Answer) → Responds b d c lent a → Keeps (respond (held_by b) d).reply → c ≡ b
unfolding bytes_after
bytes-kept b d c lent a s k = s.bytes ∙ left-kept b (text_after b d) (respond (held_by b) d).reply (respond (held_by b) d).held k

refusal-keeps : (r : Reply) → IsRefusal r → Keeps r
refusal-keeps (calls.refused_at f) k = tt
refusal-keeps (calls.refused r) k = tt
refusal-keeps calls.loaded k = absurd k
refusal-keeps (calls.looked n) k = absurd k
refusal-keeps (calls.verdict_is v) k = absurd k
refusal-keeps (calls.written n) k = absurd k
refusal-keeps calls.dropped k = absurd k

unchanged : (b : List ℕ) (x : Exchange) (c : List ℕ) → Step b x c → IsRefusal x.reply → (c ≡ b) × (x.lent ≡ lent_to x.call)
unchanged b x c s i =
    let r : Reply = (respond (held_by b) x.call).reply in
    let k : IsRefusal r = subst IsRefusal (reply-is b x c s) i in
    (bytes-kept b x.call c x.lent (answer_to x.reply) s (refusal-keeps r k), s.lent_bytes ∙ (demand_1.unchanged (held_by b) x.call k).1)

-- "gives either a result or one of the numbered refusals of document 01, each in exactly the case written there. A refused call changes neither the held check nor one byte of a lent buffer."
pub code-demand_1 : CodeDemand1
code-demand_1 = record { exactly = λ b x c s. ap refusal_in (reply-is b x c s) ∙ demand_1.exactly (held_by b) x.call; unchanged = unchanged }

-- ---- lists of calls

abbrev Follows : Held → List Exchange → (e : List ℕ) → Type 0
Follows h xs e = Trace h xs × (held_by e ≡ held_after h xs)

follow-on : (b : List ℕ) (x : Exchange) (c : List ℕ) (xs : List Exchange) (e : List ℕ) → Step b x c → Follows (held_by c) xs e → Follows (held_by b) (x ∷ xs) e
unfolding Trace held_after
follow-on b x c xs e s f =
    let g : Follows (respond (held_by b) x.call).held xs e
    = subst (λ (h : Held). Follows h xs e) (stands b x.call c x.lent (answer_to x.reply) s) f in
    ((sym (reply-is b x c s), sym s.lent_bytes, g.0), g.1)

follow-from : {b : List ℕ} {xs : List Exchange} {e : List ℕ} → Steps b xs e → Follows (held_by b) xs e
unfolding Trace held_after
follow-from no_call = (tt, refl)
follow-from (one_call {b} {c} {e} {x} {xs} s r) = follow-on b x c xs e s (follow-from r)

follows : (xs : List Exchange) (e : List ℕ) → Steps none_held xs e → Follows nothing xs e
follows xs e s = subst (λ (h : Held). Follows h xs e) none-held (follow-from s)

proper : (xs : List Exchange) (e : List ℕ) → Steps none_held xs e → Proper (held_by e)
proper xs e s = let f : Follows nothing xs e = follows xs e s in subst Proper (sym f.1) (demand_2.reached xs f.0).proper

-- ---- what the calls show

-- the held verdict is that of as many bindings as the place says
proper-verdict : (σ : Subject) (p : ℕ) (v : Verdict) → Proper (holding σ p v) → v ≡ verdict_after σ p
proper-verdict σ p unfinished k = ap (λ (t : Bool). cond t unfinished (whole_verdict σ)) (sym (lt-ltb p (whole_count σ) k))
proper-verdict σ p accepted k =
    ap (λ (t : Bool). verdict_by t (obligation_of (check_at σ (pred (whole_count σ))))) (sym k.1)
    ∙ ap (λ (t : Bool). cond t unfinished (whole_verdict σ)) (sym (le-ltb p (whole_count σ) (omega (arith, k.0))))
proper-verdict σ p (refuted o) k =
    ap refuted (k.2 ∙ ap (λ (q : ℕ). obligation_of (check_at σ (pred q))) k.0)
    ∙ ap (λ (t : Bool). verdict_by t (obligation_of (check_at σ (pred (whole_count σ))))) (sym k.1)
    ∙ ap (λ (t : Bool). cond t unfinished (whole_verdict σ)) (sym (le-ltb p (whole_count σ) (omega (arith, k.0))))

advances : (xs : List Exchange) (e : List ℕ) → Steps none_held xs e → (σ : Subject) (p : ℕ) → held_by e ≡ holding σ p unfinished
    → (n : ℕ) → 1 ≤ n → n ≤ 1000000000 → (c lent : List ℕ) (a : Answer) → Responds e (advance n) c lent a
    → (a ≡ looked (min n (whole_count σ - p))) × (held_by c ≡ holding σ (p + min n (whole_count σ - p)) (verdict_after σ (p + min n (whole_count σ - p))))
advances xs e s σ p h n one most c lent a r =
    let o = ap (λ (x : Held). respond x (advance n)) h ∙ demand_2.advances σ p n (subst Proper h (proper xs e s)) one most in
    (r.answer ∙ ap (λ (x : Outcome). answer_to x.reply) o, stands e (advance n) c lent a r ∙ ap (λ (x : Outcome). x.held) o)

tells : (xs : List Exchange) (e : List ℕ) → Steps none_held xs e → (σ : Subject) (p : ℕ) (v : Verdict) → held_by e ≡ holding σ p v
    → (c lent : List ℕ) (a : Answer) → Responds e verdict c lent a → (a ≡ verdict_is (verdict_after σ p)) × (c ≡ e)
tells xs e s σ p v h c lent a r =
    let o = ap (λ (x : Held). respond x verdict) h ∙ demand_2.answers σ p v in (
      r.answer ∙ ap (λ (x : Outcome). answer_to x.reply) o ∙ ap verdict_is (proper-verdict σ p v (subst Proper h (proper xs e s))),
      bytes-kept e verdict c lent a r (subst (λ (x : Outcome). Keeps x.reply) (sym o) tt),
    )

same_length : (n m : ℕ) → calls.written n ≡ calls.written m → n ≡ m
same_length n m e = cc

shown-written : (e b c lent : List ℕ) (n : ℕ) → Responds e (witness b) c lent (written n) → calls.written n ≡ (respond (held_by e) (witness b)).reply
    → Shown (held_by e) b → Witnessed e b c lent n
shown-written e b c lent n r k w =
    let l : n ≡ length (witness_lines w.subject (check_at w.subject w.place)) = same_length n _ (k ∙ ap (λ (x : Outcome). x.reply) w.answer) in
    record {
      subject = w.subject;
      place = w.place;
      held = w.held;
      first = w.first;
      kept = bytes-kept e (witness b) c lent (written n) r (subst Keeps k tt);
      long = l;
      lines = r.lent_bytes ∙ ap (λ (x : Outcome). x.lent) w.answer ∙ ap (λ (m : ℕ). witness_lines w.subject (check_at w.subject w.place) ++ drop m b) (sym l);
    }

shows : (xs : List Exchange) (e : List ℕ) → Steps none_held xs e → (b c lent : List ℕ) (n : ℕ) → Responds e (witness b) c lent (written n) → Witnessed e b c lent n
shows xs e s b c lent n r =
    let f : Follows nothing xs e = follows xs e s in
    let k : calls.written n ≡ (respond (held_by e) (witness b)).reply = one-reply (calls.written n) (respond (held_by e) (witness b)).reply r.answer in
    let u : IsRefusal (respond (held_after nothing xs) (witness b)).reply → ⊥
    = λ i. subst IsRefusal (sym (k ∙ ap (λ (h : Held). (respond h (witness b)).reply) f.1)) i in
    shown-written e b c lent n r k (subst (λ (h : Held). Shown h b) (sym f.1) (demand_2.shows xs f.0 b u))

pub code-demand_2 : CodeDemand2
code-demand_2 = record {
  stands = λ b x c s. stands b x.call c x.lent (answer_to x.reply) s;
  follows = follows;
  reached = λ xs e s. demand_2.reached xs (follows xs e s).0;
  advances = advances;
  tells = tells;
  decides = λ xs e s σ p v h c lent a r. decided σ p a (tells xs e s σ p v h c lent a r).0;
  shows = shows;
  reports = code-reports;
}

-- "Take any list of the calls ..., with any arguments, refused ones included, from nothing held on. Of every dossier that a verdict in it calls accepted, this holds"
pub code-demand_3 : CodeDemand3
code-demand_3 xs e s earlier later q = demand_3 xs (follows xs e s).0 earlier later q
