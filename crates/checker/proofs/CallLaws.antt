-- What load, verdict and drop answer and leave, and the refusals of advance and witness, from what the bytes stand for. Assumes nothing.
use mathlib.Core.Path.{◌≡◌, refl, sym, ap, ◌∙◌, subst}
use mathlib.Core.Logic.{inl, inr}
use mathlib.Core.List.{List, []}
use Prim.Native.Nat.{ℕ, pred}
use Rattle.refusals.specs.Refusals.{Refusal, number_of, nothing_held, something_held, check_finished, no_counterexample}
use Rattle.obligations.specs.Subjects.{Subject, subject_of}
use Rattle.obligations.specs.Order.{obligation_of}
use Rattle.obligations.specs.Report.{check_at}
use Rattle.obligations.specs.Calls as calls
use Rattle.obligations.specs.Calls.{Verdict, unfinished, accepted, refuted, Held, nothing, holding, Call, load, advance, verdict, witness, release, Outcome, outcome, loading, respond}
use Rattle.obligations.proofs.PlainCalls.{drops}
use Rattle.std.specs.Prelude.{Result, Ok, Err, IsErrAnd, Option}
use Rattle.std.specs.Option.{ok_or}
use Rattle.std.specs.Result.{result_ok}
use Rattle.held_checks.specs.declared.LoadRefusal.{LoadRefusal}
use Rattle.held_checks.specs.declared.LoadRefusal.TheVariants.{Faulty}
use Rattle.refusals.proofs.MissingValues.{unmet}
use Rattle.refusals.specs.RefusalNames.{fault_is}
use Rattle.refusals.specs.declared.Fault.{Fault}
use Rattle.refusals.specs.declared.Refusal as name
use Rattle.static_rules.specs.Read.{refusal, read}
use Rattle.held_checks.specs.declared.Verdict as code
use Rattle.held_checks.specs.HeldBytes.{bytes_of, none_held, verdict_marked, held_by}
use Rattle.held_checks.specs.Answers.{Answer, refused, refused_at, loaded, verdict_is, dropped, answer_to, verdict_of, load_answer}
use Rattle.held_checks.specs.CallPromises.{text_after, bytes_left, bytes_after, Responds}
use Rattle.held_checks.specs.StepPromises.{mark_byte, told_by}
use Rattle.checker.specs.declared.Opened as opened
use Rattle.checker.specs.OpenPromises.{Opened, Opens}
use Rattle.text_readings.proofs.ReadTexts.{TextHeld}
use Rattle.checker.proofs.MarkLaws.{one-of}

-- what a call promises, from one equation of what it comes to
module _ {b : List ℕ} {c : Call} {after lent : List ℕ} {a : Answer} where
  pub responds : (o : Outcome) → respond (held_by b) c ≡ o → a ≡ answer_to o.reply → after ≡ bytes_left b (text_after b c) o.reply o.held → lent ≡ o.lent
      → Responds b c after lent a
  unfolding bytes_after
  responds o e x y z = record {
    answer = x ∙ ap (λ (k : Outcome). answer_to k.reply) (sym e);
    bytes = y ∙ ap (λ (k : Outcome). bytes_left b (text_after b c) k.reply k.held) (sym e);
    lent_bytes = z ∙ ap (λ (k : Outcome). k.lent) (sym e);
  }

  -- a refusal leaves the bytes as they were
  pub refuses : (r : Refusal) (h : Held) → respond (held_by b) c ≡ outcome (calls.refused r) h lent → a ≡ refused (number_of r) → after ≡ b → Responds b c after lent a
  refuses r h e x y = responds (outcome (calls.refused r) h lent) e x y refl

-- nothing is held
module _ {b : List ℕ} (none : held_by b ≡ nothing) where
  pub nothing-advance : (n : ℕ) → Responds b (advance n) b [] (refused (number_of nothing_held))
  unfolding respond
  nothing-advance n = refuses nothing_held nothing (ap (λ (h : Held). respond h (advance n)) none) refl refl

  pub nothing-verdict : Responds b verdict b [] (refused (number_of nothing_held))
  unfolding respond
  nothing-verdict = refuses nothing_held nothing (ap (λ (h : Held). respond h verdict) none) refl refl

  pub nothing-witness : (l : List ℕ) → Responds b (witness l) b l (refused (number_of nothing_held))
  unfolding respond
  nothing-witness l = refuses nothing_held nothing (ap (λ (h : Held). respond h (witness l)) none) refl refl

  load-faulty : (t : List ℕ) (x : Fault) → read t ≡ refusal (fault_is x) → Responds b (load t) b [] (refused_at (number_of (fault_is x).refusal) (fault_is x).place)
  unfolding respond loading
  load-faulty t x f = responds (outcome (calls.refused_at (fault_is x)) nothing []) (ap (λ (h : Held). respond h (load t)) none ∙ ap loading f) refl refl refl

  pub load-refused : (t : List ℕ) (x : Fault) → read t ≡ refusal (fault_is x) → (r : Result (Unit {0}) LoadRefusal) → IsErrAnd r (λ (e : LoadRefusal). e ≡ Faulty x)
      → Responds b (load t) b [] (load_answer r)
  load-refused t x f (Ok u) e = absurd e
  load-refused t x f (Err k) e = subst (λ (i : LoadRefusal). Responds b (load t) b [] (load_answer (Err i))) (sym e) (load-faulty t x f)

  pub load-loaded : (t : List ℕ) {after table rows firsts groups labels : List ℕ} {m : ℕ} → TextHeld t table rows firsts groups labels m → after ≡ bytes_of t 0 1
      → Responds b (load t) after [] loaded
  unfolding respond loading
  load-loaded t h e =
      responds (outcome calls.loaded (holding (subject_of h.dossier) 0 unfinished) []) (ap (λ (k : Held). respond k (load t)) none ∙ ap loading h.reads) refl e refl

-- drop is never refused
pub drop-answers : (b : List ℕ) {after : List ℕ} → after ≡ none_held → Responds b release after [] dropped
drop-answers b e = responds (outcome calls.dropped nothing []) (drops (held_by b)) refl e refl

-- something is held
module _ {b text table rows firsts groups labels : List ℕ} {mark place operations all : ℕ} (o : Opened b text table rows firsts groups labels mark place operations all) where
  abbrev σ : Subject
  σ = subject_of o.dossier

  pub load-held : (t : List ℕ) → Responds b (load t) b [] (refused (number_of something_held))
  unfolding respond
  load-held t = refuses something_held (holding σ place (verdict_marked σ place mark)) (ap (λ (h : Held). respond h (load t)) o.holds) refl refl

  -- what is held, by its mark
  pub held-as : {m : ℕ} → mark ≡ m → held_by b ≡ holding σ place (verdict_marked σ place m)
  held-as e = o.holds ∙ ap (λ (m : ℕ). holding σ place (verdict_marked σ place m)) e

  pub verdict-as : {m : ℕ} → mark ≡ m → Responds b verdict b [] (verdict_is (verdict_marked σ place m))
  unfolding respond
  verdict-as {m} e = responds (outcome (calls.verdict_is (verdict_marked σ place m)) (holding σ place (verdict_marked σ place m)) []) (ap (λ (h : Held). respond h verdict) (held-as e)) refl refl refl

  -- a finished check is not advanced
  pub advance-finished : (n : ℕ) → (mark ≡ 1 → ⊥) → Responds b (advance n) b [] (refused (number_of check_finished))
  unfolding respond verdict_marked
  advance-finished n f = elim (one-of all place mark o.fits) [
    | inl e ↦ absurd (f e)
    | inr (inl e) ↦ refuses check_finished (holding σ place accepted) (ap (λ (h : Held). respond h (advance n)) (held-as e)) refl refl
    | inr (inr e) ↦ refuses check_finished (holding σ place (refuted (obligation_of (check_at σ (pred place))))) (ap (λ (h : Held). respond h (advance n)) (held-as e)) refl refl
  ]

  -- no counterexample
  pub witness-none : (l : List ℕ) → (mark ≡ 3 → ⊥) → Responds b (witness l) b l (refused (number_of no_counterexample))
  unfolding respond verdict_marked
  witness-none l f = elim (one-of all place mark o.fits) [
    | inl e ↦ refuses no_counterexample (holding σ place unfinished) (ap (λ (h : Held). respond h (witness l)) (held-as e)) refl refl
    | inr (inl e) ↦ refuses no_counterexample (holding σ place accepted) (ap (λ (h : Held). respond h (witness l)) (held-as e)) refl refl
    | inr (inr e) ↦ absurd (f e)
  ]

  -- the answer by a mark that speaks of no obligation
  pub verdict-answered : (mark ≡ 3 → ⊥) → {a : Answer} → a ≡ told_by mark → Responds b verdict b [] a
  unfolding verdict_marked
  verdict-answered f t = elim (one-of all place mark o.fits) [
    | inl e ↦ subst (λ (k : Answer). Responds b verdict b [] k) (sym (t ∙ ap told_by e)) (verdict-as e)
    | inr (inl e) ↦ subst (λ (k : Answer). Responds b verdict b [] k) (sym (t ∙ ap told_by e)) (verdict-as e)
    | inr (inr e) ↦ absurd (f e)
  ]

  -- the verdict of a mark that speaks of no obligation
  pub verdict-told : (v : code.Verdict) → (mark ≡ 1 → verdict_of v ≡ unfinished) × (mark ≡ 2 → verdict_of v ≡ accepted) × (mark ≡ 3 → ⊥) → Responds b verdict b [] (verdict_is (verdict_of v))
  verdict-told v t = verdict-answered t.2 (elim (one-of all place mark o.fits) [
    | inl e ↦ ap verdict_is (t.0 e) ∙ sym (ap told_by e)
    | inr (inl e) ↦ ap verdict_is (t.1 e) ∙ sym (ap told_by e)
    | inr (inr e) ↦ absurd (t.2 e)
  ])

-- what the bytes were opened as, by what `ok_or` makes of it; and where nothing is held, the refusal of it
module _ {b table rows firsts groups labels : List ℕ} {r : Option opened.Opened} {x : Result opened.Opened name.Refusal} (h : Opens b table rows firsts groups labels r) (e : r ≡ result_ok x) where
  pub opened-as : {o : opened.Opened} → x ≡ Ok o → Opened b o.text.now table rows firsts groups labels (mark_byte o.mark) o.place o.operations o.all
  opened-as f = (subst (Opens b table rows firsts groups labels) (e ∙ ap result_ok f) h).answer

  pub opened-not : {k : name.Refusal} → x ≡ Err k → held_by b ≡ nothing
  opened-not f = (subst (Opens b table rows firsts groups labels) (e ∙ ap result_ok f) h).answer

pub refused-as : {A : Type 0} (r : Option opened.Opened) {x : Result opened.Opened name.Refusal} {k n : name.Refusal} (y : Result A name.Refusal) → IsErrAnd y (λ (l : name.Refusal). l ≡ k) → x ≡ Err k → x ≡ ok_or r n
    → y ≡ Err n
refused-as r (Ok a) f e g = absurd f
refused-as r (Err l) f e g = ap Err (f ∙ unmet r (sym g ∙ e))
