-- What the report shows, and what a verdict says of its subject, from the promises and demand 2.
use mathlib.Core.Path.{◌≡◌, refl, sym, ap, subst, ◌∙◌}
use mathlib.Core.Bool.{Bool, true, false, cond}
use mathlib.Core.List.{List, ◌++◌, append_assoc}
use Prim.Native.Nat.{ℕ, suc, pred}
use lib.Dec.{ltb}
use lib.ListN.{length, drop}
use Rattle.lexical.specs.Lists.{bytes}
use Rattle.form.specs.Tree.{Dossier}
use Rattle.obligations.specs.Subjects.{Subject, subject_of}
use Rattle.obligations.specs.Obligations.{Obligations}
use Rattle.obligations.specs.Order.{Obligation, obligation_of}
use Rattle.obligations.specs.Report.{check_at, report}
use Rattle.obligations.specs.Calls.{Verdict, unfinished, accepted, refuted}
use Rattle.obligations.specs.CallDemands.{FirstFailing, whole_count, whole_fails, verdict_by, whole_verdict, verdict_after}
use Rattle.obligations.proofs.Reports.{demand_2}
use Rattle.held_checks.specs.Answers.{Answer, verdict_is}
use Rattle.reports.specs.ReportPromises.{Reported}
use Rattle.demands.specs.CodeDemands.{CodeReports, Decides}

shown : {t before after : List ℕ} {r : ℕ} → Reported t before after r → {l : List ℕ} → report t ≡ l → after ≡ l ++ drop r before
shown {before = before} w e = w.bytes ∙ (λ i. e i ++ drop (sym w.length_is i) before)

pub code-reports : CodeReports
code-reports = record {
  refused = λ t before after r w f e. shown w (demand_2.reports.refused t f e);
  accepted = λ t before after r w d e o. shown w (demand_2.reports.accepted t d e o);
  refuted = λ t before after r w d e q f. shown w (demand_2.reports.refuted t d e q f);
}

-- what a verdict says of the subject
abbrev Says : (σ : Subject) → Verdict → Type 0
Says σ unfinished = Unit {0}
Says σ accepted = Obligations σ
Says σ (refuted o) = (q : ℕ) × (FirstFailing σ q × (o ≡ obligation_of (check_at σ q)))

said : (σ : Subject) (p : ℕ) → Says σ (verdict_after σ p)
said σ p = on (ltb p (whole_count σ)) (whole_fails σ) refl
  where
    on : (b f : Bool) → whole_fails σ ≡ f → Says σ (cond b unfinished (verdict_by f (obligation_of (check_at σ (pred (whole_count σ))))))
    on true f e = tt
    on false true e =
        let k = (demand_2.accurate σ).first e in (k.0, (k.1.1, ap (λ (n : ℕ). obligation_of (check_at σ (pred n))) k.1.0))
    on false false e = (demand_2.accurate σ).sound e

same-verdict : (u v : Verdict) → verdict_is u ≡ verdict_is v → u ≡ v
same-verdict u v e = cc

pub decided : (σ : Subject) (p : ℕ) (a : Answer) → a ≡ verdict_is (verdict_after σ p) → Decides σ a
decided σ p a e = record {
  accepted = λ f. subst (Says σ) (same-verdict (verdict_after σ p) accepted (sym e ∙ f)) (said σ p);
  refuted = λ o f. subst (Says σ) (same-verdict (verdict_after σ p) (refuted o) (sym e ∙ f)) (said σ p);
}
