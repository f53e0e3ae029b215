-- Demand 2: what the program prints, and all that the calls show. Assumes nothing.
use mathlib.Core.Path.{◌≡◌, ap, ◌∙◌}
use mathlib.Core.Bool.{false}
use mathlib.Core.List.{◌++◌}
use Prim.Native.Nat.{ℕ, suc}
use Rattle.lexical.specs.Lists.{bytes}
use Rattle.obligations.specs.Subjects.{Subject, subject_of}
use Rattle.obligations.specs.Obligations.{Obligations}
use Rattle.obligations.specs.Order.{obligation_of, checks, total, look}
use Rattle.obligations.specs.Report.{check_at, witness_lines, refuted_line, count_line, verdict_lines, reported, report}
use Rattle.obligations.specs.CallDemands.{FirstFailing, Reports}
use Rattle.obligations.specs.Demands.{Demand2}
use Rattle.obligations.proofs.PlainCalls.{loads, answers, drops}
use Rattle.obligations.proofs.Accuracy.{accurate, failing-look, decided}
use Rattle.obligations.proofs.PlacesOnce.{one-to-one}
use Rattle.obligations.proofs.Strides.{advances}
use Rattle.obligations.proofs.Histories.{reached}
use Rattle.obligations.proofs.Witnesses.{shows_first}

accepted-lines : (σ : Subject) → Obligations σ → verdict_lines σ (look σ (checks σ)) ≡ bytes "accepted\n" ++ count_line (total σ)
unfolding verdict_lines
accepted-lines σ ob =
    let l : look σ (checks σ) ≡ record { count = total σ; failed = false }
    = λ i. record { count = (accurate σ).whole ((accurate σ).complete ob) i; failed = (accurate σ).complete ob i } in
    ap (verdict_lines σ) l

refuted-lines : (σ : Subject) (q : ℕ) → FirstFailing σ q
    → verdict_lines σ (look σ (checks σ)) ≡ refuted_line σ.dossier (obligation_of (check_at σ q)) ++ witness_lines σ (check_at σ q) ++ count_line (suc q)
unfolding verdict_lines
refuted-lines σ q f = ap (verdict_lines σ) (failing-look σ q f)

reports : Reports
unfolding report
reports =
    record {
      refused = λ t f e. ap reported e;
      accepted = λ t d e ob. ap reported e ∙ accepted-lines (subject_of d) ob;
      refuted = λ t d e q f. ap reported e ∙ refuted-lines (subject_of d) q f;
    }

-- "A dossier is accepted exactly if no binding over its carriers breaks initialisation, applicability or correctness, and refuted exactly if one does.
-- The binding shown is the first in the fixed order, and the count printed is how many were looked at up to it."
pub demand_2 : Demand2
demand_2 =
    record {
      accurate = accurate;
      ordered = one-to-one;
      decided = decided;
      loads = loads;
      advances = advances;
      answers = answers;
      drops = drops;
      reached = reached;
      shows = shows_first;
      reports = reports;
    }
