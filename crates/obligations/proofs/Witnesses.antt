-- Demand 2 through the calls: the witness written is that of the first check that does not pass. Assumes nothing.
use mathlib.Core.Path.{◌≡◌, refl, ap, ap₂, ◌∙◌}
use mathlib.Core.Bool.{Bool, true, false}
use mathlib.Core.List.{List, ◌++◌}
use Prim.Native.Nat.{ℕ, suc, pred}
use lib.Dec.{ltb}
use lib.ListN.{length, drop}
use Rattle.obligations.specs.Subjects.{Subject}
use Rattle.obligations.specs.Order.{Obligation, obligation_of}
use Rattle.obligations.specs.Report.{check_at, witness_lines}
use Rattle.obligations.specs.Calls.{unfinished, accepted, refuted, Held, nothing, holding, witness, written, Outcome, outcome, writing, respond, held_after}
use Rattle.obligations.specs.CallDemands.{IsRefusal, FirstFailing, whole_count, Proper, Shown, ShowsFirst}
use Rattle.obligations.proofs.Accuracy.{accurate}
use Rattle.obligations.proofs.Histories.{reached}

-- where the lent bytes hold the lines
lines-written : (σ : Subject) (p : ℕ) (o : Obligation) (l b : List ℕ) → (IsRefusal (writing σ p o l b).reply → ⊥)
    → writing σ p o l b ≡ outcome (written (length l)) (holding σ p (refuted o)) (l ++ drop (length l) b)
unfolding writing
lines-written σ p o l b n = go (ltb (length b) (length l)) refl
  where
    go : (t : Bool) → ltb (length b) (length l) ≡ t → writing σ p o l b ≡ outcome (written (length l)) (holding σ p (refuted o)) (l ++ drop (length l) b)
    go true q = absurd (n (rw q tt))
    go false q = rw q

shown : (h : Held) → Proper h → (b : List ℕ) → (IsRefusal (respond h (witness b)).reply → ⊥) → Shown h b
unfolding respond
shown nothing k b n = absurd (n tt)
shown (holding σ p unfinished) k b n = absurd (n tt)
shown (holding σ p accepted) k b n = absurd (n tt)
shown (holding σ p (refuted o)) k b n =
    let s : (q : ℕ) × ((whole_count σ ≡ suc q) × FirstFailing σ q) = (accurate σ).first k.1 in
    let e : p ≡ suc s.0 = k.0 ∙ s.1.0 in
    record {
      subject = σ;
      place = s.0;
      held = ap₂ {C = Held} (λ (j : ℕ) (x : Obligation). holding σ j (refuted x)) e (k.2 ∙ ap (λ (j : ℕ). obligation_of (check_at σ (pred j))) e);
      first = s.1.1;
      answer = lines-written σ p o (witness_lines σ (check_at σ (pred p))) b n
          ∙ ap {B = Outcome}
          (λ (j : ℕ).
          let l : List ℕ = witness_lines σ (check_at σ (pred j)) in
          outcome (written (length l)) (holding σ p (refuted o)) (l ++ drop (length l) b)) e;
    }

-- "The binding shown is the first in the fixed order": over every list of calls from nothing held on, and any bytes lent after it
pub shows_first : ShowsFirst
shows_first xs t b n = shown (held_after nothing xs) (reached xs t).proper b n
