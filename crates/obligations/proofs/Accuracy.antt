-- Demand 2: what one look over all checks says of the obligations. Assumes nothing.
use mathlib.Core.Path.{◌≡◌, refl, sym, ap, subst}
use mathlib.Core.Logic.{◌⊎◌, inl, inr}
use mathlib.Core.Bool.{Bool, true, false}
use mathlib.Core.Option.{some}
use mathlib.Core.List.{List, []}
use Prim.Native.Nat.{ℕ, suc, ◌<◌, ◌≤◌}
use lib.ListN.{get_or, get_elem?}
use Rattle.form.specs.Tree.{Operation}
use Rattle.static_rules.specs.Carriers.{Variable}
use Rattle.meaning.specs.Meaning.{Binding}
use Rattle.meaning.specs.Bindings.{Over}
use Rattle.meaning.proofs.Places.{member-at, place-of, entry-below, below-entry}
use Rattle.obligations.specs.Subjects.{Subject}
use Rattle.obligations.specs.Obligations.{Obligations}
use Rattle.obligations.specs.Order.{Check, initialises, applies, corrects, passes, checks, total, Look, look}
use Rattle.obligations.specs.Report.{check_at}
use Rattle.obligations.specs.CallDemands.{FirstFailing, whole_fails}
use Rattle.obligations.specs.Demands.{IsCheck, Accurate}
use Rattle.obligations.proofs.Sides.{inputs_at, outputs_at}
use Rattle.obligations.proofs.Looks.{First, look-whole, look-first, whole-look, first-look}
use Rattle.obligations.proofs.ListedChecks.{check-listed, listed-check}

-- every check at a place below n passes
abbrev pub PassBelow : Subject → ℕ → Type 0
PassBelow σ n = (q : ℕ) → q < n → passes σ (check_at σ q) ≡ true

-- and every one from the place p on, before n
abbrev pub PassBetween : Subject → (p n : ℕ) → Type 0
PassBetween σ p n = (q : ℕ) → p ≤ q → q < n → passes σ (check_at σ q) ≡ true

over-at : {vs ws : List Variable} → vs ≡ ws → (b : Binding) → Over vs b → Over ws b
over-at e b h = subst (λ (us : List Variable). Over us b) e h

-- the checks of a dossier pass exactly if its obligations hold
pub check-passes : (σ : Subject) → PassBelow σ (total σ) → (x : Check) → IsCheck σ x → passes σ x ≡ true
unfolding total check_at
check-passes σ h x i =
    let s : (p : ℕ) × (p < total σ) × (get_or (checks σ) p (initialises []) ≡ x) = place-of x (checks σ) (initialises []) (check-listed σ x i) in
    subst (λ (y : Check). passes σ y ≡ true) s.2 (h s.0 s.1)

pub obligations : (σ : Subject) → PassBelow σ (total σ) → Obligations σ
unfolding passes IsCheck
obligations σ h =
    record {
      initialisation = λ c l. check-passes σ h (initialises c) l;
      applicability = λ k l a c i la lc li.
          let x : (op : Operation) × (get_elem? σ.dossier.operations k ≡ some op) = below-entry σ.dossier.operations k l in
          check-passes σ h (applies k x.0 a c i) (x.1, la, lc, over-at (inputs_at σ.dossier k x.0 x.1) i li);
      correctness = λ k l a c i o c' la lc li lo lc'.
          let x : (op : Operation) × (get_elem? σ.dossier.operations k ≡ some op) = below-entry σ.dossier.operations k l in
          check-passes σ h (corrects k x.0 a c i o c') (x.1, la, lc, over-at (inputs_at σ.dossier k x.0 x.1) i li, over-at (outputs_at σ.dossier k x.0 x.1) o lo, lc');
    }

meets_obligations : (σ : Subject) → Obligations σ → (x : Check) → IsCheck σ x → passes σ x ≡ true
unfolding passes IsCheck
meets_obligations σ ob (initialises c) h = ob.initialisation c h
meets_obligations σ ob (applies k op a c i) h =
    ob.applicability k (entry-below op σ.dossier.operations k h.0) a c i h.1 h.2 (over-at (sym (inputs_at σ.dossier k op h.0)) i h.3)
meets_obligations σ ob (corrects k op a c i o c') h =
    ob.correctness k (entry-below op σ.dossier.operations k h.0) a c i o c' h.1 h.2 (over-at (sym (inputs_at σ.dossier k op h.0)) i h.3)
    (over-at (sym (outputs_at σ.dossier k op h.0)) o h.4) h.5

-- "A dossier is accepted exactly if no binding over its carriers breaks initialisation, applicability or correctness, and refuted exactly if one does."
pub accurate : (σ : Subject) → Accurate σ
unfolding total check_at
accurate σ =
    record {
      sound = λ e. obligations σ (look-whole σ (initialises []) (checks σ) e).1;
      complete = λ ob. ap (λ (l : Look). l.failed) (whole-look σ (initialises []) (checks σ)
          (λ q h. meets_obligations σ ob (check_at σ q) (listed-check σ (check_at σ q) (member-at (checks σ) q (initialises []) h))));
      whole = λ e. (look-whole σ (initialises []) (checks σ) e).0;
      first = λ e.
          let s : First σ (initialises []) (checks σ) (look σ (checks σ)) = look-first σ (initialises []) (checks σ) e in
          (s.0, (s.1, record { inside = s.2; fails = s.3; before = s.4 }));
    }

-- where the first check fails that does, one look over all checks ends; one of the two verdicts comes
pub failing-look : (σ : Subject) (q : ℕ) → FirstFailing σ q → look σ (checks σ) ≡ record { count = suc q; failed = true }
unfolding total check_at
failing-look σ q f = first-look σ (initialises []) (checks σ) q f.inside f.fails f.before

pub decided : (σ : Subject) → Obligations σ ⊎ ((q : ℕ) × FirstFailing σ q)
decided σ = go (whole_fails σ) refl
  where
    go : (t : Bool) → whole_fails σ ≡ t → Obligations σ ⊎ ((q : ℕ) × FirstFailing σ q)
    go false e = inl ((accurate σ).sound e)
    go true e = inr (((accurate σ).first e).0, ((accurate σ).first e).1.1)
