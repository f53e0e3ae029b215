-- What a search over places has looked at, as one look over the checks; searches one behind the other. Assumes nothing.
use mathlib.Core.Path.{◌≡◌, refl, sym, ap, ◌∙◌}
use mathlib.Core.Bool.{Bool, true, false, true≢false, cond}
use Prim.Native.Nat.{ℕ, suc, ◌+◌, ◌-◌, ◌<◌, ◌≤◌, min}
use native.Mathlib.Omega.{arith}
use native.Mathlib.Decide.{dec_lt}
use Rattle.obligations.specs.Subjects.{Subject}
use Rattle.obligations.specs.Order.{passes, total, Look, look}
use Rattle.obligations.specs.Report.{check_at}
use Rattle.obligations.proofs.Advances.{next_checks, advance-passes, advance-fails}
use Rattle.nest_steps.specs.PartTests.{Looked}

-- whether the check at a place passes
abbrev pub passes_place : Subject → ℕ → Bool
passes_place σ q = passes σ (check_at σ q)

-- "Advance by n looks at the next n bindings, fewer if the verdict comes, and returns how many.": the one that fails is counted too
pub looked-look : (σ : Subject) (from n end at : ℕ) (failed : Bool) → from ≤ total σ → end ≡ min (from + n) (total σ)
    → Looked (passes_place σ) from end at failed
    → look σ (next_checks σ from n) ≡ record { count = cond failed (suc (at - from)) (at - from); failed = failed }
looked-look σ from n end at true l e w =
    advance-fails σ from n at w.low (omega (arith, (w.fault refl).0)) w.past (w.fault refl).1
looked-look σ from n end at false l e w =
    let s : at ≡ min (from + n) (total σ) = w.whole refl ∙ e in
    advance-passes σ from n l (λ q low high. w.past q low (omega arith))
    ∙ ap {B = Look} (λ (m : ℕ). record { count = m - from; failed = false }) (sym s)

-- a part that begins at a place of the whole
pub looked-part : (f g : ℕ → Bool) (begin size : ℕ) → ((q : ℕ) → q < size → f q ≡ g (begin + q))
    → (from end at : ℕ) (failed : Bool) → end ≤ size → Looked f from end at failed → Looked g (begin + from) (begin + end) (begin + at) failed
looked-part f g begin size same from end at failed l w =
    record {
      low = omega (arith, w.low);
      high = omega (arith, w.high);
      past = λ j low high.
          let s : begin + (j - begin) ≡ j = omega arith in
          ap g (sym s) ∙ sym (same (j - begin) (omega (arith, w.high))) ∙ w.past (j - begin) (omega arith) (omega arith);
      whole = λ e. ap (λ (n : ℕ). begin + n) (w.whole e);
      fault = λ e. (omega (arith, (w.fault e).0), sym (same at (omega (arith, (w.fault e).0))) ∙ (w.fault e).1);
    }

pub looked-none : (g : ℕ → Bool) (p : ℕ) → Looked g p p p false
looked-none g p =
    record {
      low = omega arith;
      high = omega arith;
      past = λ j low high. absurd (omega arith);
      whole = λ e. refl;
      fault = λ e. absurd (true≢false (sym e));
    }

-- a search that came to its end, and one from there on
pub looked-join : (g : ℕ → Bool) (p m end at : ℕ) (failed : Bool) → Looked g p m m false → Looked g m end at failed → Looked g p end at failed
looked-join g p m end at failed v w =
    record {
      low = omega (arith, v.low, w.low);
      high = w.high;
      past = λ j low high. elim (dec_lt j m) [ yes l ↦ v.past j low l | no l ↦ w.past j (omega arith) high ];
      whole = w.whole;
      fault = w.fault;
    }
