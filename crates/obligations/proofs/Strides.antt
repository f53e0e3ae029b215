-- Demand 2 through the calls: what one advance does, by one look over all checks. Assumes nothing.
use mathlib.Core.Path.{◌≡◌, refl, sym, ap, ap₂, ◌∙◌}
use mathlib.Core.Bool.{Bool, true, false, cond, ◌||◌}
use mathlib.Core.List.{[]}
use Prim.Native.Nat.{ℕ, suc, pred, ◌+◌, ◌-◌, ◌<◌, ◌≤◌, min}
use native.Mathlib.Decide.{dec_lt}
use native.Mathlib.Omega.{arith}
use borrow.Author.Tests.{le-leb, lt-leb, le-ltb, lt-ltb, ne_eqb}
use lib.Dec.{eqb, ltb}
use lib.ListN.{length-append, length-map}
use Rattle.static_rules.specs.Limits.{binding_count}
use Rattle.static_rules.specs.Scope.{unprimed}
use Rattle.meaning.specs.Operations.{concrete_bindings}
use Rattle.std.proofs.lemmas.Bool.{cond-false}
use Rattle.carriers.proofs.Bindings.{bindings-some, bindings-count}
use Rattle.obligations.specs.Subjects.{Subject}
use Rattle.obligations.specs.Order.{obligation_of, initialises, passes, operation_checks, opening, checks, total, Look, look}
use Rattle.obligations.specs.Report.{check_at}
use Rattle.obligations.specs.Calls.{Verdict, unfinished, accepted, refuted, holding, advance, looked, outcome, verdict_at, advanced, advancing, respond}
use Rattle.obligations.specs.CallDemands.{FirstFailing, whole_count, whole_fails, whole_verdict, verdict_by, verdict_after, Advances}
use Rattle.obligations.proofs.Looks.{look-whole}
use Rattle.obligations.proofs.Accuracy.{accurate}
use Rattle.obligations.proofs.Advances.{next_checks, advance-passes, advance-fails}

module _ (σ : Subject) where
  -- one look over all checks ends within them, and what it looked at before the last one passes
  pub count-within : whole_count σ ≤ total σ
  count-within = go (whole_fails σ) refl
    where
      go : (t : Bool) → whole_fails σ ≡ t → whole_count σ ≤ total σ
      go false e = omega (arith, (accurate σ).whole e)
      go true e =
          let s : (q : ℕ) × ((whole_count σ ≡ suc q) × FirstFailing σ q) = (accurate σ).first e in
          let l : s.0 < total σ = s.1.1.inside in
          omega (arith, s.1.0)

  pub pass-before : (q : ℕ) → suc q < whole_count σ → passes σ (check_at σ q) ≡ true
  unfolding total check_at
  pass-before q h = go (whole_fails σ) refl
    where
      go : (t : Bool) → whole_fails σ ≡ t → passes σ (check_at σ q) ≡ true
      go false e = (look-whole σ (initialises []) (checks σ) e).1 q (omega (arith, (accurate σ).whole e))
      go true e =
          let s : (q : ℕ) × ((whole_count σ ≡ suc q) × FirstFailing σ q) = (accurate σ).first e in
          s.1.1.before q (omega (arith, s.1.0))

  pub pass-whole : (q : ℕ) → whole_fails σ ≡ false → q < total σ → passes σ (check_at σ q) ≡ true
  unfolding total check_at
  pass-whole q e h = (look-whole σ (initialises []) (checks σ) e).1 q h

  -- the verdict of an advance: at the end of the look where no check fails, before it, and at its end where one fails
  verdict-passed : (q : ℕ) → q ≡ whole_count σ → whole_fails σ ≡ false → verdict_at σ q false ≡ verdict_after σ q
  unfolding verdict_at
  verdict-passed q h e =
      ap (λ (t : Bool). cond t accepted unfinished) (le-leb (total σ) _ (omega (arith, (accurate σ).whole e)))
      ∙ ap (λ (t : Bool). verdict_by t (obligation_of (check_at σ (pred (whole_count σ))))) (sym e)
      ∙ ap (λ (t : Bool). cond t unfinished (whole_verdict σ)) (sym (le-ltb q (whole_count σ) (omega arith)))

  verdict-before : (q : ℕ) → q < whole_count σ → verdict_at σ q false ≡ verdict_after σ q
  unfolding verdict_at
  verdict-before q h =
      ap (λ (t : Bool). cond t accepted unfinished) (lt-leb (total σ) _ (omega (arith, count-within)))
      ∙ ap (λ (t : Bool). cond t unfinished (whole_verdict σ)) (sym (lt-ltb q (whole_count σ) h))

  verdict-failed : (q : ℕ) → q ≡ whole_count σ → whole_fails σ ≡ true → verdict_at σ q true ≡ verdict_after σ q
  unfolding verdict_at
  verdict-failed q h e =
      ap (λ (k : ℕ). refuted (obligation_of (check_at σ (pred k)))) h
      ∙ ap (λ (t : Bool). verdict_by t (obligation_of (check_at σ (pred (whole_count σ))))) (sym e)
      ∙ ap (λ (t : Bool). cond t unfinished (whole_verdict σ)) (sym (le-ltb q (whole_count σ) (omega arith)))

module _ (σ : Subject) (p n : ℕ) (below : p < whole_count σ) (one : 1 ≤ n) (most : n ≤ 1000000000) where
  abbrev far : ℕ
  far = min n (whole_count σ - p)

  in-range : (eqb n 0 || ltb 1000000000 n) ≡ false
  in-range = ap₂ ◌||◌ (ne_eqb n 0 (λ e. absurd (omega arith))) (le-ltb 1000000000 n most)

  by-look : (t : Bool) → look σ (next_checks σ p n) ≡ record { count = far; failed = t } → verdict_at σ (p + far) t ≡ verdict_after σ (p + far)
      → respond (holding σ p unfinished) (advance n) ≡ outcome (looked far) (holding σ (p + far) (verdict_after σ (p + far))) []
  unfolding respond advancing advanced
  by-look t e v =
      cond-false _ _ (advanced σ p (look σ (next_checks σ p n))) in-range
      ∙ ap (advanced σ p) e
      ∙ ap (λ (w : Verdict). outcome (looked far) (holding σ (p + far) w) []) v

  advanced-by : respond (holding σ p unfinished) (advance n) ≡ outcome (looked far) (holding σ (p + far) (verdict_after σ (p + far))) []
  advanced-by = elim (dec_lt (p + n) (whole_count σ)) [
    | yes l ↦ short l
    | no l ↦ long (whole_fails σ) refl (omega arith)
  ]
    where
      short : p + n < whole_count σ → respond (holding σ p unfinished) (advance n) ≡ outcome (looked far) (holding σ (p + far) (verdict_after σ (p + far))) []
      short l =
          let k : min (p + n) (total σ) - p ≡ far = omega (arith, count-within σ) in
          by-look false
          (advance-passes σ p n (omega (arith, count-within σ)) (λ q a b. pass-before σ q (omega arith))
          ∙ ap {B = Look} (λ (j : ℕ). record { count = j; failed = false }) k)
          (verdict-before σ (p + far) (omega arith))

      long : (t : Bool) → whole_fails σ ≡ t → whole_count σ ≤ p + n
          → respond (holding σ p unfinished) (advance n) ≡ outcome (looked far) (holding σ (p + far) (verdict_after σ (p + far))) []
      long false e l =
          let k : min (p + n) (total σ) - p ≡ far = omega (arith, (accurate σ).whole e) in
          by-look false
          (advance-passes σ p n (omega (arith, count-within σ)) (λ q a b. pass-whole σ q e (omega arith))
          ∙ ap {B = Look} (λ (j : ℕ). record { count = j; failed = false }) k)
          (verdict-passed σ (p + far) (omega arith) e)
      long true e l =
          let s : (q : ℕ) × ((whole_count σ ≡ suc q) × FirstFailing σ q) = (accurate σ).first e in
          let i : s.0 < total σ = s.1.1.inside in
          let k : suc (s.0 - p) ≡ far = omega (arith, s.1.0) in
          by-look true
          (advance-fails σ p n s.0 (omega (arith, s.1.0)) (omega (arith, s.1.0)) (λ q a b. s.1.1.before q b) s.1.1.fails
          ∙ ap {B = Look} (λ (j : ℕ). record { count = j; failed = true }) k)
          (verdict-failed σ (p + far) (omega arith) e)

-- "Advance by n looks at the next n bindings, fewer if the verdict comes, and returns how many."
pub advances : Advances
advances = advanced-by

-- no carrier is empty, so there is a first binding to look at
total-positive : (σ : Subject) → 0 < total σ
unfolding total checks opening concrete_bindings
total-positive σ =
    let s : 0 < binding_count (unprimed σ.dossier σ.dossier.concrete) = bindings-some (unprimed σ.dossier σ.dossier.concrete) in
    omega (arith, length-append (opening σ) (operation_checks σ.dossier 0 σ.dossier.operations), length-map (concrete_bindings σ.dossier) initialises, bindings-count (unprimed σ.dossier σ.dossier.concrete))

pub count-positive : (σ : Subject) → 0 < whole_count σ
count-positive σ = go (whole_fails σ) refl
  where
    go : (t : Bool) → whole_fails σ ≡ t → 0 < whole_count σ
    go false e = omega (arith, (accurate σ).whole e, total-positive σ)
    go true e = omega (arith, ((accurate σ).first e).1.0)
