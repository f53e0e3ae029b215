-- What one advance comes to, by places: all of the next checks pass, or one is the first that does not. Assumes nothing.
use mathlib.Core.Path.{◌≡◌, ap, ◌∙◌}
use mathlib.Core.Bool.{true, false}
use mathlib.Core.List.{List, []}
use Prim.Native.Nat.{ℕ, suc, ◌+◌, ◌-◌, ◌<◌, ◌≤◌, min}
use native.Mathlib.Omega.{arith}
use lib.ListN.{length, get_or, take, drop, length-take, length-drop}
use lib.Seq.{get_or-take, get_or-drop}
use Rattle.obligations.specs.Subjects.{Subject}
use Rattle.obligations.specs.Order.{Check, initialises, passes, checks, total, Look, look}
use Rattle.obligations.specs.Report.{check_at}
use Rattle.obligations.proofs.Looks.{PassUpTo, whole-look, first-look}
use Rattle.obligations.proofs.Accuracy.{PassBetween}

-- the next n checks from the place p on
abbrev pub next_checks : Subject → (p n : ℕ) → List Check
next_checks σ p n = take n (drop p (checks σ))

pub next-length : (σ : Subject) (p n : ℕ) → length (next_checks σ p n) ≡ min n (total σ - p)
unfolding total
next-length σ p n = length-take n (drop p (checks σ)) ∙ ap (min n) (length-drop p (checks σ))

pub next-at : (σ : Subject) (p n r : ℕ) → r < length (next_checks σ p n) → get_or (next_checks σ p n) r (initialises []) ≡ check_at σ (p + r)
unfolding check_at
next-at σ p n r h =
    let l : r < n = omega (arith, next-length σ p n) in
    get_or-take n (drop p (checks σ)) r (initialises []) l ∙ get_or-drop p (checks σ) r (initialises [])

-- the next checks up to the m-th pass where those at the places up to p + m do
pass-next : (σ : Subject) (p n m : ℕ) → m ≤ length (next_checks σ p n) → PassBetween σ p (p + m) → PassUpTo σ (initialises []) (next_checks σ p n) m
pass-next σ p n m l f r h = ap (passes σ) (next-at σ p n r (omega arith)) ∙ f (p + r) (omega arith) (omega arith)

-- "Advance by n looks at the next n bindings, fewer if the verdict comes, and returns how many.": up to the place end none fails
pub advance-passes : (σ : Subject) (p n : ℕ) → p ≤ total σ → PassBetween σ p (min (p + n) (total σ))
    → look σ (next_checks σ p n) ≡ record { count = min (p + n) (total σ) - p; failed = false }
advance-passes σ p n l f =
    let e : length (next_checks σ p n) ≡ min (p + n) (total σ) - p = omega (arith, next-length σ p n) in
    let s : p + length (next_checks σ p n) ≡ min (p + n) (total σ) = omega (arith, next-length σ p n) in
    whole-look σ (initialises []) (next_checks σ p n)
    (pass-next σ p n (length (next_checks σ p n)) (omega arith) (λ q a b. f q a (omega arith)))
    ∙ ap {B = Look} (λ (k : ℕ). record { count = k; failed = false }) e

-- the check at the place q is the first that does not pass
pub advance-fails : (σ : Subject) (p n q : ℕ) → p ≤ q → q < min (p + n) (total σ) → PassBetween σ p q → passes σ (check_at σ q) ≡ false
    → look σ (next_checks σ p n) ≡ record { count = suc (q - p); failed = true }
advance-fails σ p n q l h f e =
    let k : q - p < length (next_checks σ p n) = omega (arith, next-length σ p n) in
    let s : p + (q - p) ≡ q = omega arith in
    first-look σ (initialises []) (next_checks σ p n) (q - p) k
    (ap (passes σ) (next-at σ p n (q - p) k ∙ ap (check_at σ) s) ∙ e)
    (pass-next σ p n (q - p) (omega arith) (λ j a b. f j a (omega arith)))
