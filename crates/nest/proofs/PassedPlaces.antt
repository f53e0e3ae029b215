-- Places that passed: a nest goes from block to block, at each level from its first block to the one that it stands at. Over plain numbers. Assumes nothing.
use mathlib.Core.Path.{◌≡◌, refl, sym, ap, subst, ◌∙◌}
use mathlib.Core.Bool.{Bool, true, false, false≢true, true≢false}
use Prim.Native.Nat.{ℕ, ◌+◌, ◌-◌, ◌*◌, ◌/◌, ◌%◌, ◌<◌, ◌≤◌}
use native.Mathlib.Nat.{le-div_iff_mul-le, div-lt_iff_lt-mul, div-mul-le_self}
use native.Mathlib.Decide.{dec_lt}
use native.Mathlib.Omega.{arith}
use lib.Arith.{digits_div, digits_mod}
use Rattle.plans.specs.PointsSearches.{Sought}
use Rattle.nest_steps.specs.PartTests.{Looked}
use Rattle.nest_steps.proofs.PassingBlocks.{div_in}

-- every place from `from` on that is before x, and before the end, passes
pub record Past (f : ℕ → Bool) (from end x : ℕ) : Type 0 where
  pub each : (j : ℕ) → from ≤ j → j < x → j < end → f j ≡ true

high_digit : (x n q e : ℕ) → q ≡ x * n + e → e < n → q / n ≡ x
high_digit x n q e w h = ap (λ (t : ℕ). t / n) w ∙ digits_div x h

low_digit : (x n q e : ℕ) → q ≡ x * n + e → e < n → q % n ≡ e
low_digit x n q e w h = ap (λ (t : ℕ). t % n) w ∙ digits_mod x h

module _ {f : ℕ → Bool} {from end : ℕ} where
  pub past-before : (x : ℕ) → x ≤ from → Past f from end x
  past-before x h = record { each = λ j g l m. absurd (none j g l) }
    where
      none : (j : ℕ) → from ≤ j → j < x → ⊥
      none j g l = omega arith

  pub past_same : {x y : ℕ} → x ≡ y → Past f from end x → Past f from end y
  past_same e w = subst (Past f from end) e w

  -- the blocks of size s from number y up to number z pass
  past-blocks : (s y z : ℕ) → 0 < s → Past f from end (y * s) → ((j : ℕ) → y ≤ j / s → j / s < z → f j ≡ true) → Past f from end (z * s)
  past-blocks s y z h w all = record { each = go }
    where
      go : (j : ℕ) → from ≤ j → j < z * s → j < end → f j ≡ true
      go j g l m = elim (dec_lt j (y * s)) [ yes q ↦ w.each j g q m | no q ↦ all j ((le-div_iff_mul-le h).1 (omega arith)) ((div-lt_iff_lt-mul h).1 l) ]

  -- from block c of the outer block x a search went to block d: what it passed over is false
  pub past-step : (g : ℕ → Bool) (n s x c d : ℕ) → 0 < s → Past f from end ((x * n + c) * s) → Sought g c n d
      → ((j : ℕ) → j / s / n ≡ x → j / s % n < n → g (j / s % n) ≡ false → f j ≡ true) → Past f from end ((x * n + d) * s)
  past-step g n s x c d h w r all = past-blocks s (x * n + c) (x * n + d) h w (λ j l m. go j l m r.high)
    where
      at-digit : (j e : ℕ) → j / s ≡ x * n + e → e < n → c ≤ e → e < d → f j ≡ true
      at-digit j e q k l m =
          let e-is : j / s % n ≡ e = low_digit x n (j / s) e q k in
          all j (high_digit x n (j / s) e q k) (subst (λ (t : ℕ). t < n) (sym e-is) k) (ap g e-is ∙ r.past e l m)

      go : (j : ℕ) → x * n + c ≤ j / s → j / s < x * n + d → d ≤ n → f j ≡ true
      go j l m k = at-digit j (j / s - x * n) (omega arith) (omega arith) (omega arith) (omega arith)

  -- one place more
  pub past_more : (x n k : ℕ) → Past f from end ((x * n + k) * 1) → f (x * n + k) ≡ true → Past f from end ((x * n + (k + 1)) * 1)
  past_more x n k w e = record { each = go }
    where
      go : (j : ℕ) → from ≤ j → j < (x * n + (k + 1)) * 1 → j < end → f j ≡ true
      go j g l m = elim (dec_lt j ((x * n + k) * 1)) [ yes q ↦ w.each j g q m | no q ↦ (let s : j ≡ x * n + k = omega arith in ap f s ∙ e) ]

  -- the first block that is looked at within block x: that of `from`, or the first
  pub past-enter : (n s x : ℕ) → Past f from end (x * (n * s)) → Past f from end ((x * n + (from / s - x * n)) * s)
  past-enter n s x w =
      elim (dec_lt (x * n) (from / s)) [
        | yes q ↦ past-before _ (subst (λ (t : ℕ). t * s ≤ from) (here q) (div-mul-le_self from s))
        | no q ↦ past_same (same (from / s - x * n) (omega arith)) w
      ]
    where
      here : x * n < from / s → from / s ≡ x * n + (from / s - x * n)
      here q = omega arith

      same : (e : ℕ) → e ≡ 0 → x * (n * s) ≡ (x * n + e) * s
      same e z = times ∙ ap (λ (t : ℕ). (x * n + t) * s) (sym z)
        where
          times : x * (n * s) ≡ (x * n + 0) * s
          times = omega arith

  -- a block whose inner blocks all passed
  pub past-leave : (n s x c : ℕ) → n ≤ c → c ≤ n → Past f from end ((x * n + c) * s) → Past f from end ((x + 1) * (n * s))
  past-leave n s x c h g w = past_same (same c (omega arith)) w
    where
      times : (x * n + n) * s ≡ (x + 1) * (n * s)
      times = omega arith

      same : (e : ℕ) → e ≡ n → (x * n + e) * s ≡ (x + 1) * (n * s)
      same e z = ap (λ (t : ℕ). (x * n + t) * s) z ∙ times

  -- all up to the end passed
  pub looked-all : (x : ℕ) → from ≤ end → end ≤ x → Past f from end x → Looked f from end end false
  looked-all x h g w =
      record { low = h; high = omega arith; past = λ j l m. w.each j l (before j m) m; whole = λ _. refl; fault = λ e. absurd (false≢true e) }
    where
      before : (j : ℕ) → j < end → j < x
      before j m = omega arith

  -- the first that fails
  pub looked-fault : (x : ℕ) → from ≤ x → x < end → f x ≡ false → Past f from end x → Looked f from end x true
  looked-fault x h g e w =
      record { low = h; high = omega arith; past = λ j l m. w.each j l m (before j m); whole = λ q. absurd (true≢false q); fault = λ _. (g, e) }
    where
      before : (j : ℕ) → j < x → j < end
      before j m = omega arith

-- over blocks that pass: from number c up to number d of the outer block x
pub past_open : {f : ℕ → Bool} {from end : ℕ} (n s x c d : ℕ) → 0 < s → Past f from end ((x * n + c) * s)
    → ((e : ℕ) → c ≤ e → e < d → (j : ℕ) → j / s ≡ x * n + e → f j ≡ true) → Past f from end ((x * n + d) * s)
past_open {f} n s x c d h w all = past-blocks s (x * n + c) (x * n + d) h w at
  where
    at : (j : ℕ) → x * n + c ≤ j / s → j / s < x * n + d → f j ≡ true
    at j l m = all (j / s - x * n) (omega arith) (omega arith) j (omega arith)

-- the first digit b within block x is no more than there are
pub enter-high : (from n s x b : ℕ) → 0 < n → 0 < s → from / (n * s) ≤ x → b ≡ from / s - x * n → b ≤ n
enter-high from n s x b p q h e =
    let l : from / s < (x + 1) * n = (div-lt_iff_lt-mul p).0 (subst (λ (t : ℕ). t < x + 1) (sym (div_in from n s)) (omega arith)) in
    omega arith

pub enter-last : (from n x b : ℕ) → 0 < n → from / n ≤ x → b ≡ from - x * n → b ≤ n
enter-last from n x b p h e =
    let l : from < (x + 1) * n = (div-lt_iff_lt-mul p).0 (omega arith) in
    omega arith
