-- A number in decimal: its last digit stands behind the digits of its tenth part, a number below 10 ^ d has at most d digits, and std prints the same.
use mathlib.Core.Path.{◌≡◌, refl, sym, ap, ◌∙◌}
use mathlib.Core.Bool.{Bool, true, false}
use mathlib.Core.List.{List, [], ◌∷◌, ◌++◌, append_assoc}
use Prim.Native.Nat.{ℕ, zero, suc, ◌+◌, ◌/◌, ◌%◌, ◌^◌, ◌≤◌, ◌<◌}
use native.Mathlib.Omega.{arith}
use native.Mathlib.Nat.{pow-suc}
use lib.Dec.{ltb}
use borrow.Author.Tests.{ltb-true, ltb-false, lt-ltb, le-ltb}
use lib.ListN.{length, length-append}
use Rattle.obligations.specs.Report.{decimal_before, decimal}
use Rattle.std.specs.Fmt as Fmt
use Rattle.std.proofs.lemmas.Fmt.{decimal_by_steps}

before-append : (f n : ℕ) (w : List ℕ) → decimal_before f n w ≡ decimal_before f n [] ++ w
unfolding decimal_before
before-append zero n w = refl
before-append (suc f) n w = on (ltb n 10) (λ v. before-append f (n / 10) v)
  where
    on : (t : Bool) → ((v : List ℕ) → decimal_before f (n / 10) v ≡ decimal_before f (n / 10) [] ++ v)
        → ◌≡◌ {A = List ℕ} (elim t [ true ↦ (n + 48) ∷ w | false ↦ decimal_before f (n / 10) ((n % 10 + 48) ∷ w) ])
        ((elim t [ true ↦ (n + 48) ∷ [] | false ↦ decimal_before f (n / 10) ((n % 10 + 48) ∷ []) ]) ++ w)
    on true r = refl
    on false r =
        r ((n % 10 + 48) ∷ w)
        ∙ sym (append_assoc (decimal_before f (n / 10) []) ((n % 10 + 48) ∷ []) w)
        ∙ ap (λ (v : List ℕ). v ++ w) (sym (r ((n % 10 + 48) ∷ [])))

-- how many digits are allowed does not matter, as long as they suffice
enough : (f g n : ℕ) (w : List ℕ) → n < f → n < g → decimal_before f n w ≡ decimal_before g n w
unfolding decimal_before
enough zero g n w h k = absurd (omega arith)
enough (suc f) zero n w h k = absurd (omega arith)
enough (suc f) (suc g) n w h k = on (ltb n 10) refl (λ a b. enough f g (n / 10) ((n % 10 + 48) ∷ w) a b)
  where
    on : (t : Bool) → ltb n 10 ≡ t → (n / 10 < f → n / 10 < g → decimal_before f (n / 10) ((n % 10 + 48) ∷ w) ≡ decimal_before g (n / 10) ((n % 10 + 48) ∷ w))
        → ◌≡◌ {A = List ℕ} (elim t [ true ↦ (n + 48) ∷ w | false ↦ decimal_before f (n / 10) ((n % 10 + 48) ∷ w) ])
        (elim t [ true ↦ (n + 48) ∷ w | false ↦ decimal_before g (n / 10) ((n % 10 + 48) ∷ w) ])
    on true e r = refl
    on false e r = let l = ltb-false n 10 e in r (omega arith) (omega arith)

pub one-digit : (n : ℕ) → n < 10 → decimal n ≡ (n + 48) ∷ []
unfolding decimal decimal_before
one-digit n h = ap (λ (t : Bool). elim t [ true ↦ (n + 48) ∷ [] | false ↦ decimal_before n (n / 10) ((n % 10 + 48) ∷ []) ]) (lt-ltb n 10 h)

pub last-digit : (n : ℕ) → 10 ≤ n → decimal n ≡ decimal (n / 10) ++ ((n % 10 + 48) ∷ [])
unfolding decimal decimal_before
last-digit n h =
    ap (λ (t : Bool). elim t [ true ↦ (n + 48) ∷ [] | false ↦ decimal_before n (n / 10) ((n % 10 + 48) ∷ []) ]) (le-ltb n 10 h)
    ∙ enough n (suc (n / 10)) (n / 10) ((n % 10 + 48) ∷ []) (omega arith) (omega arith)
    ∙ before-append (suc (n / 10)) (n / 10) ((n % 10 + 48) ∷ [])

pub few-digits : (d n : ℕ) → n < 10 ^ d → 1 ≤ d → length (decimal n) ≤ d
few-digits zero n h k = absurd (omega arith)
few-digits (suc zero) n h k = let l = ap (λ (w : List ℕ). length w) (one-digit n h) in omega arith
few-digits (suc (suc d)) n h k = on (ltb n 10) refl (few-digits (suc d) (n / 10))
  where
    on : (t : Bool) → ltb n 10 ≡ t → (n / 10 < 10 ^ suc d → 1 ≤ suc d → length (decimal (n / 10)) ≤ suc d) → length (decimal n) ≤ suc (suc d)
    on true e r = let l = ap (λ (w : List ℕ). length w) (one-digit n (ltb-true n 10 e)) in omega arith
    on false e r =
        let g = ltb-false n 10 e in
        let l = ap (λ (w : List ℕ). length w) (last-digit n g) in
        let s = length-append (decimal (n / 10)) ((n % 10 + 48) ∷ []) in
        let p = pow-suc 10 (suc d) in
        let m = r (omega arith) (omega arith) in
        omega arith

-- a number of 64 bits
pub decimal-length : (n : ℕ) → n < 2 ^ 64 → length (decimal n) ≤ 20
decimal-length n h = few-digits 20 n (omega arith) (omega arith)

-- what std prints of it
pub decimal-printed : (n : ℕ) → n < 2 ^ 64 → Fmt.decimal n ≡ decimal n
decimal-printed =
    decimal_by_steps (λ (m : ℕ) (w : List ℕ). w ≡ decimal m) (λ m l. let digit : 48 + m ≡ m + 48 = omega arith in ap (λ (k : ℕ). k ∷ []) digit ∙ sym (one-digit m l))
    (λ m w l h. let digit : 48 + m % 10 ≡ m % 10 + 48 = omega arith in (λ i. h i ++ (digit i ∷ [])) ∙ sym (last-digit m l))
