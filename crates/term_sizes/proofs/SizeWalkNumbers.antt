-- Sizes and faults as the walk computes them one by one: by the codes of symbols, and from the sizes and faults of the parts.
use mathlib.Core.Path.{◌≡◌, refl, sym, ap, ap₂, ◌∙◌}
use mathlib.Core.Bool.{Bool, true, false, cond}
use Prim.Native.Nat.{ℕ, zero, suc, ◌+◌, ◌*◌, ◌≤◌, ◌<◌}
use native.Mathlib.Decide.{dec_lt}
use native.Mathlib.Omega.{arith}
use native.Mathlib.Nat.{mul-le-mul}
use lib.Dec.{leb, ltb}
use borrow.Author.Tests.{leb-true, ne_eqb}
use Rattle.lexical.specs.Kinds.{code_of}
use Rattle.form.specs.Tree.{Prefix, negate, size, dom, ran, Operator, plus, minus, union, without, times, inter, Division, quotient, remainder}
use Rattle.form.specs.Written.{prefix_kind, operator_kind}
use Rattle.form.specs.Codes.{sign_of, division_number}
use Rattle.type_rules.specs.TypesByNumber.{key, unless_key, lesser, judged_key}
use Rattle.names.proofs.TypesAgreeLeast.{lesser-zero, positive}
use Rattle.term_sizes.specs.SizesByNumber.{prefix_bound, operator_bound, division_bound}

-- one of two numbers, by a law for each
pub either : {P : Type 0} {k m : ℕ} → m ≤ k → k ≤ suc m → (k ≡ m → P) → (k ≡ suc m → P) → P
either {k = k} {m = m} lo hi f g = elim (dec_lt m k) [ yes l ↦ g (omega arith) | no n ↦ f (omega arith) ]

-- ---- by the codes of symbols ----

pub negate-bound : (o a : ℕ) → o ≡ 29 → (p : Prefix) → code_of (prefix_kind p) ≡ o → a ≡ prefix_bound p a
unfolding code_of prefix_bound
negate-bound o a h negate e = refl
negate-bound o a h size e = absurd (omega arith)
negate-bound o a h dom e = absurd (omega arith)
negate-bound o a h ran e = absurd (omega arith)

pub count-bound : (o a : ℕ) → o ≡ 31 → (p : Prefix) → code_of (prefix_kind p) ≡ o → 16 ≡ prefix_bound p a
unfolding code_of prefix_bound
count-bound o a h negate e = absurd (omega arith)
count-bound o a h size e = refl
count-bound o a h dom e = absurd (omega arith)
count-bound o a h ran e = absurd (omega arith)

pub side-bound : (o a : ℕ) → (o ≡ 29 → ⊥) → (o ≡ 31 → ⊥) → (p : Prefix) → code_of (prefix_kind p) ≡ o → 0 ≡ prefix_bound p a
unfolding code_of prefix_bound
side-bound o a h g negate e = absurd (h (sym e))
side-bound o a h g size e = absurd (g (sym e))
side-bound o a h g dom e = refl
side-bound o a h g ran e = refl

pub sum-bound : (o a b : ℕ) → 28 ≤ o → o ≤ 29 → (p : Operator) → code_of (operator_kind p) ≡ o → a + b ≡ operator_bound p a b
unfolding code_of operator_bound
sum-bound o a b lo hi plus e = refl
sum-bound o a b lo hi minus e = refl
sum-bound o a b lo hi union e = absurd (omega arith)
sum-bound o a b lo hi without e = absurd (omega arith)
sum-bound o a b lo hi times e = absurd (omega arith)
sum-bound o a b lo hi inter e = absurd (omega arith)

pub times-bound : (o a b : ℕ) → o ≡ 30 → (p : Operator) → code_of (operator_kind p) ≡ o → a * b ≡ operator_bound p a b
unfolding code_of operator_bound
times-bound o a b h plus e = absurd (omega arith)
times-bound o a b h minus e = absurd (omega arith)
times-bound o a b h union e = absurd (omega arith)
times-bound o a b h without e = absurd (omega arith)
times-bound o a b h times e = refl
times-bound o a b h inter e = absurd (omega arith)

pub sets-bound : (o a b : ℕ) → (o ≡ 28 → ⊥) → (o ≡ 29 → ⊥) → (o ≡ 30 → ⊥) → (p : Operator) → code_of (operator_kind p) ≡ o → 0 ≡ operator_bound p a b
unfolding code_of operator_bound
sets-bound o a b f g h plus e = absurd (f (sym e))
sets-bound o a b f g h minus e = absurd (g (sym e))
sets-bound o a b f g h union e = refl
sets-bound o a b f g h without e = refl
sets-bound o a b f g h times e = absurd (h (sym e))
sets-bound o a b f g h inter e = refl

-- a divisor's sign stands beside which of the two divisions it is
pub quotient-bound : (o n a : ℕ) → o < 2 → (p : Division) (s : Bool) → sign_of s + division_number p ≡ o → a ≡ division_bound p a n
unfolding division_bound
quotient-bound o n a h quotient s e = refl
quotient-bound o n a h remainder true e = absurd (omega arith)
quotient-bound o n a h remainder false e = absurd (omega arith)

pub remainder-bound : (o n a : ℕ) → 2 ≤ o → (p : Division) (s : Bool) → sign_of s + division_number p ≡ o → n ≡ division_bound p a n
unfolding division_bound
remainder-bound o n a h quotient true e = absurd (omega arith)
remainder-bound o n a h quotient false e = absurd (omega arith)
remainder-bound o n a h remainder s e = refl

pub product-fits : (a b : ℕ) → a ≤ 4294967295 → b ≤ 4294967295 → a * b < 18446744073709551616
product-fits a b h g =
    let w : a * b ≤ 4294967295 * 4294967295 = mul-le-mul {n₁ = a} {m₁ = b} {n₂ = 4294967295} {m₂ = 4294967295} (omega arith) (omega arith) in omega arith

-- ---- faults, and sizes where there is none ----

lesser-both : (a b : ℕ) → 1 ≤ a → 1 ≤ b → lesser a b ≡ cond (ltb b a) b a
unfolding lesser
lesser-both a b h g = rw (ne_eqb a 0 (positive a h), ne_eqb b 0 (positive b g))

-- the lesser of two faults is none only where both are
pub lesser-none : (a b : ℕ) → lesser a b ≡ 0 → (a ≡ 0) × (b ≡ 0)
unfolding lesser
lesser-none zero b h = (refl, h)
lesser-none (suc a) zero h = let w : suc a ≡ 0 = sym (lesser-zero (suc a)) ∙ h in absurd (omega arith)
lesser-none (suc a) (suc b) h = absurd (some (ltb (suc b) (suc a)) (sym (lesser-both (suc a) (suc b) (omega arith) (omega arith)) ∙ h))
  where
    some : (c : Bool) → cond c (suc b) (suc a) ≡ 0 → ⊥
    some true e = omega arith
    some false e = omega arith

judged-some : (b : Bool) (f m : ℕ) → 1 ≤ m → judged_key b f m ≡ m
judged-some b f m h = ap (λ (t : Bool). cond t (unless_key b f) m) (ne_eqb m 0 (positive m h))

-- an operation with no fault: its parts have none, and its size is not too great
pub over_none : (n i m : ℕ) → judged_key (leb n 2147483647) (key i 13) m ≡ 0 → (m ≡ 0) × (n ≤ 2147483647)
over_none n i zero h = (refl, on (leb n 2147483647) refl h)
  where
    on : (b : Bool) → leb n 2147483647 ≡ b → unless_key b (key i 13) ≡ 0 → n ≤ 2147483647
    on true q e = leb-true n 2147483647 q
    on false q e = absurd (omega arith)
over_none n i (suc m) h =
    let w : suc m ≡ 0 = sym (judged-some (leb n 2147483647) (key i 13) (suc m) (omega arith)) ∙ h in absurd (omega arith)

-- the size of an operation counts only where its parts have no fault
pub over-seen : (n k w i m p : ℕ) → w ≡ i → m ≡ p → (p ≡ 0 → n ≡ k) → judged_key (leb n 2147483647) (key w 13) m ≡ judged_key (leb k 2147483647) (key i 13) p
over-seen n k w i m p wq mq nq = ap₂ (λ (j x : ℕ). judged_key (leb n 2147483647) (key j 13) x) wq mq ∙ on p nq
  where
    on : (p : ℕ) → (p ≡ 0 → n ≡ k) → judged_key (leb n 2147483647) (key i 13) p ≡ judged_key (leb k 2147483647) (key i 13) p
    on zero h = ap (λ (x : ℕ). unless_key (leb x 2147483647) (key i 13)) (h refl)
    on (suc p) h =
        judged-some (leb n 2147483647) (key i 13) (suc p) (omega arith) ∙ sym (judged-some (leb k 2147483647) (key i 13) (suc p) (omega arith))
