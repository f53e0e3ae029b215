-- The loops over what is bound: what the values passed so far say of all of them. Assumes nothing.
use mathlib.Core.Path.{◌≡◌, refl, sym, ap, ap₂, subst, ◌∙◌}
use mathlib.Core.Bool.{Bool, true, false}
use mathlib.Core.List.{List}
use Prim.Native.Nat.{ℕ, suc, ◌+◌, ◌-◌, ◌*◌, ◌<◌, ◌≤◌}
use native.Mathlib.Nat.{sub_self, sub-zero, zero-add, lt_of_lt_of_le}
use native.Mathlib.Numerals.{add-one}
use native.Mathlib.Omega.{arith}
use lib.Dec.{eqb}
use lib.ListN.{get_or, set}
use lib.Pow.{pow_mono}
use lib.Seq.{set-set, set-get_or}
use lib.IntN.{ℤ, pos, ◌+ℤ◌}
use Rattle.std.specs.Int.{from_bool}
use Rattle.sets.specs.Sets.{bit, set_from, set_of, some_from, count_from}
use Rattle.sets.proofs.Members.{from-below}
use Rattle.sets.proofs.MaskBits.{byte_low, byte-bit, set-more}
use Rattle.operators.specs.EvaluationOperatorsByNumber.{asked}
use Rattle.operators.specs.EvaluationEvaluationByNumber.{Values, Inside, first_at, low_at, count_at, Bound, TruthIs}
use Rattle.evaluator.specs.EvaluationPromises.{TruthRuns, TruthAnswers, SuchRuns, SuchAnswers, Tests, BoundRuns, SomeAnswers, OnceAnswers}
use Rattle.evaluator.proofs.TruthLaws.{truth-at, truth-runs}

-- ---- the slots: equal but at one of them

pub still : (l l₀ : Values) {m : Values} (s : ℕ) (z : ℤ) → m ≡ set l s z → ((v : ℤ) → set l s v ≡ set l₀ s v) → (v : ℤ) → set m s v ≡ set l₀ s v
still l l₀ s z h same v = ap (λ (x : Values). set x s v) h ∙ set-set l s z v ∙ same v

-- a slot is named by a number in the table
pub at-slot : {l : Values} (l₀ : Values) {s i : ℕ} {x y : ℤ} → s ≡ i → l ≡ set l₀ s x → x ≡ y → l ≡ set l₀ i y
at-slot l₀ q h e = h ∙ ap₂ (set l₀) q e

-- the slot is given back what it had
pub given_back : (l l₀ : Values) (s : ℕ) {z : ℤ} → ((v : ℤ) → set l s v ≡ set l₀ s v) → z ≡ get_or l₀ s (pos 0) → set l s z ≡ l₀
given_back l l₀ s {z} same old = same z ∙ ap (set l₀ s) old ∙ set-get_or l₀ s (pos 0)

-- ---- sums over numbers

unfold-one : (n k : ℕ) → k < n → n - k ≡ suc (n - (k + 1))
unfold-one n k h = omega arith

set-step : (g : ℕ → Bool) (n k s r : ℕ) (b : Bool) → r ≡ from_bool b → s ≡ set_from g k (n - k) → 0 < k → k ≤ n → b ≡ g (k - 1)
    → 2 * s + r ≡ set_from g (k - 1) (n - (k - 1))
set-step g n k s r b q e h l said =
    let up : k ≡ suc (k - 1) = omega arith in
    let more : suc (n - k) ≡ n - (k - 1) = omega arith in
    set-more g (k - 1) (n - k) s r b q (e ∙ ap (λ (j : ℕ). set_from g j (n - k)) up) said ∙ ap (set_from g (k - 1)) more

set-end : (g : ℕ → Bool) (n k : ℕ) → k ≤ 0 → set_from g k (n - k) ≡ set_from g 0 n
set-end g n k h = (let z : k ≡ 0 = omega arith in ap (λ (j : ℕ). set_from g j (n - j)) z) ∙ ap (set_from g 0) (sub-zero n)

some-here : (g : ℕ → Bool) (n k : ℕ) → k < n → g k ≡ true → true ≡ some_from g k (n - k)
unfolding some_from
some-here g n k h e = rw (unfold-one n k h, some_from, e) refl

some-later : (g : ℕ → Bool) (n k : ℕ) → k < n → g k ≡ false → some_from g (k + 1) (n - (k + 1)) ≡ some_from g k (n - k)
unfolding some_from
some-later g n k h e = ap (λ (j : ℕ). some_from g j (n - (k + 1))) (add-one k) ∙ rw (unfold-one n k h, some_from, e) refl

some_end : (g : ℕ → Bool) (n k : ℕ) → n ≤ k → false ≡ some_from g k (n - k)
unfolding some_from
some_end g n k h = let z : 0 ≡ n - k = omega arith in ap (some_from g k) z

count-step : (g : ℕ → Bool) (n k m X r : ℕ) (b : Bool) → r ≡ from_bool b → m + count_from g k (n - k) ≡ X → k < n → b ≡ g k
    → m + r + count_from g (k + 1) (n - (k + 1)) ≡ X
unfolding count_from
count-step g n k m X r b q e h said =
    let z : count_from g k (n - k) ≡ bit (g k) + count_from g (suc k) (n - (k + 1)) = ap (count_from g k) (unfold-one n k h) in
    let y : count_from g (k + 1) (n - (k + 1)) ≡ count_from g (suc k) (n - (k + 1)) = ap (λ (j : ℕ). count_from g j (n - (k + 1))) (add-one k) in
    let w : r ≡ bit (g k) = q ∙ byte-bit b ∙ ap bit said in
    omega arith

count-end : (g : ℕ → Bool) (n k m X : ℕ) → m + count_from g k (n - k) ≡ X → n ≤ k → m ≡ X
unfolding count_from
count-end g n k m X e h =
    let z : count_from g k (n - k) ≡ 0 = (let y : n - k ≡ 0 = omega arith in ap (count_from g k) y) in
    omega arith

count-start : (g : ℕ → Bool) (n : ℕ) → 0 + count_from g 0 (n - 0) ≡ count_from g 0 n
count-start g n = zero-add (count_from g 0 (n - 0)) ∙ ap (count_from g 0) (sub-zero n)

-- ---- the predicate at one of the values

bound-part : (f : ℕ) (t : List ℕ) {end slot n : ℕ} {low : ℤ} {ρ σ : Values} {g : ℕ → Bool} (k : ℕ)
    → Bound (λ j τ b. TruthIs f t j τ b) end slot low n ρ g → k < n → σ ≡ set ρ slot (low +ℤ pos k) → Inside end × TruthRuns t end σ
bound-part f t {g = g} k B h q = truth-at q (truth-runs f (g k) (B.each k h))

bound-says : (f : ℕ) (t : List ℕ) {end slot n : ℕ} {low : ℤ} {ρ σ : Values} {g : ℕ → Bool} {b : Bool} (k : ℕ)
    → Bound (λ j τ c. TruthIs f t j τ c) end slot low n ρ g → k < n → σ ≡ set ρ slot (low +ℤ pos k) → TruthAnswers t end σ b → b ≡ g k
bound-says f t {end} {g = g} k B h q a = a.is f (g k) (subst (λ (l : Values). TruthIs f t end l (g k)) (sym q) (B.each k h))

from_zero : {σ : Values} (ρ : Values) (s k : ℕ) → σ ≡ set ρ s (pos k) → σ ≡ set ρ s (pos 0 +ℤ pos k)
from_zero ρ s k q = q ∙ ap (λ (n : ℕ). set ρ s (pos n)) (sym (zero-add k))

below-before : (n k : ℕ) → 0 < k → k ≤ n → k - 1 < n
below-before n k h l = omega arith

-- ---- {x : G | p}: the bits from k on are made

pub record SuchSoFar (t : List ℕ) (e : ℕ) (ρ : Values) (k s : ℕ) : Type 0 where
  pub is : (f : ℕ) (g : ℕ → Bool) → Bound (λ j σ b. TruthIs f t j σ b) (e - 8) (first_at t e) (pos 0) (count_at t (e - 4)) ρ g
      → s ≡ set_from g k (count_at t (e - 4) - k)

module _ {t : List ℕ} {e : ℕ} {ρ : Values} where
  pub such-start : SuchSoFar t e ρ (count_at t (e - 4)) 0
  unfolding set_from
  such-start = record { is = λ f g B. ap (set_from g (count_at t (e - 4))) (sym (sub_self (count_at t (e - 4)))) }

  pub such-part : {σ : Values} {k : ℕ} → SuchRuns t e ρ → 0 < k → k ≤ count_at t (e - 4) → σ ≡ set ρ (first_at t e) (pos (k - 1))
      → Inside (e - 8) × TruthRuns t (e - 8) σ
  such-part {k = k} r h l q =
      bound-part r.fuel t (k - 1) r.is.bound (below-before (count_at t (e - 4)) k h l) (from_zero ρ (first_at t e) (k - 1) q)

  pub such-small : {k s : ℕ} → SuchRuns t e ρ → SuchSoFar t e ρ k s → s < 65536
  such-small {k} {s} r S =
      let few : count_at t (e - 4) ≤ 16 = r.is.few in
      subst (λ (x : ℕ). x < 65536) (sym (S.is r.fuel r.is.test r.is.bound))
      (lt_of_lt_of_le (from-below r.is.test k (count_at t (e - 4) - k)) (pow_mono {i = count_at t (e - 4) - k} {j = 16} (omega arith)))

  pub such-step : {σ : Values} {k s r : ℕ} {b : Bool} → r ≡ from_bool b → SuchSoFar t e ρ k s → 0 < k → k ≤ count_at t (e - 4) → σ ≡ set ρ (first_at t e) (pos (k - 1))
      → TruthAnswers t (e - 8) σ b → SuchSoFar t e ρ (k - 1) (2 * s + r)
  such-step {k = k} {s} {r} {b} i S h l q a = record {
    is = λ f g B. set-step g (count_at t (e - 4)) k s r b i (S.is f g B) h l
        (bound-says f t (k - 1) B (below-before (count_at t (e - 4)) k h l) (from_zero ρ (first_at t e) (k - 1) q) a);
  }

  pub such-done : {k s : ℕ} {r : ℤ} → SuchSoFar t e ρ k s → k ≤ 0 → r ≡ pos s → SuchAnswers t e ρ r
  unfolding set_of
  such-done {k} S h q = record {
    is = λ f v n. q ∙ ap pos (S.is f n.test n.bound ∙ set-end n.test (count_at t (e - 4)) k h) ∙ sym n.is;
  }

-- ---- forall and exists: none before k is as wanted

pub record SomeSoFar (t : List ℕ) (e : ℕ) (ρ : Values) (wanted : Bool) (k : ℕ) : Type 0 where
  pub is : (f : ℕ) (g : ℕ → Bool) → Tests f t e ρ g
      → some_from (λ j. asked wanted (g j)) k (count_at t (e - 4) - k) ≡ some_from (λ j. asked wanted (g j)) 0 (count_at t (e - 4))

module _ {t : List ℕ} {e : ℕ} {ρ : Values} where
  pub test-part : {σ : Values} {k : ℕ} → BoundRuns t e ρ → k < count_at t (e - 4) → σ ≡ set ρ (first_at t e) (low_at t (e - 4) +ℤ pos k)
      → Inside (e - 8) × TruthRuns t (e - 8) σ
  test-part {k = k} r h q = bound-part r.fuel t k r.bound h q

  pub some-start : {wanted : Bool} → SomeSoFar t e ρ wanted 0
  some-start {wanted} = record { is = λ f g B. ap (some_from (λ j. asked wanted (g j)) 0) (sub-zero (count_at t (e - 4))) }

  pub some-step : {σ : Values} {k : ℕ} {b wanted : Bool} → SomeSoFar t e ρ wanted k → k < count_at t (e - 4)
      → σ ≡ set ρ (first_at t e) (low_at t (e - 4) +ℤ pos k) → TruthAnswers t (e - 8) σ b → asked wanted b ≡ false → SomeSoFar t e ρ wanted (k + 1)
  some-step {k = k} {wanted = wanted} S h q a not_so = record {
    is = λ f g B. some-later (λ j. asked wanted (g j)) (count_at t (e - 4)) k h (ap (asked wanted) (sym (bound-says f t k B h q a)) ∙ not_so)
        ∙ S.is f g B;
  }

  pub some-found : {σ : Values} {k : ℕ} {b wanted : Bool} → SomeSoFar t e ρ wanted k → k < count_at t (e - 4)
      → σ ≡ set ρ (first_at t e) (low_at t (e - 4) +ℤ pos k) → TruthAnswers t (e - 8) σ b → asked wanted b ≡ true → SomeAnswers t e ρ wanted true
  some-found {k = k} {wanted = wanted} S h q a so = record {
    is = λ f g B. some-here (λ j. asked wanted (g j)) (count_at t (e - 4)) k h (ap (asked wanted) (sym (bound-says f t k B h q a)) ∙ so)
        ∙ S.is f g B;
  }

  pub some-none : {k : ℕ} {wanted : Bool} → SomeSoFar t e ρ wanted k → count_at t (e - 4) ≤ k → SomeAnswers t e ρ wanted false
  some-none {k} {wanted} S h = record { is = λ f g B. some_end (λ j. asked wanted (g j)) (count_at t (e - 4)) k h ∙ S.is f g B }

-- ---- exists1: those before k are counted

pub record OnceSoFar (t : List ℕ) (e : ℕ) (ρ : Values) (k found : ℕ) : Type 0 where
  pub is : (f : ℕ) (g : ℕ → Bool) → Tests f t e ρ g → found + count_from g k (count_at t (e - 4) - k) ≡ count_from g 0 (count_at t (e - 4))

module _ {t : List ℕ} {e : ℕ} {ρ : Values} where
  pub once-start : OnceSoFar t e ρ 0 0
  once-start = record { is = λ f g B. count-start g (count_at t (e - 4)) }

  pub once-step : {σ : Values} {k found r : ℕ} {b : Bool} → r ≡ from_bool b → OnceSoFar t e ρ k found → k < count_at t (e - 4)
      → σ ≡ set ρ (first_at t e) (low_at t (e - 4) +ℤ pos k) → TruthAnswers t (e - 8) σ b → OnceSoFar t e ρ (k + 1) (found + r)
  once-step {k = k} {found} {r} {b} i S h q a = record {
    is = λ f g B. count-step g (count_at t (e - 4)) k found (count_from g 0 (count_at t (e - 4))) r b i (S.is f g B) h (bound-says f t k B h q a);
  }

  pub once-done : {k found : ℕ} → OnceSoFar t e ρ k found → count_at t (e - 4) ≤ k → OnceAnswers t e ρ (eqb found 1)
  once-done {k} {found} S h = record {
    is = λ f g B. ap (λ (x : ℕ). eqb x 1) (count-end g (count_at t (e - 4)) k found (count_from g 0 (count_at t (e - 4))) (S.is f g B) h);
  }

-- one more is counted, at most
pub counted-small : {r : ℕ} (found k : ℕ) (b : Bool) → r ≡ from_bool b → found ≤ k → found + r ≤ k + 1
counted-small found k b q h = let z : from_bool b ≤ 1 = byte_low b in omega arith

pub doubled-small : {r : ℕ} (s : ℕ) (b : Bool) → r ≡ from_bool b → s < 65536 → 2 * s + r < 4294967296
doubled-small s b q h = let z : from_bool b ≤ 1 = byte_low b in omega arith
