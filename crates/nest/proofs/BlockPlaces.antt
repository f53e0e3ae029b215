-- Block places: a block passes exactly if all its places do; a loop may step over blocks that pass. Assumes nothing.
use mathlib.Core.Path.{◌≡◌, sym, ap, ◌∙◌}
use mathlib.Core.Bool.{true}
use Prim.Native.Nat.{ℕ, ◌+◌, ◌*◌, ◌/◌, ◌%◌, ◌<◌, ◌≤◌}
use native.Mathlib.Nat.{mod-lt, mul-le-mul}
use native.Mathlib.Omega.{arith}
use lib.Arith.{digits_div, digits_mod}
use Rattle.plans.specs.declared.Part.{Part}
use Rattle.nest_steps.specs.PartTests.{PartTests, passes_at, passes_from, passing}
use Rattle.nest.proofs.PassedPlaces.{Past}
use Rattle.nest_steps.proofs.PassingBlocks.{div_in, passes-here}
use Rattle.nest.proofs.LoopStates.{per_concrete, per_abstract}
use Rattle.nest_steps.specs.PassedBlocks.{PairPasses, WholePasses}

-- ---- from blocks to places

module _ (p : Part) (T : PartTests) (some-i : 0 < p.inputs.bindings) (some-o : 0 < p.outputs.bindings) (some-k : 0 < p.primes.bindings) where
  by-concrete : (j : ℕ) → j / per_concrete p ≡ j / p.primes.bindings / p.outputs.bindings / p.inputs.bindings
  by-concrete j = sym (div_in j p.inputs.bindings (p.outputs.bindings * p.primes.bindings)) ∙ ap (λ (t : ℕ). t / p.inputs.bindings) (sym (div_in j p.outputs.bindings p.primes.bindings))

  pub pair-places : (a c : ℕ) → c < p.concretes.bindings → PairPasses p T a c → (j : ℕ) → j / per_concrete p ≡ a * p.concretes.bindings + c → passing p T j ≡ true
  unfolding passes_from
  pair-places a c h w j e =
      let u : j / p.primes.bindings / p.outputs.bindings / p.inputs.bindings ≡ a * p.concretes.bindings + c = sym (by-concrete j) ∙ e in
      ap (λ (x : ℕ). passes_at T (x / p.concretes.bindings) (x % p.concretes.bindings) (j / p.primes.bindings / p.outputs.bindings % p.inputs.bindings) (j / p.primes.bindings % p.outputs.bindings) (j % p.primes.bindings)) u
      ∙ ap (λ (x : ℕ). passes_at T x ((a * p.concretes.bindings + c) % p.concretes.bindings) (j / p.primes.bindings / p.outputs.bindings % p.inputs.bindings) (j / p.primes.bindings % p.outputs.bindings) (j % p.primes.bindings)) (digits_div a h)
      ∙ ap (λ (x : ℕ). passes_at T a x (j / p.primes.bindings / p.outputs.bindings % p.inputs.bindings) (j / p.primes.bindings % p.outputs.bindings) (j % p.primes.bindings)) (digits_mod a h)
      ∙ w.each (j / p.primes.bindings / p.outputs.bindings % p.inputs.bindings) (j / p.primes.bindings % p.outputs.bindings) (j % p.primes.bindings) (mod-lt _ some-i) (mod-lt _ some-o) (mod-lt _ some-k)

  pub whole-places : (some-c : 0 < p.concretes.bindings) (a : ℕ) → WholePasses p T a → (j : ℕ) → j / per_abstract p ≡ a → passing p T j ≡ true
  whole-places some-c a w j e =
      pair-places a (j / per_concrete p % p.concretes.bindings) (mod-lt _ some-c) (w.each _ (mod-lt _ some-c)) j
      (split (j / per_concrete p) p.concretes.bindings a (div_in j p.concretes.bindings (per_concrete p) ∙ e))
    where
      split : (u n a : ℕ) → u / n ≡ a → u ≡ a * n + u % n
      split u n a q = sym (native.Mathlib.Nat.div-add-mod' u n) ∙ ap (λ (t : ℕ). t * n + u % n) q

-- ---- from places to blocks

-- the place of a binding lies in the block of its pair
inside : (x ni nq nk i o k : ℕ) → i < ni → o < nq → k < nk
    → (x * (ni * (nq * nk)) ≤ ((x * ni + i) * nq + o) * nk + k) × (((x * ni + i) * nq + o) * nk + k < (x + 1) * (ni * (nq * nk)))
inside x ni nq nk i o k hi ho hk =
    let a : (i + 1) * nq ≤ ni * nq = mul-le-mul {n₁ = i + 1} {m₁ = nq} {n₂ = ni} {m₂ = nq} (omega arith) (omega arith) in
    let b : (i * nq + (o + 1)) * nk ≤ ni * nq * nk = mul-le-mul {n₁ = i * nq + (o + 1)} {m₁ = nk} {n₂ = ni * nq} {m₂ = nk} (omega arith) (omega arith) in
    (omega arith, omega arith)

module _ {p : Part} {T : PartTests} {from end : ℕ} where
  pub pair-passed : (a c : ℕ) → c < p.concretes.bindings → from ≤ (a * p.concretes.bindings + c) * per_concrete p → (a * p.concretes.bindings + c + 1) * per_concrete p ≤ end
      → Past (passing p T) from end ((a * p.concretes.bindings + c + 1) * per_concrete p) → PairPasses p T a c
  pair-passed a c h l m w =
      record {
        each = λ i o k hi ho hk.
            let r = inside (a * p.concretes.bindings + c) p.inputs.bindings p.outputs.bindings p.primes.bindings i o k hi ho hk in
            sym (passes-here T p.concretes.bindings p.inputs.bindings p.outputs.bindings p.primes.bindings a c i o k h hi ho hk)
            ∙ w.each ((((a * p.concretes.bindings + c) * p.inputs.bindings + i) * p.outputs.bindings + o) * p.primes.bindings + k) (native.Mathlib.Nat.le_trans l r.0) r.1 (native.Mathlib.Nat.lt_of_lt_of_le r.1 m);
      }

  pub whole-passed : (a : ℕ) → from ≤ a * per_abstract p → (a + 1) * per_abstract p ≤ end → Past (passing p T) from end ((a + 1) * per_abstract p) → WholePasses p T a
  whole-passed a l m w =
      record {
        each = λ c hc. pair-passed a c hc (native.Mathlib.Nat.le_trans l (low a p.concretes.bindings c (per_concrete p))) (native.Mathlib.Nat.le_trans (high a p.concretes.bindings c (per_concrete p) hc) m)
            (record { each = λ j g k e. w.each j g (native.Mathlib.Nat.lt_of_lt_of_le k (high a p.concretes.bindings c (per_concrete p) hc)) e });
      }
    where
      low : (a n c s : ℕ) → a * (n * s) ≤ (a * n + c) * s
      low a n c s = omega arith

      high : (a n c s : ℕ) → c < n → (a * n + c + 1) * s ≤ (a + 1) * (n * s)
      high a n c s h = let k : (c + 1) * s ≤ n * s = mul-le-mul {n₁ = c + 1} {m₁ = s} {n₂ = n} {m₂ = s} (omega arith) (omega arith) in omega arith
