-- A place and its digits in the five groups: full digits carry; blocks up to the next candidate pass one after the other.
use mathlib.Core.Path.{◌≡◌, subst}
use mathlib.Core.Bool.{false}
use Prim.Native.Nat.{ℕ, zero, suc, ◌+◌, ◌*◌, ◌≤◌, ◌<◌}
use native.Mathlib.Omega.{arith}
use native.Mathlib.Decide.{dec_lt}
use Rattle.std.proofs.lemmas.Bool.{and_left as and-left-false, and_right as and-right-false}
use Rattle.form.specs.Tree.{Dossier}
use Rattle.meaning.specs.Meaning.{Binding}
use Rattle.meaning.specs.Operations.{is_state, related}
use Rattle.obligations.specs.Subjects.{Subject}
use Rattle.obligations.proofs.Accuracy.{PassBetween}

-- abstract, concrete, inputs, outputs, concrete primed: the last group fastest. Applicability has one output and one after state, initialisation one of all but the second
unfoldable pub place : (nc ni nq nk a c i o k : ℕ) → ℕ
place nc ni nq nk a c i o k = (((a * nc + c) * ni + i) * nq + o) * nk + k

module _ (nc ni nq nk : ℕ) where
  pub carry-primed : (a c i o : ℕ) → place nc ni nq nk a c i o nk ≡ place nc ni nq nk a c i (suc o) 0
  unfolding place
  carry-primed a c i o = omega arith

  pub carry-output : (a c i k : ℕ) → place nc ni nq nk a c i nq k ≡ place nc ni nq nk a c (suc i) 0 k
  unfolding place
  carry-output a c i k = omega arith

  pub carry-input : (a c o k : ℕ) → place nc ni nq nk a c ni o k ≡ place nc ni nq nk a (suc c) 0 o k
  unfolding place
  carry-input a c o k = omega arith

  pub carry-concrete : (a i o k : ℕ) → place nc ni nq nk a nc i o k ≡ place nc ni nq nk (suc a) 0 i o k
  unfolding place
  carry-concrete a i o k = omega arith

  -- the ends of the blocks under (a, c, i), (a, c) and a
  pub input-block : (a c i : ℕ) → place nc ni nq nk a c (suc i) 0 0 ≡ suc ((a * nc + c) * ni + i) * nq * nk
  unfolding place
  input-block a c i = omega arith

  pub concrete-block : (a c : ℕ) → place nc ni nq nk a (suc c) 0 0 0 ≡ suc (a * nc + c) * ni * nq * nk
  unfolding place
  concrete-block a c = omega arith

  pub abstract-block : (a : ℕ) → place nc ni nq nk (suc a) 0 0 0 0 ≡ suc a * nc * ni * nq * nk
  unfolding place
  abstract-block a = omega arith

module _ (σ : Subject) where
  pub pass-none : (p : ℕ) → PassBetween σ p p
  pass-none p j low high = absurd (omega arith)

  pub pass-join : (p q r : ℕ) → PassBetween σ p q → PassBetween σ q r → PassBetween σ p r
  pass-join p q r f g j low high = elim (dec_lt j q) [ yes l ↦ f j low l | no l ↦ g j (omega arith) high ]

  -- all blocks from the m-th up to the n-th candidate, where every block between passes
  pub pass-blocks : (begin : ℕ → ℕ) (m n : ℕ) → ((j : ℕ) → m ≤ j → j < m + n → PassBetween σ (begin j) (begin (suc j))) → PassBetween σ (begin m) (begin (m + n))
  pass-blocks begin m zero h = subst (λ (x : ℕ). PassBetween σ (begin m) (begin x)) (omega arith) (pass-none (begin m))
  pass-blocks begin m (suc n) h =
      subst (λ (x : ℕ). PassBetween σ (begin m) (begin x)) (omega arith)
      (pass-join (begin m) (begin (m + n)) (begin (suc (m + n))) (pass-blocks begin m n (λ j low high. h j low (omega arith))) (h (m + n) (omega arith) (omega arith)))

module _ (d : Dossier) where
  -- what is no state is related to nothing
  pub abstract-no-state : (a c : Binding) → is_state d d.abstract a ≡ false → related d a c ≡ false
  unfolding related
  abstract-no-state a c e = and-left-false _ _ (and-left-false _ _ e)

  pub concrete-no-state : (a c : Binding) → is_state d d.concrete c ≡ false → related d a c ≡ false
  unfolding related
  concrete-no-state a c e = and-left-false _ _ (and-right-false (is_state d d.abstract a) _ e)
