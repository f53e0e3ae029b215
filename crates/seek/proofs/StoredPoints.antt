-- A variable's value written into the arrays: they show the point with that value. Assumes nothing.
use Prim.Native.Nat.{ℕ, ◌+◌, ◌<◌, ◌≤◌}
use native.Mathlib.Decide.{dec_lt}
use native.Mathlib.Omega.{arith}
use mathlib.Core.Path.{◌≡◌, refl, sym, ap, ◌∙◌, subst}
use mathlib.Core.Logic.{◌⊎◌, inl, inr}
use mathlib.Core.List.{List, []}
use lib.ListN.{get_or, length, set, length-set}
use lib.Seq.{get_or-set_same, get_or-set_other}
use lib.IntN.{ℤ, pos}
use Rattle.slot_carriers.specs.Cells.{count_in, value_in}
use Rattle.points.specs.Points.{Point, moved, primed_slot, Tame}
use Rattle.points.proofs.PointBindings.{primed-abstract, primed-concrete, primed-high}
use Rattle.seek.specs.SeekPromises.{StoreAnswers}
use Rattle.seek.proofs.MovedPoints.{at_moved}

-- ---- primed slots
primed-cases : (t : ℕ) → ((t < 8) × (primed_slot t ≡ t + 30)) ⊎ ((8 ≤ t) × (primed_slot t ≡ t + 14))
primed-cases t = elim (dec_lt t 8) [ yes h ↦ inl (h, primed-abstract t h) | no h ↦ (let g : 8 ≤ t = omega arith in inr (g, primed-concrete t g)) ]

primed-same : (t p : ℕ) → t < 16 → p < 16 → primed_slot t ≡ primed_slot p → t ≡ p
primed-same t p l h e = go (primed-cases t) (primed-cases p)
  where
    go : ((t < 8) × (primed_slot t ≡ t + 30)) ⊎ ((8 ≤ t) × (primed_slot t ≡ t + 14)) → ((p < 8) × (primed_slot p ≡ p + 30)) ⊎ ((8 ≤ p) × (primed_slot p ≡ p + 14)) → t ≡ p
    go (inl a) (inl b) = let x : primed_slot t ≡ t + 30 = a.1 in let y : primed_slot p ≡ p + 30 = b.1 in omega arith
    go (inl a) (inr b) = let x : primed_slot t ≡ t + 30 = a.1 in let y : primed_slot p ≡ p + 14 = b.1 in omega arith
    go (inr a) (inl b) = let x : primed_slot t ≡ t + 14 = a.1 in let y : primed_slot p ≡ p + 30 = b.1 in omega arith
    go (inr a) (inr b) = let x : primed_slot t ≡ t + 14 = a.1 in let y : primed_slot p ≡ p + 14 = b.1 in omega arith

module _ (cells : List ℕ) (slot x : ℕ) (v : ℤ) (is : v ≡ value_in cells slot x) where
  -- an array with the value written at its place has the values of the moved point at all places that f gives slots to
  written : (δ : Point) (l : List ℤ) (f : ℕ → ℕ) (i : ℕ) → f i ≡ slot → i < length l → (s : ℕ) → (f s ≡ slot → s ≡ i)
      → get_or l s (pos 0) ≡ value_in cells (f s) (δ (f s)) → get_or (set l i v) s (pos 0) ≡ value_in cells (f s) (moved δ slot x (f s))
  written δ l f i e low s one same =
      at_moved (λ (y : ℕ). get_or (set l i v) s (pos 0) ≡ value_in cells (f s) y) δ slot x (f s)
      (λ h. ap (λ (k : ℕ). get_or (set l i v) k (pos 0)) (one h) ∙ get_or-set_same l i v (pos 0) low ∙ is ∙ ap (λ (k : ℕ). value_in cells k x) (sym h))
      (λ h. get_or-set_other l i s v (pos 0) (λ z. h (ap f z ∙ e)) ∙ same)

  tame : (δ : Point) → Tame cells δ → x < count_in cells slot → Tame cells (moved δ slot x)
  tame δ t l =
      record { low = λ s p. at_moved (λ (y : ℕ). y < count_in cells s) δ slot x s (λ h. subst (λ (k : ℕ). x < count_in cells k) (sym h) l) (λ h. t.low s p) }

  module _ (a : List (List ℤ)) where
    pub stored-plain : slot < 22 → StoreAnswers cells slot x a (set a 0 (set (get_or a 0 []) slot v))
    stored-plain low =
        record {
          means = λ δ s l. (
              let b = get_or a 0 [] in
              let two : length a ≡ 2 = s.two in
              let long : length b ≡ 64 = s.before_long in
              let first : get_or (set a 0 (set b slot v)) 0 [] ≡ set b slot v = get_or-set_same a 0 (set b slot v) [] (omega arith) in
              let second : get_or (set a 0 (set b slot v)) 1 [] ≡ get_or a 1 [] = get_or-set_other a 0 1 (set b slot v) [] (λ e. (let z : 1 ≡ 0 = e in omega arith)) in
              record {
                tame = tame δ s.tame l;
                two = length-set a 0 (set b slot v) ∙ two;
                before_long = ap length first ∙ length-set b slot v ∙ long;
                after_long = ap length second ∙ s.after_long;
                before = λ k h. ap (λ (m : List ℤ). get_or m k (pos 0)) first ∙ written δ b (λ z. z) slot refl (omega arith) k (λ e. e) (s.before k h);
                after = λ k h. ap (λ (m : List ℤ). get_or m k (pos 0)) second
                    ∙ at_moved (λ (y : ℕ). get_or (get_or a 1 []) k (pos 0) ≡ value_in cells (primed_slot k) y) δ slot x (primed_slot k)
                    (λ e. absurd (let z : 22 ≤ primed_slot k = primed-high k in let y : primed_slot k ≡ slot = e in let f : ⊥ = omega arith in f)) (λ e. s.after k h);
              });
        }

    pub stored-primed : (p : ℕ) → slot < 38 → p < 16 → primed_slot p ≡ slot
        → StoreAnswers cells slot x a (set (set a 0 (set (get_or a 0 []) slot v)) 1 (set (get_or (set a 0 (set (get_or a 0 []) slot v)) 1 []) p v))
    stored-primed p low lp is-primed =
        record {
          means = λ δ s l. (
              let b = get_or a 0 [] in
              let c = get_or a 1 [] in
              let a₁ = set a 0 (set b slot v) in
              let d = set (get_or a₁ 1 []) p v in
              let two : length a ≡ 2 = s.two in
              let still : length a₁ ≡ 2 = length-set a 0 (set b slot v) ∙ two in
              let long : length b ≡ 64 = s.before_long in
              let also : length c ≡ 64 = s.after_long in
              let first : get_or (set a₁ 1 d) 0 [] ≡ set b slot v =
              get_or-set_other a₁ 1 0 d [] (λ e. (let z : 0 ≡ 1 = e in omega arith)) ∙ get_or-set_same a 0 (set b slot v) [] (omega arith) in
              let second : get_or (set a₁ 1 d) 1 [] ≡ set c p v =
              get_or-set_same a₁ 1 d [] (omega arith)
              ∙ ap (λ (m : List ℤ). set m p v) (get_or-set_other a 0 1 (set b slot v) [] (λ e. (let z : 1 ≡ 0 = e in omega arith))) in
              record {
                tame = tame δ s.tame l;
                two = length-set a₁ 1 d ∙ still;
                before_long = ap length first ∙ length-set b slot v ∙ long;
                after_long = ap length second ∙ length-set c p v ∙ also;
                before = λ k h. ap (λ (m : List ℤ). get_or m k (pos 0)) first ∙ written δ b (λ z. z) slot refl (omega arith) k (λ e. e) (s.before k h);
                after = λ k h. ap (λ (m : List ℤ). get_or m k (pos 0)) second
                    ∙ written δ c primed_slot p is-primed (omega arith) k (λ e. primed-same k p h lp (e ∙ sym is-primed)) (s.after k h);
              });
        }
