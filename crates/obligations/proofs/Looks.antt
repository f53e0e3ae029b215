-- What a look over checks says of them, by their places. Assumes nothing.
use mathlib.Core.Path.{◌≡◌, refl, sym, ap, ◌∙◌}
use mathlib.Core.Bool.{Bool, true, false, false≢true, true≢false}
use mathlib.Core.List.{List, [], ◌∷◌}
use Prim.Native.Nat.{ℕ, zero, suc, ◌<◌}
use native.Mathlib.Nat.{not-suc-le-zero, le_of_suc-le-suc}
use native.Mathlib.Omega.{arith}
use lib.ListN.{length, get_or}
use Rattle.obligations.specs.Subjects.{Subject}
use Rattle.obligations.specs.Order.{Check, passes, Look, look}

module _ (σ : Subject) where
  look-on : (x : Check) (xs : List Check) → passes σ x ≡ true → look σ (x ∷ xs) ≡ record { count = suc (look σ xs).count; failed = (look σ xs).failed }
  unfolding look
  look-on x xs e = rw (e, look)

  look-ends : (x : Check) (xs : List Check) → passes σ x ≡ false → look σ (x ∷ xs) ≡ record { count = 1; failed = true }
  unfolding look
  look-ends x xs e = rw (e, look)

  module _ (z : Check) where
    -- the first n checks pass
    abbrev pub PassUpTo : List Check → ℕ → Type 0
    PassUpTo xs n = (q : ℕ) → q < n → passes σ (get_or xs q z) ≡ true

    one_more : (x : Check) (xs : List Check) (n : ℕ) → passes σ x ≡ true → PassUpTo xs n → PassUpTo (x ∷ xs) (suc n)
    one_more x xs n e f zero h = e
    one_more x xs n e f (suc q) h = f q (le_of_suc-le-suc h)

    -- a look that did not fail was over all of the checks, and they pass
    abbrev pub Whole : List Check → Look → Type 0
    Whole xs l = (l.count ≡ length xs) × PassUpTo xs (length xs)

    -- a look that failed ended at the first check that does not pass
    abbrev pub First : List Check → Look → Type 0
    First xs l = (p : ℕ) × (l.count ≡ suc p) × (p < length xs) × (passes σ (get_or xs p z) ≡ false) × PassUpTo xs p

    pub look-whole : (xs : List Check) → (look σ xs).failed ≡ false → Whole xs (look σ xs)
    unfolding look
    look-whole [] e = (refl, λ q h. absurd (not-suc-le-zero h))
    look-whole (x ∷ xs) e = go (passes σ x) refl (look-whole xs)
      where
        go : (t : Bool) → passes σ x ≡ t → ((look σ xs).failed ≡ false → Whole xs (look σ xs)) → Whole (x ∷ xs) (look σ (x ∷ xs))
        go true q r =
            let s : Whole xs (look σ xs) = r (ap (λ (l : Look). l.failed) (sym (look-on x xs q)) ∙ e) in
            (ap (λ (l : Look). l.count) (look-on x xs q) ∙ ap suc s.0, one_more x xs (length xs) q s.1)
        go false q r = absurd (true≢false (ap (λ (l : Look). l.failed) (sym (look-ends x xs q)) ∙ e))

    pub look-first : (xs : List Check) → (look σ xs).failed ≡ true → First xs (look σ xs)
    unfolding look
    look-first [] e = absurd (false≢true e)
    look-first (x ∷ xs) e = go (passes σ x) refl (look-first xs)
      where
        go : (t : Bool) → passes σ x ≡ t → ((look σ xs).failed ≡ true → First xs (look σ xs)) → First (x ∷ xs) (look σ (x ∷ xs))
        go true q r =
            let s : First xs (look σ xs) = r (ap (λ (l : Look). l.failed) (sym (look-on x xs q)) ∙ e) in
            (suc s.0, ap (λ (l : Look). l.count) (look-on x xs q) ∙ ap suc s.1, omega (arith, s.2), s.3, one_more x xs s.0 q s.4)
        go false q r = (zero, ap (λ (l : Look). l.count) (look-ends x xs q), omega arith, q, λ k h. absurd (not-suc-le-zero h))

    -- and the other way: all pass, or one is the first that does not
    pub whole-look : (xs : List Check) → PassUpTo xs (length xs) → look σ xs ≡ record { count = length xs; failed = false }
    whole-look xs f = go (look σ xs).failed refl
      where
        go : (t : Bool) → (look σ xs).failed ≡ t → look σ xs ≡ record { count = length xs; failed = false }
        go false q = λ i. record { count = (look-whole xs q).0 i; failed = q i }
        go true q = let s : First xs (look σ xs) = look-first xs q in absurd (true≢false (sym (f s.0 s.2) ∙ s.3))

    pub first-look : (xs : List Check) (p : ℕ) → p < length xs → passes σ (get_or xs p z) ≡ false → PassUpTo xs p → look σ xs ≡ record { count = suc p; failed = true }
    first-look xs p l e f = go (look σ xs).failed refl
      where
        same : First xs (look σ xs) → (look σ xs).count ≡ suc p
        same s =
            let n : ¬ (p < s.0) = λ h. true≢false (sym (s.4 p h) ∙ e) in
            let m : ¬ (s.0 < p) = λ h. true≢false (sym (f s.0 h) ∙ s.3) in
            omega (arith, s.1)

        go : (t : Bool) → (look σ xs).failed ≡ t → look σ xs ≡ record { count = suc p; failed = true }
        go false q = absurd (true≢false (sym ((look-whole xs q).1 p l) ∙ e))
        go true q = λ i. record { count = same (look-first xs q) i; failed = q i }
