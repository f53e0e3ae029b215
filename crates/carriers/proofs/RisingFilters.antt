-- A function that rises through all members of a range that pass a test lists them as a filter of the range does. Assumes nothing.
use mathlib.Core.Path.{◌≡◌, refl, sym, ap, ap₂, ◌∙◌}
use mathlib.Core.Bool.{Bool, true, false}
use mathlib.Core.List.{List, [], ◌∷◌, map}
use Prim.Native.Nat.{ℕ, zero, suc, ◌+◌, ◌<◌, ◌≤◌}
use native.Mathlib.Decide.{dec_lt}
use native.Mathlib.Omega.{arith}
use Rattle.lexical.specs.Lists.{filter, upward}
use borrow.Author.Clash.{clash}

-- the n values of f from k on: rising, all of them among those of the `len` numbers from `lo` on that pass, and each of those among them
pub record Lists (p : ℕ → Bool) (lo len : ℕ) (f : ℕ → ℕ) (k n : ℕ) : Type 0 where
  pub rising : (i j : ℕ) → k ≤ i → i < j → j < k + n → f i < f j
  pub inside : (i : ℕ) → k ≤ i → i < k + n → (lo ≤ f i) × (f i < lo + len) × (p (f i) ≡ true)
  pub onto : (x : ℕ) → lo ≤ x → x < lo + len → p x ≡ true → (i : ℕ) × (k ≤ i) × (i < k + n) × (f i ≡ x)

module _ (p : ℕ → Bool) (f : ℕ → ℕ) where
  -- the least number of the range is the first value, if it passes
  first_is : (lo len k n : ℕ) → Lists p lo (suc len) f k n → p lo ≡ true → (f k ≡ lo) × (0 < n)
  first_is lo len k n l e =
      let t : (i : ℕ) × (k ≤ i) × (i < k + n) × (f i ≡ lo) = l.onto lo (omega arith) (omega arith) e in
      elim (dec_lt k t.0) [
        | yes h ↦ (let a : f k < f t.0 = l.rising k t.0 (omega arith) h t.2 in
            let b : lo ≤ f k = (l.inside k (omega arith) (omega arith)).0 in
            let c : f t.0 ≡ lo = t.3 in
            let z : ⊥ = omega arith in absurd z)
        | no h ↦ (let z : k ≡ t.0 = omega arith in ap f z ∙ t.3, omega arith)
      ]

  rest-passed : (lo len k n : ℕ) → Lists p lo (suc len) f k (suc n) → f k ≡ lo → Lists p (suc lo) len f (suc k) n
  rest-passed lo len k n l e = record { rising = λ i j a b c. l.rising i j (omega arith) b (omega arith); inside = within; onto = reached }
    where
      within : (i : ℕ) → suc k ≤ i → i < suc k + n → (suc lo ≤ f i) × (f i < suc lo + len) × (p (f i) ≡ true)
      within i a b =
          let r : f k < f i = l.rising k i (omega arith) a (omega arith) in
          let t : (lo ≤ f i) × (f i < lo + suc len) × (p (f i) ≡ true) = l.inside i (omega arith) (omega arith) in
          (omega arith, omega arith, t.2)

      reached : (x : ℕ) → suc lo ≤ x → x < suc lo + len → p x ≡ true → (i : ℕ) × (suc k ≤ i) × (i < suc k + n) × (f i ≡ x)
      reached x a b h =
          let t : (i : ℕ) × (k ≤ i) × (i < k + suc n) × (f i ≡ x) = l.onto x (omega arith) (omega arith) h in
          elim (dec_lt k t.0) [
            | yes g ↦ (t.0, g, omega arith, t.3)
            | no g ↦ (let z : k ≡ t.0 = omega arith in
                let y : lo ≡ x = sym e ∙ ap f z ∙ t.3 in
                let c : ⊥ = omega arith in absurd c)
          ]

  rest-failed : (lo len k n : ℕ) → Lists p lo (suc len) f k n → p lo ≡ false → Lists p (suc lo) len f k n
  rest-failed lo len k n l e = record { rising = l.rising; inside = within; onto = λ x a b h. l.onto x (omega arith) (omega arith) h }
    where
      within : (i : ℕ) → k ≤ i → i < k + n → (suc lo ≤ f i) × (f i < suc lo + len) × (p (f i) ≡ true)
      within i a b =
          let t : (lo ≤ f i) × (f i < lo + suc len) × (p (f i) ≡ true) = l.inside i a b in
          elim (dec_lt lo (f i)) [
            | yes g ↦ (g, omega arith, t.2)
            | no g ↦ (let z : f i ≡ lo = omega arith in clash _ t.2 (ap p z ∙ e))
          ]

  picked : (b : Bool) (x : ℕ) (l t : List ℕ) → (b ≡ true → x ∷ l ≡ t) → (b ≡ false → l ≡ t) → elim b [ true ↦ x ∷ l | false ↦ l ] ≡ t
  picked true x l t h g = h refl
  picked false x l t h g = g refl

  pub listed : (lo len k n : ℕ) → Lists p lo len f k n → filter p (upward lo len) ≡ map f (upward k n)
  unfolding filter upward
  listed lo zero k zero l = refl
  listed lo zero k (suc n) l =
      let t : (lo ≤ f k) × (f k < lo + 0) × (p (f k) ≡ true) = l.inside k (omega arith) (omega arith) in
      let z : ⊥ = omega arith in absurd z
  listed lo (suc len) k zero l =
      picked (p lo) lo (filter p (upward (suc lo) len)) []
      (λ e. let t : (f k ≡ lo) × (0 < 0) = first_is lo len k 0 l e in let z : ⊥ = omega arith in absurd z)
      (λ e. listed (suc lo) len k 0 (rest-failed lo len k 0 l e))
  listed lo (suc len) k (suc n) l =
      picked (p lo) lo (filter p (upward (suc lo) len)) (f k ∷ map f (upward (suc k) n))
      (λ e. let t : (f k ≡ lo) × (0 < suc n) = first_is lo len k (suc n) l e in
      ap₂ ◌∷◌ (sym t.0) (listed (suc lo) len (suc k) n (rest-passed lo len k n l t.0)))
      (λ e. listed (suc lo) len k (suc n) (rest-failed lo len k (suc n) l e))
