-- Lists made by a function of the numbers from 0 on, and blocks of such lists. Assumes nothing.
use mathlib.Core.Path.{◌≡◌, refl, sym, ap, ap₂, ◌∙◌}
use mathlib.Core.List.{List, ◌∷◌, ◌++◌, map, map-append}
use Prim.Native.Nat.{ℕ, zero, suc, ◌+◌, ◌*◌, ◌<◌, ◌≤◌}
use native.Mathlib.Nat.{zero-add, zero-mul, suc-mul, add_comm, add-zero}
use native.Mathlib.Omega.{arith}
use lib.ListN.{length, get_or}
use Rattle.lexical.specs.Lists.{upward}
use Rattle.meaning.specs.Bindings.{flat}

module _ {A : Type 0} where
  pub map_same : (f g : ℕ → A) (k n : ℕ) → ((i : ℕ) → k ≤ i → i < k + n → f i ≡ g i) → map f (upward k n) ≡ map g (upward k n)
  unfolding upward
  map_same f g k zero h = refl
  map_same f g k (suc n) h = ap₂ ◌∷◌ (h k (omega arith) (omega arith)) (map_same f g (suc k) n (λ i a b. h i (omega arith) (omega arith)))

  pub map-length : (f : ℕ → A) (k n : ℕ) → length (map f (upward k n)) ≡ n
  unfolding upward
  map-length f k zero = refl
  map-length f k (suc n) = ap suc (map-length f (suc k) n)

  map_at : (f : ℕ → A) (k n i : ℕ) (d : A) → i < n → get_or (map f (upward k n)) i d ≡ f (k + i)
  unfolding upward
  map_at f k zero i d h = let z : ⊥ = omega arith in absurd z
  map_at f k (suc n) zero d h = let z : k ≡ k + 0 = omega arith in ap f z
  map_at f k (suc n) (suc i) d h = map_at f (suc k) n i d (omega arith) ∙ (let z : suc k + i ≡ k + suc i = omega arith in ap f z)

  pub map_get : (f : ℕ → A) (n i : ℕ) (d : A) → i < n → get_or (map f (upward 0 n)) i d ≡ f i
  map_get f n i d h = map_at f 0 n i d h ∙ ap f (zero-add i)

  shifted : (f : ℕ → A) (k n : ℕ) → map f (upward (suc k) n) ≡ map (λ i. f (suc i)) (upward k n)
  unfolding upward
  shifted f k zero = refl
  shifted f k (suc n) = ap (λ (l : List A). f (suc k) ∷ l) (shifted f (suc k) n)

  from_zero : (f : ℕ → A) (k n : ℕ) → map f (upward k n) ≡ map (λ i. f (k + i)) (upward 0 n)
  from_zero f zero n = map_same f (λ i. f (0 + i)) 0 n (λ i a b. ap f (sym (zero-add i)))
  from_zero f (suc k) n =
      shifted f k n ∙ from_zero (λ i. f (suc i)) k n
      ∙ map_same (λ i. f (suc (k + i))) (λ i. f (suc k + i)) 0 n (λ i a b. let z : suc (k + i) ≡ suc k + i = omega arith in ap f z)

  flat-same : (f g : ℕ → List A) (k n : ℕ) → ((i : ℕ) → k ≤ i → i < k + n → f i ≡ g i) → flat f (upward k n) ≡ flat g (upward k n)
  unfolding upward flat
  flat-same f g k zero h = refl
  flat-same f g k (suc n) h = ap₂ ◌++◌ (h k (omega arith) (omega arith)) (flat-same f g (suc k) n (λ i a b. h i (omega arith) (omega arith)))

  flat_map : {B : Type 0} (f : B → List A) (g : ℕ → B) (k n : ℕ) → flat f (map g (upward k n)) ≡ flat (λ i. f (g i)) (upward k n)
  unfolding upward flat
  flat_map f g k zero = refl
  flat_map f g k (suc n) = ap (λ (l : List A). f (g k) ++ l) (flat_map f g (suc k) n)

upward-join : (k a b : ℕ) → upward k (a + b) ≡ upward k a ++ upward (k + a) b
unfolding upward
upward-join k zero b = ap₂ upward (sym (add-zero k)) (zero-add b)
upward-join k (suc a) b =
    (let z : suc a + b ≡ suc (a + b) = omega arith in ap (upward k) z)
    ∙ ap (λ (l : List ℕ). k ∷ l) (upward-join (suc k) a b ∙ (let z : suc k + a ≡ k + suc a = omega arith in ap (λ (x : ℕ). upward (suc k) a ++ upward x b) z))

-- the numbers below m * n are m blocks of n
blocks : {A : Type 0} (f : ℕ → A) (n k m : ℕ) → map f (upward (k * n) (m * n)) ≡ flat (λ i. map (λ j. f (i * n + j)) (upward 0 n)) (upward k m)
unfolding upward flat
blocks f n k zero = ap (λ (x : ℕ). map f (upward (k * n) x)) (zero-mul n)
blocks f n k (suc m) =
    ap (λ (x : ℕ). map f (upward (k * n) x)) (suc-mul m n ∙ add_comm (m * n) n)
    ∙ ap (map f) (upward-join (k * n) n (m * n))
    ∙ map-append f (upward (k * n) n) (upward (k * n + n) (m * n))
    ∙ ap₂ ◌++◌ (from_zero f (k * n) n) (ap (λ (x : ℕ). map f (upward x (m * n))) (sym (suc-mul k n)) ∙ blocks f n (suc k) m)

-- a block for each of m values: the k-th of all is the k % n-th of the block of the k / n-th value
pub flat-blocks : {A B C : Type 0} (g : B → C → A) (x : ℕ → B) (y : ℕ → C) (f : ℕ → A) (m n : ℕ)
    → ((i j : ℕ) → i < m → j < n → g (x i) (y j) ≡ f (i * n + j))
    → flat (λ (b : B). map (g b) (map y (upward 0 n))) (map x (upward 0 m)) ≡ map f (upward 0 (m * n))
flat-blocks g x y f m n h =
    flat_map (λ b. map (g b) (map y (upward 0 n))) x 0 m
    ∙ flat-same (λ i. map (g (x i)) (map y (upward 0 n))) (λ i. map (λ j. f (i * n + j)) (upward 0 n)) 0 m
    (λ i a b. mathlib.Core.List.map-map (g (x i)) y (upward 0 n) ∙ map_same (λ j. g (x i) (y j)) (λ j. f (i * n + j)) 0 n (λ j c d. h i j (omega arith) (omega arith)))
    ∙ sym (ap (λ (k : ℕ). map f (upward k (m * n))) (sym (zero-mul n)) ∙ blocks f n 0 m)
