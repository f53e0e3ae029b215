-- The member of a list at a place: in a part of a list, in two lists joined, and as a member. Assumes nothing.
use mathlib.Core.Path.{◌≡◌, refl, sym, ap, ap₂, ◌∙◌}
use mathlib.Core.Logic.{inl, inr}
use mathlib.Core.Option.{some, none-ne-some, some-injective}
use mathlib.Core.List.{List, [], ◌∷◌, ◌++◌, map}
use Prim.Native.Nat.{ℕ, zero, suc, ◌+◌, ◌*◌, ◌<◌}
use native.Mathlib.Nat.{zero-mul, not-suc-le-zero, le_of_suc-le-suc}
use native.Mathlib.Omega.{arith}
use lib.ListN.{length, get_or, get_elem?, length-append, get_or-append}
use lib.Seq.{get_or-append-add}
use Rattle.meaning.specs.Bindings.{flat, Among}

module _ {A : Type 0} where
  -- members and places
  pub member-at : (xs : List A) (p : ℕ) (z : A) → p < length xs → Among (get_or xs p z) xs
  unfolding Among
  member-at [] p z h = absurd (not-suc-le-zero h)
  member-at (x ∷ xs) zero z h = inl refl
  member-at (x ∷ xs) (suc p) z h = inr (member-at xs p z (le_of_suc-le-suc h))

  pub place-of : (x : A) (xs : List A) (z : A) → Among x xs → (p : ℕ) × (p < length xs) × (get_or xs p z ≡ x)
  unfolding Among
  place-of x [] z m = absurd m
  place-of x (y ∷ xs) z (inl e) = (zero, omega arith, sym e)
  place-of x (y ∷ xs) z (inr m) = let s : (p : ℕ) × (p < length xs) × (get_or xs p z ≡ x) = place-of x xs z m in (suc s.0, omega (arith, s.1), s.2)

  -- a number below the length has an entry, and no other has
  pub entry-below : (x : A) (xs : List A) (k : ℕ) → get_elem? xs k ≡ some x → k < length xs
  entry-below x [] k e = absurd (none-ne-some x e)
  entry-below x (y ∷ xs) zero e = omega arith
  entry-below x (y ∷ xs) (suc k) e = let l : k < length xs = entry-below x xs k e in omega arith

  pub below-entry : (xs : List A) (k : ℕ) → k < length xs → (x : A) × (get_elem? xs k ≡ some x)
  below-entry [] k h = absurd (not-suc-le-zero h)
  below-entry (x ∷ xs) zero h = (x, refl)
  below-entry (x ∷ xs) (suc k) h = below-entry xs k (le_of_suc-le-suc h)

  -- an entry is a member
  pub entry-member : (x : A) (xs : List A) (k : ℕ) → get_elem? xs k ≡ some x → Among x xs
  unfolding Among
  entry-member x [] k e = absurd (none-ne-some x e)
  entry-member x (y ∷ xs) zero e = inl (sym (some-injective y x e))
  entry-member x (y ∷ xs) (suc k) e = inr (entry-member x xs k e)

module _ {A B : Type 0} where
  -- within the list, what stands for a member past its end is of no account
  pub at_map : (f : A → B) (xs : List A) (p : ℕ) (z : A) (w : B) → p < length xs → get_or (map f xs) p w ≡ f (get_or xs p z)
  at_map f [] p z w h = absurd (not-suc-le-zero h)
  at_map f (x ∷ xs) zero z w h = refl
  at_map f (x ∷ xs) (suc p) z w h = at_map f xs p z w (le_of_suc-le-suc h)

  -- a product of lists of one length m: the place p * m + q is the place q of the list p
  pub length-flat : (f : A → List B) (m : ℕ) → ((x : A) → length (f x) ≡ m) → (xs : List A) → length (flat f xs) ≡ length xs * m
  unfolding flat
  length-flat f m u [] = sym (zero-mul m)
  length-flat f m u (x ∷ xs) =
      let e : m + length xs * m ≡ suc (length xs) * m = omega arith in
      length-append (f x) (flat f xs) ∙ ap₂ ◌+◌ (u x) (length-flat f m u xs) ∙ e

  pub at-flat : (f : A → List B) (m : ℕ) → ((x : A) → length (f x) ≡ m) → (xs : List A) (p q : ℕ) (z : A) (w : B) → p < length xs → q < m
      → get_or (flat f xs) (p * m + q) w ≡ get_or (f (get_or xs p z)) q w
  unfolding flat
  at-flat f m u [] p q z w h k = absurd (not-suc-le-zero h)
  at-flat f m u (x ∷ xs) zero q z w h k =
      let e : 0 * m + q ≡ q = omega arith in
      ap (λ (j : ℕ). get_or (f x ++ flat f xs) j w) e ∙ get_or-append (f x) (flat f xs) w q (omega (arith, u x))
  at-flat f m u (x ∷ xs) (suc p) q z w h k =
      let e : suc p * m + q ≡ length (f x) + (p * m + q) = omega (arith, u x) in
      ap (λ (j : ℕ). get_or (f x ++ flat f xs) j w) e ∙ get_or-append-add (f x) (flat f xs) (p * m + q) w ∙ at-flat f m u xs p q z w (le_of_suc-le-suc h) k
