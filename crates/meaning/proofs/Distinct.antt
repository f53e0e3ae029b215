-- Lists without repeats: joined, mapped, filtered, and products of them; each member of one stands at one place. Assumes nothing.
use mathlib.Core.Path.{◌≡◌, refl, sym, ap, ◌∙◌, subst}
use mathlib.Core.Bool.{Bool, true, false}
use mathlib.Core.Logic.{◌⊎◌, inl, inr, ⊎_elim}
use mathlib.Core.List.{List, [], ◌∷◌, ◌++◌, map}
use Prim.Native.Nat.{ℕ, zero, suc, ◌<◌}
use native.Mathlib.Nat.{not-suc-le-zero, le_of_suc-le-suc}
use native.Mathlib.Omega.{arith}
use lib.ListN.{length, get_or}
use Rattle.static_rules.specs.LexicalLists.{filter, upward}
use Rattle.meaning.specs.Bindings.{flat, Among}
use Rattle.meaning.proofs.Members.{among-append, map-among, flat-among}
use Rattle.meaning.proofs.Places.{member-at}
use Rattle.meaning.proofs.UpwardNumbers.{among-upward}

unfoldable pub Distinct : {A : Type 0} → List A → Type 0
Distinct [] = Unit {0}
Distinct (x ∷ xs) = (Among x xs → ⊥) × Distinct xs

module _ {A : Type 0} where
  pub distinct_append : (xs ys : List A) → Distinct xs → Distinct ys → ((x : A) → Among x xs → Among x ys → ⊥) → Distinct (xs ++ ys)
  unfolding Distinct Among
  distinct_append [] ys h k n = k
  distinct_append (x ∷ xs) ys h k n =
      (λ m. ⊎_elim h.0 (n x (inl refl)) (among-append x xs ys m), distinct_append xs ys h.1 k (λ y a b. n y (inr a) b))

  filter-on : (f : A → Bool) (x : A) (xs : List A) → f x ≡ true → filter f (x ∷ xs) ≡ x ∷ filter f xs
  unfolding filter
  filter-on f x xs e = rw (e, filter)

  filter-off : (f : A → Bool) (x : A) (xs : List A) → f x ≡ false → filter f (x ∷ xs) ≡ filter f xs
  unfolding filter
  filter-off f x xs e = rw (e, filter)

  pub filter-among : (f : A → Bool) (y : A) (xs : List A) → Among y (filter f xs) → Among y xs
  unfolding Among filter
  filter-among f y [] m = absurd m
  filter-among f y (x ∷ xs) m = go (f x) refl (filter-among f y xs)
    where
      on : (y ≡ x) ⊎ Among y (filter f xs) → (Among y (filter f xs) → Among y xs) → (y ≡ x) ⊎ Among y xs
      on (inl e) r = inl e
      on (inr h) r = inr (r h)

      go : (t : Bool) → f x ≡ t → (Among y (filter f xs) → Among y xs) → (y ≡ x) ⊎ Among y xs
      go true e r = on (subst (Among y) (filter-on f x xs e) m) r
      go false e r = inr (r (subst (Among y) (filter-off f x xs e) m))

  pub distinct_filter : (f : A → Bool) (xs : List A) → Distinct xs → Distinct (filter f xs)
  unfolding Distinct filter
  distinct_filter f [] h = tt
  distinct_filter f (x ∷ xs) h = go (f x) refl (distinct_filter f xs h.1)
    where
      go : (t : Bool) → f x ≡ t → Distinct (filter f xs) → Distinct (filter f (x ∷ xs))
      go true e r = subst (λ (l : List A). Distinct l) (sym (filter-on f x xs e)) (λ m. h.0 (filter-among f x xs m), r)
      go false e r = subst (λ (l : List A). Distinct l) (sym (filter-off f x xs e)) r

  -- the places of a list without repeats and its members are one to one
  pub distinct-places : (xs : List A) (z : A) → Distinct xs → (p q : ℕ) → p < length xs → q < length xs → get_or xs p z ≡ get_or xs q z → p ≡ q
  unfolding Distinct
  distinct-places [] z h p q a b e = absurd (not-suc-le-zero a)
  distinct-places (x ∷ xs) z h zero zero a b e = refl
  distinct-places (x ∷ xs) z h zero (suc q) a b e =
      absurd (h.0 (subst (λ (y : A). Among y xs) (sym e) (member-at xs q z (le_of_suc-le-suc b))))
  distinct-places (x ∷ xs) z h (suc p) zero a b e =
      absurd (h.0 (subst (λ (y : A). Among y xs) e (member-at xs p z (le_of_suc-le-suc a))))
  distinct-places (x ∷ xs) z h (suc p) (suc q) a b e = ap suc (distinct-places xs z h.1 p q (le_of_suc-le-suc a) (le_of_suc-le-suc b) e)

module _ {A B : Type 0} where
  -- what holds of all members of a mapped list, of a product
  pub every_map : (P : B → Type 0) (f : A → B) (xs : List A) → ((x : A) → P (f x)) → (y : B) → Among y (map f xs) → P y
  every_map P f xs h y m = let s : (x : A) × Among x xs × (y ≡ f x) = map-among f y xs m in subst P (sym s.2) (h s.0)

  pub every-flat : (P : B → Type 0) (f : A → List B) (xs : List A) → ((x : A) (y : B) → Among y (f x) → P y) → (y : B) → Among y (flat f xs) → P y
  every-flat P f xs h y m = let s : (x : A) × Among x xs × Among y (f x) = flat-among f xs y m in h s.0 y s.2

  -- g reads back from f x what x was
  pub distinct-map : (f : A → B) (g : B → A) → ((x : A) → g (f x) ≡ x) → (xs : List A) → Distinct xs → Distinct (map f xs)
  unfolding Distinct
  distinct-map f g r [] h = tt
  distinct-map f g r (x ∷ xs) h = (
    λ m. let s : (y : A) × Among y xs × (f x ≡ f y) = map-among f (f x) xs m in h.0 (subst (λ (y : A). Among y xs) (sym (r s.0) ∙ ap g (sym s.2) ∙ r x) s.1),
    distinct-map f g r xs h.1,
  )

  -- g reads back from a member of f x what x was
  pub distinct-flat : (f : A → List B) (g : B → A) → ((x : A) (y : B) → Among y (f x) → g y ≡ x) → ((x : A) → Distinct (f x))
      → (xs : List A) → Distinct xs → Distinct (flat f xs)
  unfolding Distinct flat
  distinct-flat f g r d [] h = tt
  distinct-flat f g r d (x ∷ xs) h =
      distinct_append (f x) (flat f xs) (d x) (distinct-flat f g r d xs h.1)
      (λ y m n.
      let s : (w : A) × Among w xs × Among y (f w) = flat-among f xs y n in
      h.0 (subst (λ (w : A). Among w xs) (sym (r s.0 y s.2) ∙ r x y m) s.1))

pub distinct-upward : (k n : ℕ) → Distinct (upward k n)
unfolding Distinct upward
distinct-upward k zero = tt
distinct-upward k (suc n) = (λ m. let h = (among-upward (suc k) n k m).0 in omega arith, distinct-upward (suc k) n)
