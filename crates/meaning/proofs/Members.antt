-- The members of a list: of two lists joined, of a mapped one, of a product; and what `any` and `all` say of them. Assumes nothing.
use mathlib.Core.Path.{◌≡◌, refl, sym, ap, ◌∙◌, subst}
use mathlib.Core.Bool.{Bool, true, false, false≢true, true≢false}
use mathlib.Core.Logic.{◌⊎◌, inl, inr}
use mathlib.Core.List.{List, [], ◌∷◌, ◌++◌, map}
use Rattle.static_rules.specs.LexicalLists.{any, all}
use Rattle.meaning.specs.Bindings.{flat, Among}

module _ {A : Type 0} where
  pub among-left : (x : A) (xs ys : List A) → Among x xs → Among x (xs ++ ys)
  unfolding Among
  among-left x [] ys m = absurd m
  among-left x (z ∷ xs) ys (inl e) = inl e
  among-left x (z ∷ xs) ys (inr m) = inr (among-left x xs ys m)

  pub among-right : (x : A) (xs ys : List A) → Among x ys → Among x (xs ++ ys)
  unfolding Among
  among-right x [] ys m = m
  among-right x (z ∷ xs) ys m = inr (among-right x xs ys m)

  pub among-append : (x : A) (xs ys : List A) → Among x (xs ++ ys) → Among x xs ⊎ Among x ys
  unfolding Among
  among-append x [] ys m = inr m
  among-append x (z ∷ xs) ys (inl e) = inl (inl e)
  among-append x (z ∷ xs) ys (inr m) = go (among-append x xs ys m)
    where
      go : Among x xs ⊎ Among x ys → ((x ≡ z) ⊎ Among x xs) ⊎ Among x ys
      go (inl h) = inl (inr h)
      go (inr h) = inr h

  -- `any` passes exactly if a member does
  pub any_found : (f : A → Bool) (xs : List A) → any f xs ≡ true → (x : A) × Among x xs × (f x ≡ true)
  unfolding any Among
  any_found f [] e = absurd (false≢true e)
  any_found f (x ∷ xs) e = go (f x) refl (λ q. any_found f xs (rw (any, q) at e))
    where
      go : (t : Bool) → f x ≡ t → (f x ≡ false → (y : A) × Among y xs × (f y ≡ true)) → (y : A) × ((y ≡ x) ⊎ Among y xs) × (f y ≡ true)
      go true q r = (x, inl refl, q)
      go false q r = let s : (y : A) × Among y xs × (f y ≡ true) = r q in (s.0, inr s.1, s.2)

  pub any-put : (f : A → Bool) (x : A) (xs : List A) → Among x xs → f x ≡ true → any f xs ≡ true
  unfolding any Among
  any-put f x [] m e = absurd m
  any-put f x (y ∷ xs) (inl q) e = rw (any, ap f (sym q) ∙ e) refl
  any-put f x (y ∷ xs) (inr m) e = go (f y) refl (any-put f x xs m e)
    where
      go : (t : Bool) → f y ≡ t → any f xs ≡ true → any f (y ∷ xs) ≡ true
      go true q r = rw (any, q) refl
      go false q r = rw (any, q) r

  -- it fails exactly if every member does
  pub any_none : (f : A → Bool) (xs : List A) → any f xs ≡ false → (x : A) → Among x xs → f x ≡ false
  any_none f xs e x m = go (f x) refl
    where
      go : (t : Bool) → f x ≡ t → f x ≡ false
      go true q = absurd (true≢false (sym (any-put f x xs m q) ∙ e))
      go false q = q

  pub none_any : (f : A → Bool) (xs : List A) → ((x : A) → Among x xs → f x ≡ false) → any f xs ≡ false
  none_any f xs n = go (any f xs) refl
    where
      go : (t : Bool) → any f xs ≡ t → any f xs ≡ false
      go true q = let s : (x : A) × Among x xs × (f x ≡ true) = any_found f xs q in absurd (true≢false (sym s.2 ∙ n s.0 s.1))
      go false q = q

  -- `all` passes exactly if every member does
  all_here : (f : A → Bool) (x : A) (xs : List A) → f x ≡ true → all f (x ∷ xs) ≡ all f xs
  unfolding all
  all_here f x xs e = rw (e, all)

  all-fails : (f : A → Bool) (x : A) (xs : List A) → f x ≡ false → all f (x ∷ xs) ≡ false
  unfolding all
  all-fails f x xs e = rw (e, all)

  pub all_pass : (f : A → Bool) (xs : List A) → all f xs ≡ true → (x : A) → Among x xs → f x ≡ true
  unfolding Among
  all_pass f [] e x m = absurd m
  all_pass f (y ∷ xs) e x m = go (f y) refl (λ q. all_pass f xs (sym (all_here f y xs q) ∙ e) x) m
    where
      go : (t : Bool) → f y ≡ t → (f y ≡ true → Among x xs → f x ≡ true) → (x ≡ y) ⊎ Among x xs → f x ≡ true
      go true q r (inl p) = ap f p ∙ q
      go true q r (inr h) = r q h
      go false q r h = absurd (false≢true (sym (all-fails f y xs q) ∙ e))

  pub pass_all : (f : A → Bool) (xs : List A) → ((x : A) → Among x xs → f x ≡ true) → all f xs ≡ true
  unfolding all Among
  pass_all f [] h = refl
  pass_all f (x ∷ xs) h = all_here f x xs (h x (inl refl)) ∙ pass_all f xs (λ y m. h y (inr m))

module _ {A B : Type 0} where
  pub among-map : (f : A → B) (x : A) (xs : List A) → Among x xs → Among (f x) (map f xs)
  unfolding Among
  among-map f x [] m = absurd m
  among-map f x (y ∷ xs) (inl e) = inl (ap f e)
  among-map f x (y ∷ xs) (inr m) = inr (among-map f x xs m)

  pub map-among : (f : A → B) (y : B) (xs : List A) → Among y (map f xs) → (x : A) × Among x xs × (y ≡ f x)
  unfolding Among
  map-among f y [] m = absurd m
  map-among f y (x ∷ xs) (inl e) = (x, inl refl, e)
  map-among f y (x ∷ xs) (inr m) = let s : (z : A) × Among z xs × (y ≡ f z) = map-among f y xs m in (s.0, inr s.1, s.2)

  pub among-flat : (f : A → List B) (x : A) (xs : List A) (y : B) → Among x xs → Among y (f x) → Among y (flat f xs)
  unfolding Among flat
  among-flat f x [] y m n = absurd m
  among-flat f x (z ∷ xs) y (inl e) n = among-left y (f z) (flat f xs) (subst (λ (w : A). Among y (f w)) e n)
  among-flat f x (z ∷ xs) y (inr m) n = among-right y (f z) (flat f xs) (among-flat f x xs y m n)

  pub flat-among : (f : A → List B) (xs : List A) (y : B) → Among y (flat f xs) → (x : A) × Among x xs × Among y (f x)
  unfolding Among flat
  flat-among f [] y m = absurd m
  flat-among f (x ∷ xs) y m = go (among-append y (f x) (flat f xs) m) (flat-among f xs y)
    where
      go : Among y (f x) ⊎ Among y (flat f xs) → (Among y (flat f xs) → (z : A) × Among z xs × Among y (f z)) → (z : A) × ((z ≡ x) ⊎ Among z xs) × Among y (f z)
      go (inl n) r = (x, inl refl, n)
      go (inr n) r = let s : (z : A) × Among z xs × Among y (f z) = r n in (s.0, inr s.1, s.2)
