-- What holds of a part that is ready holds of what the searches are lent of it, and the other way round. Assumes nothing.
use mathlib.Core.Path.{◌≡◌, sym, subst}
use mathlib.Core.List.{List}
use Prim.Native.Nat.{ℕ}
use Rattle.plans.specs.declared.Part.{Part}

module _ (X : List ℕ → List ℕ → List ℕ → Part → Type 0) {t u q r c e : List ℕ} {p s : Part} (et : u ≡ t) (eq : r ≡ q) (ec : e ≡ c) (ep : s ≡ p) where
  pub lent : X t q c p → X u r e s
  lent v =
      subst (λ (x : List ℕ). X x r e s) (sym et)
      (subst (λ (x : List ℕ). X t x e s) (sym eq)
      (subst (λ (x : List ℕ). X t q x s) (sym ec)
      (subst (λ (x : Part). X t q c x) (sym ep) v)))

  pub returned : X u r e s → X t q c p
  returned v =
      subst (λ (x : Part). X t q c x) ep
      (subst (λ (x : List ℕ). X t q x s) ec
      (subst (λ (x : List ℕ). X t x e s) eq
      (subst (λ (x : List ℕ). X x r e s) et v)))
