-- Lists of faults that are empty, and their least one.
use mathlib.Core.Path.{◌≡◌, refl, subst}
use mathlib.Core.Bool.{Bool, true, false}
use mathlib.Core.List.{List, [], ◌∷◌, ◌++◌}
use mathlib.Core.Option.{none}
use Prim.Native.Nat.{ℕ}
use native.Mathlib.Omega.{arith}
use Rattle.refusals.specs.Refusals.{Fault, least, unless}

abbrev Filled : List Fault → Type 0
Filled [] = ⊥
Filled (x ∷ xs) = Unit {0}

pub not_nil : {A : Type 0} (x : Fault) (xs : List Fault) → (x ∷ xs) ≡ [] → A
not_nil x xs e = absurd (subst Filled e tt)

pub unless-nil : (fits : Bool) (f : Fault) → unless fits f ≡ [] → fits ≡ true
unfolding unless
unless-nil true f e = refl
unless-nil false f e = not_nil f [] e

pub append_nil-both : (xs ys : List Fault) → (xs ++ ys) ≡ [] → (xs ≡ []) × (ys ≡ [])
append_nil-both [] ys e = (refl, e)
append_nil-both (x ∷ xs) ys e = not_nil x (xs ++ ys) e

pub append_nil-three : (xs ys zs : List Fault) → (xs ++ ys ++ zs) ≡ [] → (xs ≡ []) × (ys ≡ []) × (zs ≡ [])
append_nil-three xs ys zs e =
    let h = append_nil-both (xs ++ ys) zs e in
    let k = append_nil-both xs ys h.0 in
    (k.0, k.1, h.1)

pub none-least : (fs : List Fault) → least fs ≡ none → fs ≡ []
unfolding least
none-least [] e = refl
none-least (f ∷ fs) e = let z : ◌≡◌ {A = ℕ} 0 1 = cc in absurd (omega arith)
