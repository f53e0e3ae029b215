-- Laws of Boolean tests.
use mathlib.Core.Path.{◌≡◌, refl, ap, ◌∙◌}
use mathlib.Core.Bool.{Bool, true, false, cond, ◌&&◌, false≢true}
use mathlib.Core.List.{List, ◌∷◌}
use Rattle.std.proofs.lemmas.Bool.{and_from, and_parts, cond_both}
use Rattle.lexical.specs.Lists.{all}
-- Form 8: laws of the library by other names, since its `and_left` and `and_right` say of a test that it is false, and those of this file that it is true.
pub use Rattle.std.proofs.lemmas.Bool.{and_left as and-left-false, and_right as and-right-false, and_parts as both-true, false_from_ne_true as not-true}
pub use mathlib.Core.Bool.{or-false as or-none}

-- what holds of both branches holds of the branch taken
-- Form 8: the library's `cond_both` without the value of the test, which none of the callers needs: they would write `(λ e. ..)` twice each.
pub on-cond : {A : Type 0} (P : A → Type 0) (t : Bool) (x y : A) → P x → P y → P (cond t x y)
on-cond P t x y p q = cond_both t x y P (λ e. p) (λ e. q)

-- Form 8: the library's `and_from` without its two tests, which the facts show.
pub and_both : {a b : Bool} → a ≡ true → b ≡ true → (a && b) ≡ true
and_both {a} {b} e f = and_from a b e f

-- a side of `&&` that holds
-- Form 8: the library's `and_parts` gives both sides as a pair, and has the names of these two for tests that are false.
pub and_left : (a b : Bool) → (a && b) ≡ true → a ≡ true
and_left a b e = (and_parts a b e).0

pub and_right : (a b : Bool) → (a && b) ≡ true → b ≡ true
and_right a b e = (and_parts a b e).1

-- a test of all members of a list: of the first one and of the others
pub all-parts : {A : Type 0} (f : A → Bool) (x : A) (xs : List A) → all f (x ∷ xs) ≡ true → (f x ≡ true) × (all f xs ≡ true)
unfolding all
all-parts f x xs e = on (f x) e
  where
    on : (b : Bool) → ◌≡◌ {A = Bool} (elim b [ true ↦ all f xs | false ↦ false ]) true → (b ≡ true) × (all f xs ≡ true)
    on true h = (refl, h)
    on false h = absurd (false≢true h)

pub all-more : {A : Type 0} (f : A → Bool) (x : A) (xs : List A) → f x ≡ true → all f xs ≡ true → all f (x ∷ xs) ≡ true
unfolding all
all-more f x xs e h = ap (λ (b : Bool). elim b [ true ↦ all f xs | false ↦ false ]) e ∙ h
