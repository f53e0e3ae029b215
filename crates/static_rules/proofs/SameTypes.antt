-- Two types that are the same are one.
use mathlib.Core.Path.{◌≡◌, refl, sym, ap, ap₂, ◌∙◌}
use mathlib.Core.Bool.{true, false≢true}
use mathlib.Core.List.{List, [], ◌∷◌}
use Prim.Native.Nat.{ℕ, zero, suc}
use borrow.Author.Tests.{eqb-true}
use Rattle.form.specs.LexicalLists.{same}
use Rattle.form.specs.Tree.{Letters}
use Rattle.std.proofs.lemmas.Bool.{and_parts}
use Rattle.form.proofs.LexicalWordLaws.{same_true}
use Rattle.static_rules.specs.Types.{Sort, is_number, is_element, is_set, is_pairs, Ty, sort_code, has, same_over_type, same_type}

unsort : ℕ → Sort
unsort zero = is_number
unsort (suc zero) = is_element
unsort (suc (suc zero)) = is_set
unsort (suc (suc (suc n))) = is_pairs

unsorted : (s : Sort) → unsort (sort_code s) ≡ s
unfolding unsort
unsorted is_number = refl
unsorted is_element = refl
unsorted is_set = refl
unsorted is_pairs = refl

pub has-sort : (t : Ty) (s : Sort) → has t s ≡ true → t.sort ≡ s
unfolding has
has-sort t s e = sym (unsorted t.sort) ∙ ap unsort (eqb-true (sort_code t.sort) (sort_code s) e) ∙ unsorted s

same-over : (xs ys : List Letters) → same_over_type xs ys ≡ true → xs ≡ ys
unfolding same_over_type
same-over [] [] e = refl
same-over [] (y ∷ ys) e = absurd (false≢true e)
same-over (x ∷ xs) [] e = absurd (false≢true e)
same-over (x ∷ xs) (y ∷ ys) e =
    let h = and_parts (same x y) (same_over_type xs ys) e in ap₂ (λ (z : Letters) (zs : List Letters). z ∷ zs) (same_true x y h.0) (same-over xs ys h.1)

pub same-type : (t u : Ty) → same_type t u ≡ true → t ≡ u
unfolding same_type
same-type t u e =
    let h = and_parts (has t u.sort) (same_over_type t.over u.over) e in
    let s : t.sort ≡ u.sort = has-sort t u.sort h.0 in
    let o : t.over ≡ u.over = same-over t.over u.over h.1 in
    λ i. record { sort = s i; over = o i }
