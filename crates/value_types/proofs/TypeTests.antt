-- Tests on types: types that pass as the same are one, and the items of a brace that fit have one type.
use mathlib.Core.Path.{◌≡◌, refl, ap}
use mathlib.Core.Bool.{Bool, true, ◌&&◌, false≢true}
use mathlib.Core.List.{List, [], ◌∷◌}
use Prim.Native.Nat.{ℕ}
use borrow.Author.Tests.{eq-eqb}
use Rattle.lexical.specs.Lists.{all}
use Rattle.lexical.proofs.WordLaws.{same_refl}
use Rattle.std.proofs.lemmas.Bool.{and_from}
use Rattle.meaning.proofs.LexicalBooleanTests.{and_left, and_right}
use Rattle.meaning.specs.FormTree.{Letters}
use Rattle.meaning.specs.StaticRulesTypes.{Sort, is_number, is_element, is_set, is_pairs, Ty, sort_code, has, same_over_type, same_type, set_of, pairs_of_types, is_any_set, brace_type, brace_fits, pairs_type, pairs_fit}
use Rattle.meaning.proofs.StaticRulesSameTypes.{has-sort, same-type}
use Rattle.lexical.proofs.BooleanTests.{all-parts, all-more}

pub sort-has : (t : Ty) (s : Sort) → t.sort ≡ s → has t s ≡ true
unfolding has
sort-has t s e = eq-eqb (sort_code t.sort) (sort_code s) (ap sort_code e)

-- what is a set of some kind is no number
pub set-no-number : (t : Ty) → is_any_set t ≡ true → has t is_number ≡ true → ⊥
unfolding is_any_set has
set-no-number t e h = on t.sort (has-sort t is_number h) e
  where
    on : (s : Sort) → s ≡ is_number → is_any_set (record { sort = s; over = t.over }) ≡ true → ⊥
    on is_number p q = false≢true q
    on is_element p q = false≢true q
    on is_set p q = let z : ◌≡◌ {A = ℕ} 2 0 = ap sort_code p in false≢true (eq-eqb 2 0 z)
    on is_pairs p q = let z : ◌≡◌ {A = ℕ} 3 0 = ap sort_code p in false≢true (eq-eqb 3 0 z)

over-refl : (xs : List Letters) → same_over_type xs xs ≡ true
unfolding same_over_type
over-refl [] = refl
over-refl (x ∷ xs) = and_from _ _ (same_refl x) (over-refl xs)

pub type-refl : (t : Ty) → same_type t t ≡ true
unfolding same_type
type-refl t = and_from _ _ (sort-has t t.sort refl) (over-refl t.over)

-- ---- the items of a brace

-- all items are of the type t of elements
pub record ItemsOf (t : Ty) (ts : List Ty) : Type 0 where
  pub element : has t is_element ≡ true
  pub alike : all (same_type t) ts ≡ true

pub items_of : (ts : List Ty) → brace_fits ts ≡ true → (t : Ty) × ItemsOf t ts × (brace_type ts ≡ set_of t)
unfolding brace_fits
items_of [] e = absurd (false≢true e)
items_of (t ∷ ts) e = (
  t,
  record {
    element = and_left (has t is_element) (all (same_type t) ts) e;
    alike = all-more (same_type t) t ts (type-refl t) (and_right (has t is_element) (all (same_type t) ts) e);
  },
  refl,
)

pub items-split : (t u : Ty) (us : List Ty) → ItemsOf t (u ∷ us) → (t ≡ u) × ItemsOf t us
items-split t u us h =
    let k = all-parts (same_type t) u us h.alike in
    (same-type t u k.0, record { element = h.element; alike = k.1 })

-- all pairs are of the types t and u of elements
abbrev pub same_pair : Ty → Ty → Ty × Ty → Bool
same_pair t u p = same_type t p.0 && same_type u p.1

pub record PairsOf (t u : Ty) (ps : List (Ty × Ty)) : Type 0 where
  pub first : has t is_element ≡ true
  pub second : has u is_element ≡ true
  pub alike : all (same_pair t u) ps ≡ true

pub pairs_of : (ps : List (Ty × Ty)) → pairs_fit ps ≡ true → (t : Ty) × (u : Ty) × PairsOf t u ps × (pairs_type ps ≡ pairs_of_types t u)
unfolding pairs_fit
pairs_of [] e = absurd (false≢true e)
pairs_of (p ∷ ps) e =
    let t : Ty = p.0 in
    let u : Ty = p.1 in
    let f = and_left (has t is_element && has u is_element) (all (same_pair t u) ps) e in
    let r = and_right (has t is_element && has u is_element) (all (same_pair t u) ps) e in (
      t,
      u,
      record {
        first = and_left (has t is_element) (has u is_element) f;
        second = and_right (has t is_element) (has u is_element) f;
        alike = all-more (same_pair t u) p ps (and_from _ _ (type-refl t) (type-refl u)) r;
      },
      refl,
    )

pub pairs-split : (t u : Ty) (p : Ty × Ty) (ps : List (Ty × Ty)) → PairsOf t u (p ∷ ps) → (t ≡ p.0) × (u ≡ p.1) × PairsOf t u ps
pairs-split t u p ps h =
    let k = all-parts (same_pair t u) p ps h.alike in (
      same-type t p.0 (and_left (same_type t p.0) (same_type u p.1) k.0),
      same-type u p.1 (and_right (same_type t p.0) (same_type u p.1) k.0),
      record { first = h.first; second = h.second; alike = k.1 },
    )
