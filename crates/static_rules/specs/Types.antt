-- Document 01, "Types fit".
use Rattle.std.specs.Prelude.{Bool, true, false, ◌&&◌, ◌||◌, List, [], ◌∷◌, ◌++◌, ℕ, eqb, take, drop}
use Rattle.form.specs.LexicalLists.{same, all}
use Rattle.form.specs.Tree.{Letters, Prefix, negate, size, dom, ran, Operator, plus, minus, union, without, times, inter, Comparison, equals, differs, less, at_most}
use Rattle.static_rules.specs.Carriers.{Carrier, elements_of, numbers, subsets_of, pairs_in}

pub data Sort : Type 0 where
  is_number is_element is_set is_pairs : Sort

-- a number; an element of a given set; a set of such; a set of pairs: its sort, and the given sets that it is over
pub record Ty : Type 0 where
  pub sort : Sort
  pub over : List Letters

abbrev pub number : Ty
number = record { sort = is_number; over = [] }

-- "The last three have one type, sets of pairs."
abbrev pub type_of : Carrier → Ty
type_of (elements_of g) = record { sort = is_element; over = g.title ∷ [] }
type_of (numbers a b) = number
type_of (subsets_of g) = record { sort = is_set; over = g.title ∷ [] }
type_of (pairs_in a g h) = record { sort = is_pairs; over = g.title ∷ h.title ∷ [] }

abbrev pub sort_code : Sort → ℕ
sort_code is_number = 0
sort_code is_element = 1
sort_code is_set = 2
sort_code is_pairs = 3

unfoldable pub has : Ty → Sort → Bool
has t s = eqb (sort_code t.sort) (sort_code s)

unfoldable pub same_over_type : List Letters → List Letters → Bool
same_over_type [] [] = true
same_over_type [] (h ∷ hs) = false
same_over_type (g ∷ gs) [] = false
same_over_type (g ∷ gs) (h ∷ hs) = same g h && same_over_type gs hs

unfoldable pub same_type : Ty → Ty → Bool
same_type t u = has t u.sort && same_over_type t.over u.over

-- the sets of such elements, the sets of such pairs, and the two sides of a set of pairs
abbrev pub set_of : Ty → Ty
set_of t = record { sort = is_set; over = t.over }

abbrev pub pairs_of_types : Ty → Ty → Ty
pairs_of_types t u = record { sort = is_pairs; over = t.over ++ u.over }

abbrev pub dom_of : Ty → Ty
dom_of t = record { sort = is_set; over = take 1 t.over }

abbrev pub ran_of : Ty → Ty
ran_of t = record { sort = is_set; over = drop 1 t.over }

unfoldable pub is_any_set : Ty → Bool
is_any_set t = has t is_set || has t is_pairs

unfoldable pub are_numbers : Ty → Ty → Bool
are_numbers t u = has t is_number && has u is_number

-- "Arithmetic, < and <= take numbers. ... # takes any set, dom and ran a set of pairs."
abbrev pub prefix_fits : Prefix → Ty → Bool
prefix_fits negate t = has t is_number
prefix_fits size t = is_any_set t
prefix_fits dom t = has t is_pairs
prefix_fits ran t = has t is_pairs

abbrev pub prefix_type : Prefix → Ty → Ty
prefix_type negate t = number
prefix_type size t = number
prefix_type dom t = dom_of t
prefix_type ran t = ran_of t

-- "union, minus and inter take two sets of one type"
abbrev pub operator_fits : Operator → Ty → Ty → Bool
operator_fits plus t u = are_numbers t u
operator_fits minus t u = are_numbers t u
operator_fits times t u = are_numbers t u
operator_fits union t u = is_any_set t && same_type t u
operator_fits without t u = is_any_set t && same_type t u
operator_fits inter t u = is_any_set t && same_type t u

-- "= and /= two terms of one type"
abbrev pub comparison_fits : Comparison → Ty → Ty → Bool
comparison_fits equals t u = same_type t u
comparison_fits differs t u = same_type t u
comparison_fits less t u = are_numbers t u
comparison_fits at_most t u = are_numbers t u

-- "in and notin an element and its set, a pair and its relation"
unfoldable pub member_fits : Ty → Ty → Bool
member_fits t u = has t is_element && same_type (set_of t) u

unfoldable pub related_fits : Ty → Ty → Ty → Bool
related_fits t u v = has t is_element && has u is_element && same_type (pairs_of_types t u) v

-- "A brace lists elements of one given set or pairs of one type.": the type of the brace, by its first item, and whether all items fit it
abbrev pub brace_type : List Ty → Ty
brace_type [] = number
brace_type (t ∷ ts) = set_of t

unfoldable pub brace_fits : List Ty → Bool
brace_fits [] = false
brace_fits (t ∷ ts) = has t is_element && all (same_type t) ts

abbrev pub pairs_type : List (Ty × Ty) → Ty
pairs_type [] = number
pairs_type (t ∷ ts) = pairs_of_types t.0 t.1

unfoldable pub pairs_fit : List (Ty × Ty) → Bool
pairs_fit [] = false
pairs_fit (t ∷ ts) = has t.0 is_element && has t.1 is_element && all (λ (u : Ty × Ty). same_type t.0 u.0 && same_type t.1 u.1) ts
