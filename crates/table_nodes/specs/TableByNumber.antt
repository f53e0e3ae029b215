-- The table that the evaluator runs: for each node of a term or predicate one node at the same place, with names, given sets and types resolved.
-- T has what each name is (type_rules/specs/TypesByNumber), W where its value is found, z the sizes of the given sets; s is the slot of the next bound name,
-- and p the place of the tree's first number in the table.
use Rattle.std.specs.Prelude.{cond, List, ◌++◌, ℕ, ◌+◌, ◌-◌, ◌/◌, ◌%◌, ltb, length, set}
use Rattle.std.specs.Prelude as rust
use Rattle.std.specs.Prelude.{None, Some}
use Rattle.lexical.specs.Kinds.{code_of}
use Rattle.lexical.specs.Symbols.{no_ending}
use Rattle.form.specs.Tree.{Domain, given_set, range, Membership, is_in, not_in}
use Rattle.form.specs.Tree.{Term, number, name, group, prefix, binary, divided, listed, pairs, such, empty_set, empty_pairs, Items, only, also, Pairs, only_pair, also_pair}
use Rattle.form.specs.Tree.{Pred, truth, falsity, negation, paren, quantified, connected, compared, member, within, related}
use Rattle.form.specs.Written.{prefix_kind, operator_kind, connective_kind, quantifier_kind, comparison_kind, membership_kind}
use Rattle.form.specs.Codes.{Numbering, node, name_number, number_of_name, end_number, sign_of, division_number}
use Rattle.type_rules.specs.TypesByNumber.{Names, Sizes, entry, is_given, is_element, is_pairs, element_of, range_fits, size_in, term_kind, domain_kind}

-- where the value of each name is found, by its number: below 64 the slot, from 64 on the place of an element in its given set
abbrev pub Places : Type 0
Places = List ℕ

-- the slot behind a bound name's
unfoldable pub next_slot : ℕ → ℕ
next_slot s = cond (ltb s 63) (s + 1) 63

-- how many elements a given set has, where there is one
unfoldable pub set_size : Sizes → rust.Option ℕ → ℕ
set_size z (Some g) = size_in z g
set_size z None = 0

-- how many elements the given set has that a name is; that elements are of; that the first and the second sides of pairs are of
unfoldable pub given_size : Sizes → ℕ → ℕ
given_size z k = cond (is_given k) (size_in z (k - 8)) 0

unfoldable pub element_size : Sizes → ℕ → ℕ
element_size z k = cond (is_element k) (size_in z (k - 16)) 0

unfoldable pub first_size : Sizes → ℕ → ℕ
first_size z k = cond (is_pairs k) (size_in z ((k - 64) / 8)) 0

unfoldable pub second_size : Sizes → ℕ → ℕ
second_size z k = cond (is_pairs k) (size_in z ((k - 64) % 8)) 0

-- 1 a number, or an element by its place; 2 a slot
unfoldable pub placed : ℕ → List ℕ
placed w = cond (ltb w 64) (node 2 0 w 0) (node 1 0 (w - 64) 0)

-- how many numbers a range has, by its ends with 1,000 added; one of more than 64 is at fault (type_rules/specs/TypesByNumber)
unfoldable pub range_count : ℕ → ℕ → ℕ
range_count a b = cond (range_fits a b) (b + 1 - a) 0

-- 13 the values that a name is bound over, or a range: the first, with 1,000 added, and how many
unfoldable pub domain_table : Domain → Names → Sizes → Numbering → List ℕ
domain_table (given_set g) T z ρ = node 13 0 1000 (given_size z (entry T (name_number ρ g)))
domain_table (range r) T z ρ = node 13 0 (end_number r.lower) (range_count (end_number r.lower) (end_number r.upper))

abbrev pub related_shape : Membership → ℕ
related_shape is_in = 22
related_shape not_in = 23

-- A node with two parts has the end of the first one, of three those of the first and the second. Braces: 7, with its items 9 the last and 10 another one;
-- 8, with its pairs 11 the last and 12 another one, and how many elements the second side has.
unfoldable mutual
  pub term_table : Term → Names → Places → Sizes → Numbering → (s p : ℕ) → List ℕ
  term_table (number n) T W z ρ s p = node 1 0 n 0
  term_table (name x) T W z ρ s p = placed (entry W (name_number ρ x))
  term_table (group t) T W z ρ s p = term_table t T W z ρ s p
  term_table (prefix o t) T W z ρ s p =
      term_table t T W z ρ s p ++ node 3 (first_size z (term_kind t T ρ)) (code_of (prefix_kind o)) (second_size z (term_kind t T ρ))
  term_table (divided o t e) T W z ρ s p = term_table t T W z ρ s p ++ node 4 0 e.magnitude (sign_of e.negative + division_number o)
  term_table (binary o t u) T W z ρ s p =
      let a : List ℕ = term_table t T W z ρ s p in
      a ++ (term_table u T W z ρ s (p + length a) ++ node 5 (p + length a) (code_of (operator_kind o)) 0)
  term_table (such x g q) T W z ρ s p =
      pred_table q (set T (number_of_name ρ x no_ending) (element_of (entry T (name_number ρ g)))) (set W (number_of_name ρ x no_ending) s) z ρ (next_slot s) p
      ++ (domain_table (given_set g) T z ρ ++ node 6 0 s 0)
  term_table (listed ts) T W z ρ s p = items_table ts T W z ρ s p ++ node 7 0 0 0
  term_table (pairs ts) T W z ρ s p = pairs_table ts T W z ρ s p ++ node 8 0 0 0
  term_table (empty_set g) T W z ρ s p = node 1 0 0 0
  term_table (empty_pairs g h) T W z ρ s p = node 1 0 0 0

  pub items_table : Items → Names → Places → Sizes → Numbering → (s p : ℕ) → List ℕ
  items_table (only t) T W z ρ s p = term_table t T W z ρ s p ++ node 9 0 0 0
  items_table (also t ts) T W z ρ s p =
      let a : List ℕ = term_table t T W z ρ s p in
      a ++ (items_table ts T W z ρ s (p + length a) ++ node 10 (p + length a) 0 0)

  pub pairs_table : Pairs → Names → Places → Sizes → Numbering → (s p : ℕ) → List ℕ
  pairs_table (only_pair t u) T W z ρ s p =
      let a : List ℕ = term_table t T W z ρ s p in
      a ++ (term_table u T W z ρ s (p + length a) ++ node 11 (p + length a) (element_size z (term_kind u T ρ)) 0)
  pairs_table (also_pair t u ts) T W z ρ s p =
      let a : List ℕ = term_table t T W z ρ s p in
      let b : List ℕ = term_table u T W z ρ s (p + length a) in
      a ++ (b ++ (pairs_table ts T W z ρ s (p + length a + length b) ++ node 12 (p + length a) (element_size z (term_kind u T ρ)) (p + length a + length b)))

  pub pred_table : Pred → Names → Places → Sizes → Numbering → (s p : ℕ) → List ℕ
  pred_table truth T W z ρ s p = node 16 0 1 0
  pred_table falsity T W z ρ s p = node 16 0 0 0
  pred_table (negation q) T W z ρ s p = pred_table q T W z ρ s p ++ node 17 0 0 0
  pred_table (paren q) T W z ρ s p = pred_table q T W z ρ s p
  pred_table (connected o q r) T W z ρ s p =
      let a : List ℕ = pred_table q T W z ρ s p in
      a ++ (pred_table r T W z ρ s (p + length a) ++ node 18 (p + length a) (code_of (connective_kind o)) 0)
  pred_table (compared o t u) T W z ρ s p =
      let a : List ℕ = term_table t T W z ρ s p in
      a ++ (term_table u T W z ρ s (p + length a) ++ node 19 (p + length a) (code_of (comparison_kind o)) 0)
  pred_table (member o t u) T W z ρ s p =
      let a : List ℕ = term_table t T W z ρ s p in
      a ++ (term_table u T W z ρ s (p + length a) ++ node 20 (p + length a) (code_of (membership_kind o)) 0)
  pred_table (within o t r) T W z ρ s p = term_table t T W z ρ s p ++ (domain_table (range r) T z ρ ++ node 21 0 (code_of (membership_kind o)) 0)
  pred_table (related o t u v) T W z ρ s p =
      let a : List ℕ = term_table t T W z ρ s p in
      let b : List ℕ = term_table u T W z ρ s (p + length a) in
      a ++ (b ++ (term_table v T W z ρ s (p + length a + length b) ++ node (related_shape o) (p + length a) (element_size z (term_kind u T ρ)) (p + length a + length b)))
  pred_table (quantified q x t r) T W z ρ s p =
      pred_table r (set T (number_of_name ρ x no_ending) (domain_kind t T ρ)) (set W (number_of_name ρ x no_ending) s) z ρ (next_slot s) p
      ++ (domain_table t T z ρ ++ node 24 0 s (code_of (quantifier_kind q)))
