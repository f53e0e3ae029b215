-- The table that the evaluator runs, by the definitions: for each node of a term or predicate (form/specs/Codes) one node at the same place, four numbers each,
-- with slots for names, places for elements, sizes for given sets. Γ is the scope of the tree, W has its slots; s is the slot of the next bound name,
-- and p the place of the tree's first number in the table.
use Rattle.std.specs.Prelude.{cond, List, [], ◌∷◌, ◌++◌, map, ℕ, suc, ◌+◌, ◌-◌, length, get_or}
use Rattle.std.proofs.Math.Option.{Option, none, some}
use Rattle.lexical.specs.Kinds.{code_of}
use Rattle.lexical.specs.Lists.{find}
use Rattle.lexical.specs.Symbols.{Name}
use Rattle.form.specs.Tree.{Letters, Domain, given_set, range, Given, elements}
use Rattle.form.specs.Tree.{Term, number, name, group, prefix, binary, divided, listed, pairs, such, empty_set, empty_pairs, Items, only, also, Pairs, only_pair, also_pair}
use Rattle.form.specs.Tree.{Pred, truth, falsity, negation, paren, quantified, connected, compared, member, within, related}
use Rattle.form.specs.Written.{prefix_kind, operator_kind, connective_kind, quantifier_kind, comparison_kind, membership_kind}
use Rattle.form.specs.Codes.{node, end_number, sign_of, division_number}
use Rattle.names.specs.StaticRulesCarriers.{Variable, size_of, same_name, plain, given_of}
use Rattle.names.specs.StaticRulesTypes.{Ty, has, is_pairs}
use Rattle.names.specs.StaticRulesScope.{Scope, given_in_reach, binding, element_of, place_in}
use Rattle.names.specs.StaticRulesNames.{judge_term, domain_carrier}
use Rattle.table_nodes.specs.TableByNumber.{next_slot, related_shape}

-- the slot of each name in reach, the innermost first
abbrev pub Slots : Type 0
Slots = List (Name × ℕ)

-- variables one behind the other, from the slot s on
unfoldable pub slotted : (s : ℕ) → List Variable → Slots
slotted s [] = []
slotted s (v ∷ vs) = (v.called, s) ∷ slotted (suc s) vs

abbrev size_or : Option Given → ℕ
size_or none = 0
size_or (some g) = size_of g

-- how many elements the given set of this name has; the given sets that a type is over
unfoldable pub given_size : List Given → Name → ℕ
given_size gs g = size_or (given_of gs g)

unfoldable pub over_sizes : List Given → Ty → List ℕ
over_sizes gs t = map (λ (g : Letters). given_size gs (plain g)) t.over

-- the type of a term; where it stands does not matter
abbrev pub type_in : Scope → Term → Ty
type_in Γ t = (judge_term t Γ 0).type

-- of a set of pairs, how many elements its k-th side has; of an element, how many its given set has
unfoldable pub side_size : ℕ → Scope → Term → ℕ
side_size k Γ t = cond (has (type_in Γ t) is_pairs) (get_or (over_sizes Γ.givens (type_in Γ t)) k 0) 0

unfoldable pub element_size : Scope → Term → ℕ
element_size Γ t = get_or (over_sizes Γ.givens (type_in Γ t)) 0 0

-- 2 a variable or a bound name, by its slot; 1 an element, by its place, or a number
abbrev pub placed : Option (Name × ℕ) → Option Given → Name → List ℕ
placed (some w) g x = node 2 0 w.1 0
placed none none x = node 1 0 0 0
placed none (some g) x = node 1 0 (place_in (elements g) x) 0

abbrev pub slot_of : Slots → Name → Option (Name × ℕ)
slot_of W x = find (λ (w : Name × ℕ). same_name w.0 x) W

unfoldable pub name_table : Scope → Slots → Name → List ℕ
name_table Γ W x = placed (slot_of W x) (element_of Γ.givens x) x

-- 13 the values that a name is bound over, or a range: the first, with 1,000 added, and how many
unfoldable pub domain_table : Domain → Scope → List ℕ
domain_table (given_set g) Γ = node 13 0 1000 (size_or (given_in_reach Γ g))
domain_table (range r) Γ = node 13 0 (end_number r.lower) (end_number r.upper + 1 - end_number r.lower)

-- A node with two parts has the end of the first one, of three those of the first and the second. Braces: 7, with its items 9 the last and 10 another one;
-- 8, with its pairs 11 the last and 12 another one, and how many elements the second side has.
unfoldable mutual
  pub term_table : Term → Scope → Slots → (s p : ℕ) → List ℕ
  term_table (number n) Γ W s p = node 1 0 n 0
  term_table (name x) Γ W s p = name_table Γ W x
  term_table (group t) Γ W s p = term_table t Γ W s p
  term_table (prefix o t) Γ W s p =
      term_table t Γ W s p ++ node 3 (side_size 0 Γ t) (code_of (prefix_kind o)) (side_size 1 Γ t)
  term_table (divided o t e) Γ W s p = term_table t Γ W s p ++ node 4 0 e.magnitude (sign_of e.negative + division_number o)
  term_table (binary o t u) Γ W s p =
      let a : List ℕ = term_table t Γ W s p in
      a ++ (term_table u Γ W s (p + length a) ++ node 5 (p + length a) (code_of (operator_kind o)) 0)
  term_table (such x g q) Γ W s p =
      pred_table q (binding Γ x (domain_carrier Γ (given_set g))) ((plain x, s) ∷ W) (next_slot s) p
      ++ (domain_table (given_set g) Γ ++ node 6 0 s 0)
  term_table (listed ts) Γ W s p = items_table ts Γ W s p ++ node 7 0 0 0
  term_table (pairs ts) Γ W s p = pairs_table ts Γ W s p ++ node 8 0 0 0
  term_table (empty_set g) Γ W s p = node 1 0 0 0
  term_table (empty_pairs g h) Γ W s p = node 1 0 0 0

  pub items_table : Items → Scope → Slots → (s p : ℕ) → List ℕ
  items_table (only t) Γ W s p = term_table t Γ W s p ++ node 9 0 0 0
  items_table (also t ts) Γ W s p =
      let a : List ℕ = term_table t Γ W s p in
      a ++ (items_table ts Γ W s (p + length a) ++ node 10 (p + length a) 0 0)

  pub pairs_table : Pairs → Scope → Slots → (s p : ℕ) → List ℕ
  pairs_table (only_pair t u) Γ W s p =
      let a : List ℕ = term_table t Γ W s p in
      a ++ (term_table u Γ W s (p + length a) ++ node 11 (p + length a) (element_size Γ u) 0)
  pairs_table (also_pair t u ts) Γ W s p =
      let a : List ℕ = term_table t Γ W s p in
      let b : List ℕ = term_table u Γ W s (p + length a) in
      a ++ (b ++ (pairs_table ts Γ W s (p + length a + length b) ++ node 12 (p + length a) (element_size Γ u) (p + length a + length b)))

  pub pred_table : Pred → Scope → Slots → (s p : ℕ) → List ℕ
  pred_table truth Γ W s p = node 16 0 1 0
  pred_table falsity Γ W s p = node 16 0 0 0
  pred_table (negation q) Γ W s p = pred_table q Γ W s p ++ node 17 0 0 0
  pred_table (paren q) Γ W s p = pred_table q Γ W s p
  pred_table (connected o q r) Γ W s p =
      let a : List ℕ = pred_table q Γ W s p in
      a ++ (pred_table r Γ W s (p + length a) ++ node 18 (p + length a) (code_of (connective_kind o)) 0)
  pred_table (compared o t u) Γ W s p =
      let a : List ℕ = term_table t Γ W s p in
      a ++ (term_table u Γ W s (p + length a) ++ node 19 (p + length a) (code_of (comparison_kind o)) 0)
  pred_table (member o t u) Γ W s p =
      let a : List ℕ = term_table t Γ W s p in
      a ++ (term_table u Γ W s (p + length a) ++ node 20 (p + length a) (code_of (membership_kind o)) 0)
  pred_table (within o t r) Γ W s p = term_table t Γ W s p ++ (domain_table (range r) Γ ++ node 21 0 (code_of (membership_kind o)) 0)
  pred_table (related o t u v) Γ W s p =
      let a : List ℕ = term_table t Γ W s p in
      let b : List ℕ = term_table u Γ W s (p + length a) in
      a ++ (b ++ (term_table v Γ W s (p + length a + length b) ++ node (related_shape o) (p + length a) (element_size Γ u) (p + length a + length b)))
  pred_table (quantified q x t r) Γ W s p =
      pred_table r (binding Γ x (domain_carrier Γ t)) ((plain x, s) ∷ W) (next_slot s) p
      ++ (domain_table t Γ ++ node 24 0 s (code_of (quantifier_kind q)))
