-- Sizes by numbers: the size of a term and the least fault of a tree, with the size of each name in a table.
-- That these are the sizes and faults of static_rules/specs/Limits is limits/proofs/SizesAgree. Nothing here need be believed.
use Rattle.std.specs.Prelude.{cond, List, ℕ, suc, ◌+◌, ◌-◌, ◌*◌, max, leb, ltb, set}
use Rattle.lexical.specs.Symbols.{no_ending}
use Rattle.form.specs.Tree.{Prefix, negate, size, dom, ran, Operator, plus, minus, union, without, times, inter, Division, quotient, remainder, Domain, given_set, range}
use Rattle.form.specs.Tree.{Term, number, name, group, prefix, binary, divided, listed, pairs, such, empty_set, empty_pairs, Items, only, also, Pairs, only_pair, also_pair}
use Rattle.form.specs.Tree.{Pred, truth, falsity, negation, paren, quantified, connected, compared, member, within, related}
use Rattle.form.specs.Codes.{Numbering, name_number, number_of_name, end_number, term_width, pred_width, domain_width}
use Rattle.type_rules.specs.TypesByNumber.{entry, key, lesser, judged_key}

-- the size of each name, by its number
abbrev pub Bounds : Type 0
Bounds = List ℕ

unfoldable pub prefix_bound : Prefix → ℕ → ℕ
prefix_bound negate a = a
prefix_bound size a = 16
prefix_bound dom a = 0
prefix_bound ran a = 0

unfoldable pub operator_bound : Operator → ℕ → ℕ → ℕ
operator_bound plus a b = a + b
operator_bound minus a b = a + b
operator_bound times a b = a * b
operator_bound union a b = 0
operator_bound without a b = 0
operator_bound inter a b = 0

unfoldable pub division_bound : Division → ℕ → ℕ → ℕ
division_bound quotient a n = a
division_bound remainder a n = n

-- the absolute value of the end of a range, by its number with 1,000 added
unfoldable pub absolute : ℕ → ℕ
absolute a = cond (ltb a 1000) (1000 - a) (a - 1000)

unfoldable pub domain_bound : Domain → ℕ
domain_bound (given_set g) = 0
domain_bound (range r) = max (absolute (end_number r.lower)) (absolute (end_number r.upper))

unfoldable pub term_bound : Term → Bounds → Numbering → ℕ
term_bound (number n) S ρ = n
term_bound (name x) S ρ = entry S (name_number ρ x)
term_bound (group t) S ρ = term_bound t S ρ
term_bound (prefix o t) S ρ = prefix_bound o (term_bound t S ρ)
term_bound (binary o t u) S ρ = operator_bound o (term_bound t S ρ) (term_bound u S ρ)
term_bound (divided o t e) S ρ = division_bound o (term_bound t S ρ) e.magnitude
term_bound (listed ts) S ρ = 0
term_bound (pairs ts) S ρ = 0
term_bound (such x g p) S ρ = 0
term_bound (empty_set g) S ρ = 0
term_bound (empty_pairs g h) S ρ = 0

-- the least fault of the tree that begins at the symbol i
unfoldable mutual
  pub term_over : Term → Bounds → Numbering → (i : ℕ) → ℕ
  term_over (number n) S ρ i = 0
  term_over (name x) S ρ i = 0
  term_over (group t) S ρ i = term_over t S ρ (suc i)
  term_over (prefix o t) S ρ i = term_over t S ρ (suc i)
  term_over (binary o t u) S ρ i =
      judged_key (leb (operator_bound o (term_bound t S ρ) (term_bound u S ρ)) 2147483647) (key (i + term_width t) 13)
      (lesser (term_over t S ρ i) (term_over u S ρ (suc (i + term_width t))))
  term_over (divided o t e) S ρ i = term_over t S ρ i
  term_over (listed ts) S ρ i = items_over ts S ρ (suc i)
  term_over (pairs ts) S ρ i = pairs_over ts S ρ (suc i)
  term_over (such x g p) S ρ i = pred_over p (set S (number_of_name ρ x no_ending) 0) ρ (i + 5)
  term_over (empty_set g) S ρ i = 0
  term_over (empty_pairs g h) S ρ i = 0

  pub items_over : Items → Bounds → Numbering → (i : ℕ) → ℕ
  items_over (only t) S ρ i = term_over t S ρ i
  items_over (also t ts) S ρ i = lesser (term_over t S ρ i) (items_over ts S ρ (suc (i + term_width t)))

  pub pairs_over : Pairs → Bounds → Numbering → (i : ℕ) → ℕ
  pairs_over (only_pair t u) S ρ i = lesser (term_over t S ρ i) (term_over u S ρ (suc (i + term_width t)))
  pairs_over (also_pair t u ts) S ρ i =
      lesser (lesser (term_over t S ρ i) (term_over u S ρ (suc (i + term_width t)))) (pairs_over ts S ρ (suc (suc (i + term_width t) + term_width u)))

  pub pred_over : Pred → Bounds → Numbering → (i : ℕ) → ℕ
  pred_over truth S ρ i = 0
  pred_over falsity S ρ i = 0
  pred_over (negation p) S ρ i = pred_over p S ρ (suc i)
  pred_over (paren p) S ρ i = pred_over p S ρ (suc i)
  pred_over (connected o p q) S ρ i = lesser (pred_over p S ρ i) (pred_over q S ρ (suc (i + pred_width p)))
  pred_over (compared o t u) S ρ i = lesser (term_over t S ρ i) (term_over u S ρ (suc (i + term_width t)))
  pred_over (member o t u) S ρ i = lesser (term_over t S ρ i) (term_over u S ρ (suc (i + term_width t)))
  pred_over (within o t r) S ρ i = term_over t S ρ i
  pred_over (related o t u v) S ρ i =
      lesser (lesser (term_over t S ρ i) (term_over u S ρ (suc (i + term_width t)))) (term_over v S ρ (suc (suc (i + term_width t) + term_width u)))
  pred_over (quantified q x t p) S ρ i = pred_over p (set S (number_of_name ρ x no_ending) (domain_bound t)) ρ (i + 5 + domain_width t)
