-- How many symbols a tree has: the length of what it is written with, and how far the judgement of it goes.
use mathlib.Core.Path.{◌≡◌, refl}
use mathlib.Core.List.{List, [], ◌∷◌}
use mathlib.Core.Option.{Option, none, some}
use Prim.Native.Nat.{ℕ, suc, ◌+◌}
use native.Mathlib.Omega.{arith}
use lib.ListN.{length}
use Rattle.lexical.specs.Kinds as kind
use Rattle.form.specs.Tree.{Range, Domain, given_set, range}
use Rattle.form.specs.Tree.{Term, number, name, group, prefix, binary, divided, listed, pairs, such, empty_set, empty_pairs, Items, only, also, Pairs, only_pair, also_pair}
use Rattle.form.specs.Tree.{Pred, truth, falsity, negation, paren, quantified, connected, compared, member, within, related}
use Rattle.form.specs.Written.{Written, bare, write_end, write_range, write_domain, connective, right_depth, write_term, write_items, write_pairs, write_pred}
use Rattle.form.specs.Written.{operator_kind, division_kind, comparison_kind, membership_kind}
use Rattle.form.specs.Codes.{end_width, term_width, pred_width, domain_width}
use Rattle.form.proofs.Lengths.{end-length, range_length}
use Rattle.declared_names.specs.StaticRulesTypes.{Ty}
use Rattle.declared_names.specs.StaticRulesScope.{Scope, type_of_name, binding}
use Rattle.declared_names.specs.StaticRulesNames.{of_name, domain_carrier, domain_length}
use Rattle.declared_names.specs.StaticRulesNames.{judge_term, judge_items, judge_pairs, judge_pred}

abbrev wide_range : Range → ℕ
wide_range r = end_width r.lower + 1 + end_width r.upper

abbrev wide_domain : Domain → ℕ
wide_domain (given_set g) = 1
wide_domain (range r) = wide_range r

unfoldable mutual
  pub wide_term : Term → ℕ
  wide_term (number n) = 1
  wide_term (name x) = 1
  wide_term (group t) = wide_term t + 2
  wide_term (prefix o t) = wide_term t + 1
  wide_term (binary o t u) = wide_term t + 1 + wide_term u
  wide_term (divided o t e) = wide_term t + 1 + end_width e
  wide_term (listed ts) = wide_items ts + 2
  wide_term (pairs ts) = wide_pairs ts + 2
  wide_term (such x g p) = wide_pred p + 6
  wide_term (empty_set g) = 2
  wide_term (empty_pairs g h) = 3

  pub wide_items : Items → ℕ
  wide_items (only t) = wide_term t
  wide_items (also t ts) = wide_term t + 1 + wide_items ts

  pub wide_pairs : Pairs → ℕ
  wide_pairs (only_pair t u) = wide_term t + 1 + wide_term u
  wide_pairs (also_pair t u ts) = wide_term t + 1 + wide_term u + 1 + wide_pairs ts

  pub wide_pred : Pred → ℕ
  wide_pred truth = 1
  wide_pred falsity = 1
  wide_pred (negation p) = wide_pred p + 1
  wide_pred (paren p) = wide_pred p + 2
  wide_pred (quantified q x t p) = wide_pred p + 6 + wide_domain t
  wide_pred (connected o p q) = wide_pred p + 1 + wide_pred q
  wide_pred (compared o t u) = wide_term t + 1 + wide_term u
  wide_pred (member o t u) = wide_term t + 1 + wide_term u
  wide_pred (within o t r) = wide_term t + 1 + wide_range r
  wide_pred (related o t u v) = wide_term t + 1 + wide_term u + 1 + wide_term v

-- ---- what is written ----

domain-length : (t : Domain) (w : List Written) → length (write_domain t w) ≡ wide_domain t + length w
domain-length (given_set g) w = omega arith
domain-length (range r) w = range_length r w

mutual
  unfolding write_term wide_term

  term-length : (t : Term) (d k : ℕ) (w : List Written) → length (write_term t d k w) ≡ wide_term t + length w
  term-length (number n) d k w = omega arith
  term-length (name x) d k w = omega arith
  term-length (group t) d k w = omega (arith, term-length t (suc d) k (bare kind.close_bracket ∷ w))
  term-length (prefix o t) d k w = omega (arith, term-length t (suc d) k w)
  term-length (binary o t u) d k w = omega (arith, term-length t d k (bare (operator_kind o) ∷ write_term u d k w), term-length u d k w)
  term-length (divided o t e) d k w = omega (arith, term-length t d k (bare (division_kind o) ∷ write_end e w), end-length e w)
  term-length (listed ts) d k w = omega (arith, items-length ts (suc d) k (bare kind.close_brace ∷ w))
  term-length (pairs ts) d k w = omega (arith, pairs-length ts (suc d) k (bare kind.close_brace ∷ w))
  term-length (such x g p) d k w = omega (arith, pred-length p (suc d) (suc k) (bare kind.close_brace ∷ w))
  term-length (empty_set g) d k w = omega arith
  term-length (empty_pairs g h) d k w = omega arith

  items-length : (t : Items) (d k : ℕ) (w : List Written) → length (write_items t d k w) ≡ wide_items t + length w
  items-length (only t) d k w = term-length t d k w
  items-length (also t ts) d k w = omega (arith, term-length t d k (bare kind.comma ∷ write_items ts d k w), items-length ts d k w)

  pairs-length : (t : Pairs) (d k : ℕ) (w : List Written) → length (write_pairs t d k w) ≡ wide_pairs t + length w
  pairs-length (only_pair t u) d k w = omega (arith, term-length t d k (bare kind.maplet ∷ write_term u d k w), term-length u d k w)
  pairs-length (also_pair t u ts) d k w =
      omega (arith, term-length t d k (bare kind.maplet ∷ write_term u d k (bare kind.comma ∷ write_pairs ts d k w)), term-length u d k (bare kind.comma ∷ write_pairs ts d k w), pairs-length ts d k w)

  pub pred-length : (p : Pred) (d k : ℕ) (w : List Written) → length (write_pred p d k w) ≡ wide_pred p + length w
  pred-length truth d k w = omega arith
  pred-length falsity d k w = omega arith
  pred-length (negation p) d k w = omega (arith, pred-length p (suc d) k w)
  pred-length (paren p) d k w = omega (arith, pred-length p (suc d) k (bare kind.close_paren ∷ w))
  pred-length (quantified q x t p) d k w =
      omega (arith, domain-length t (bare kind.spot ∷ write_pred p (suc d) (suc k) (bare kind.close_paren ∷ w)), pred-length p (suc d) (suc k) (bare kind.close_paren ∷ w))
  pred-length (connected o p q) d k w = omega (arith, pred-length p d k (connective o d ∷ write_pred q (right_depth o d) k w), pred-length q (right_depth o d) k w)
  pred-length (compared o t u) d k w = omega (arith, term-length t d k (bare (comparison_kind o) ∷ write_term u d k w), term-length u d k w)
  pred-length (member o t u) d k w = omega (arith, term-length t d k (bare (membership_kind o) ∷ write_term u d k w), term-length u d k w)
  pred-length (within o t r) d k w = omega (arith, term-length t d k (bare (membership_kind o) ∷ write_range r w), range_length r w)
  pred-length (related o t u v) d k w =
      omega (arith, term-length t d k (bare kind.maplet ∷ write_term u d k (bare (membership_kind o) ∷ write_term v d k w)), term-length u d k (bare (membership_kind o) ∷ write_term v d k w), term-length v d k w)

pub term-width : (t : Term) → term_width t ≡ wide_term t
unfolding term_width
term-width t = omega (arith, term-length t 0 0 [])

pub pred-width : (p : Pred) → pred_width p ≡ wide_pred p
unfolding pred_width
pred-width p = omega (arith, pred-length p 0 0 [])

wide_domain_lem : (t : Domain) → wide_domain t ≡ domain_length t
wide_domain_lem (given_set g) = refl
wide_domain_lem (range r) = refl

pub domain-width : (t : Domain) → domain_width t ≡ domain_length t
unfolding domain_width
domain-width t = omega (arith, domain-length t [], wide_domain_lem t)

-- ---- what is judged ----

-- the symbol behind a tree
name-ends : (o : Option Ty) (i : ℕ) → (of_name o i).next ≡ i + 1
name-ends none i = omega arith
name-ends (some t) i = omega arith

mutual
  unfolding judge_term wide_term

  pub term-ends : (t : Term) (Γ : Scope) (i : ℕ) → (judge_term t Γ i).next ≡ i + wide_term t
  term-ends (number n) Γ i = omega arith
  term-ends (name x) Γ i = name-ends (type_of_name Γ x) i
  term-ends (group t) Γ i = let a = term-ends t Γ (suc i) in omega (arith, a)
  term-ends (prefix o t) Γ i = let a = term-ends t Γ (suc i) in omega (arith, a)
  term-ends (binary o t u) Γ i =
      let a = term-ends t Γ i in let b = term-ends u Γ (suc (judge_term t Γ i).next) in
      omega (arith, a, b)
  term-ends (divided o t e) Γ i =
      let a = term-ends t Γ i in
      omega (arith, a)
  term-ends (listed ts) Γ i = let l = items-ends ts Γ (suc i) in omega (arith, l)
  term-ends (pairs ts) Γ i =
      let l = pairs-ends ts Γ (suc i) in omega (arith, l)
  term-ends (such x g p) Γ i =
      let b = pred-ends p (binding Γ x (domain_carrier Γ (given_set g))) (i + 5) in
      omega (arith, b)
  term-ends (empty_set g) Γ i = refl
  term-ends (empty_pairs g h) Γ i = refl

  pub items-ends : (ts : Items) (Γ : Scope) (i : ℕ) → (judge_items ts Γ i).next ≡ i + wide_items ts
  items-ends (only t) Γ i = let a = term-ends t Γ i in a
  items-ends (also t ts) Γ i =
      let a = term-ends t Γ i in let l = items-ends ts Γ (suc (judge_term t Γ i).next) in
      omega (arith, a, l)

  pub pairs-ends : (ts : Pairs) (Γ : Scope) (i : ℕ) → (judge_pairs ts Γ i).next ≡ i + wide_pairs ts
  pairs-ends (only_pair t u) Γ i =
      let a = term-ends t Γ i in let b = term-ends u Γ (suc (judge_term t Γ i).next) in
      omega (arith, a, b)
  pairs-ends (also_pair t u ts) Γ i =
      let a = term-ends t Γ i in let b = term-ends u Γ (suc (judge_term t Γ i).next) in
      let l = pairs-ends ts Γ (suc (judge_term u Γ (suc (judge_term t Γ i).next)).next) in
      omega (arith, a, b, l)

  pub pred-ends : (p : Pred) (Γ : Scope) (i : ℕ) → (judge_pred p Γ i).next ≡ i + wide_pred p
  pred-ends truth Γ i = omega arith
  pred-ends falsity Γ i = omega arith
  pred-ends (negation p) Γ i = let a = pred-ends p Γ (suc i) in omega (arith, a)
  pred-ends (paren p) Γ i = let a = pred-ends p Γ (suc i) in omega (arith, a)
  pred-ends (quantified q x t p) Γ i =
      let b = pred-ends p (binding Γ x (domain_carrier Γ t)) (suc (i + 4 + domain_length t)) in
      omega (arith, b, wide_domain_lem t)
  pred-ends (connected o p q) Γ i =
      let a = pred-ends p Γ i in let b = pred-ends q Γ (suc (judge_pred p Γ i).next) in
      omega (arith, a, b)
  pred-ends (compared o t u) Γ i =
      let a = term-ends t Γ i in let b = term-ends u Γ (suc (judge_term t Γ i).next) in
      omega (arith, a, b)
  pred-ends (member o t u) Γ i =
      let a = term-ends t Γ i in let b = term-ends u Γ (suc (judge_term t Γ i).next) in
      omega (arith, a, b)
  pred-ends (within o t r) Γ i =
      let a = term-ends t Γ i in
      omega (arith, a)
  pred-ends (related o t u v) Γ i =
      let a = term-ends t Γ i in let b = term-ends u Γ (suc (judge_term t Γ i).next) in
      let c = term-ends v Γ (suc (judge_term u Γ (suc (judge_term t Γ i).next)).next) in
      omega (arith, a, b, c)
