-- How far the sizes of a tree go: as many symbols as it has.
-- Form 8: the laws of judgements (names' TypesAgreeWidths) go the same way over another definition; one law for both would be handed, from each side, an equation for each of the
-- 25 clauses that says where the symbol behind it stands, and so would be longer than the two inductions, which find these by computing.
use mathlib.Core.Path.{◌≡◌}
use mathlib.Core.List.{◌∷◌}
use Prim.Native.Nat.{ℕ, suc, ◌+◌}
use native.Mathlib.Omega.{arith}
use Rattle.form.specs.Tree.{Letters, Quantifier, Domain, given_set, range}
use Rattle.form.specs.Tree.{Term, number, name, group, prefix, binary, divided, listed, pairs, such, empty_set, empty_pairs, Items, only, also, Pairs, only_pair, also_pair}
use Rattle.form.specs.Tree.{Pred, truth, falsity, negation, paren, quantified, connected, compared, member, within, related}
use Rattle.form.specs.Codes.{term_width, pred_width}
use Rattle.static_rules.specs.Carriers.{plain}
use Rattle.static_rules.specs.Names.{domain_length}
use Rattle.static_rules.specs.Limits.{Sizes, domain_size, size_term, size_items, size_pairs, size_pred}
use Rattle.names.proofs.TypesAgreeWidths.{wide_term, wide_items, wide_pairs, wide_pred, term-width, pred-width}

-- a domain has as many symbols in the width of a quantified predicate as its length says
quantified-next : (q : Quantifier) (x : Letters) (t : Domain) (p : Pred) (i n : ℕ) → n ≡ i + 5 + domain_length t + wide_pred p → suc n ≡ i + wide_pred (quantified q x t p)
unfolding wide_pred
quantified-next q x (given_set g) p i n e = omega arith
quantified-next q x (range r) p i n e = omega arith

mutual
  unfolding size_term wide_term

  pub term-ends : (t : Term) (Γ : Sizes) (i : ℕ) → (size_term t Γ i).next ≡ i + wide_term t
  term-ends (number n) Γ i = omega arith
  term-ends (name x) Γ i = omega arith
  term-ends (group t) Γ i = let a = term-ends t Γ (suc i) in omega (arith, a)
  term-ends (prefix o t) Γ i = let a = term-ends t Γ (suc i) in omega (arith, a)
  term-ends (binary o t u) Γ i =
      let a = term-ends t Γ i in let b = term-ends u Γ (suc (size_term t Γ i).next) in
      omega (arith, a, b)
  term-ends (divided o t e) Γ i = let a = term-ends t Γ i in omega (arith, a)
  term-ends (listed ts) Γ i = let a = items-ends ts Γ (suc i) in omega (arith, a)
  term-ends (pairs ts) Γ i = let a = pairs-ends ts Γ (suc i) in omega (arith, a)
  term-ends (such x g p) Γ i = let a = pred-ends p ((plain x, 0) ∷ Γ) (i + 5) in omega (arith, a)
  term-ends (empty_set g) Γ i = omega arith
  term-ends (empty_pairs g h) Γ i = omega arith

  pub items-ends : (ts : Items) (Γ : Sizes) (i : ℕ) → (size_items ts Γ i).next ≡ i + wide_items ts
  items-ends (only t) Γ i = let a = term-ends t Γ i in a
  items-ends (also t ts) Γ i =
      let a = term-ends t Γ i in let b = items-ends ts Γ (suc (size_term t Γ i).next) in
      omega (arith, a, b)

  pub pairs-ends : (ts : Pairs) (Γ : Sizes) (i : ℕ) → (size_pairs ts Γ i).next ≡ i + wide_pairs ts
  pairs-ends (only_pair t u) Γ i =
      let a = term-ends t Γ i in let b = term-ends u Γ (suc (size_term t Γ i).next) in
      omega (arith, a, b)
  pairs-ends (also_pair t u ts) Γ i =
      let a = term-ends t Γ i in let b = term-ends u Γ (suc (size_term t Γ i).next) in
      let c = pairs-ends ts Γ (suc (size_term u Γ (suc (size_term t Γ i).next)).next) in
      omega (arith, a, b, c)

  pub pred-ends : (p : Pred) (Γ : Sizes) (i : ℕ) → (size_pred p Γ i).next ≡ i + wide_pred p
  pred-ends truth Γ i = omega arith
  pred-ends falsity Γ i = omega arith
  pred-ends (negation p) Γ i = let a = pred-ends p Γ (suc i) in omega (arith, a)
  pred-ends (paren p) Γ i = let a = pred-ends p Γ (suc i) in omega (arith, a)
  pred-ends (quantified q x t p) Γ i =
      let a = pred-ends p ((plain x, domain_size t) ∷ Γ) (i + 5 + domain_length t) in
      quantified-next q x t p i _ a
  pred-ends (connected o p q) Γ i =
      let a = pred-ends p Γ i in let b = pred-ends q Γ (suc (size_pred p Γ i).next) in
      omega (arith, a, b)
  pred-ends (compared o t u) Γ i =
      let a = term-ends t Γ i in let b = term-ends u Γ (suc (size_term t Γ i).next) in
      omega (arith, a, b)
  pred-ends (member o t u) Γ i =
      let a = term-ends t Γ i in let b = term-ends u Γ (suc (size_term t Γ i).next) in
      omega (arith, a, b)
  pred-ends (within o t r) Γ i = let a = term-ends t Γ i in omega (arith, a)
  pred-ends (related o t u v) Γ i =
      let a = term-ends t Γ i in let b = term-ends u Γ (suc (size_term t Γ i).next) in
      let c = term-ends v Γ (suc (size_term u Γ (suc (size_term t Γ i).next)).next) in
      omega (arith, a, b, c)

-- the symbol behind a tree
pub term-next : (t : Term) (Γ : Sizes) (i : ℕ) → (size_term t Γ i).next ≡ i + term_width t
term-next t Γ i = omega (arith, term-ends t Γ i, term-width t)

pub pred-next : (p : Pred) (Γ : Sizes) (i : ℕ) → (size_pred p Γ i).next ≡ i + pred_width p
pred-next p Γ i = omega (arith, pred-ends p Γ i, pred-width p)
