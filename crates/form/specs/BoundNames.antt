-- Document 01, number 5, "a fourth bound name in reach": trees in which at most three bound names are in reach anywhere. The pass for form refuses all others.
use Rattle.std.specs.Prelude.{List, [], ◌∷◌, ℕ, suc, ◌≤◌}
use Rattle.form.specs.Tree.{Term, number, name, group, prefix, binary, divided, listed, pairs, such, empty_set, empty_pairs, Items, only, also, Pairs, only_pair, also_pair}
use Rattle.form.specs.Tree.{Pred, truth, falsity, negation, paren, quantified, connected, compared, member, within, related, Operation, Dossier}

-- a term or predicate that stands in the reach of k bound names binds no fourth one
unfoldable mutual
  pub TermBindsFew : Term → (k : ℕ) → Type 0
  TermBindsFew (number n) k = Unit {0}
  TermBindsFew (name x) k = Unit {0}
  TermBindsFew (group t) k = TermBindsFew t k
  TermBindsFew (prefix o t) k = TermBindsFew t k
  TermBindsFew (binary o t u) k = TermBindsFew t k × TermBindsFew u k
  TermBindsFew (divided o t e) k = TermBindsFew t k
  TermBindsFew (listed ts) k = ItemsBindFew ts k
  TermBindsFew (pairs ts) k = PairsBindFew ts k
  TermBindsFew (such x g p) k = (suc k ≤ 3) × PredBindsFew p (suc k)
  TermBindsFew (empty_set g) k = Unit {0}
  TermBindsFew (empty_pairs g h) k = Unit {0}

  pub ItemsBindFew : Items → (k : ℕ) → Type 0
  ItemsBindFew (only t) k = TermBindsFew t k
  ItemsBindFew (also t ts) k = TermBindsFew t k × ItemsBindFew ts k

  pub PairsBindFew : Pairs → (k : ℕ) → Type 0
  PairsBindFew (only_pair t u) k = TermBindsFew t k × TermBindsFew u k
  PairsBindFew (also_pair t u ts) k = TermBindsFew t k × TermBindsFew u k × PairsBindFew ts k

  pub PredBindsFew : Pred → (k : ℕ) → Type 0
  PredBindsFew truth k = Unit {0}
  PredBindsFew falsity k = Unit {0}
  PredBindsFew (negation p) k = PredBindsFew p k
  PredBindsFew (paren p) k = PredBindsFew p k
  PredBindsFew (quantified q x t p) k = (suc k ≤ 3) × PredBindsFew p (suc k)
  PredBindsFew (connected o p q) k = PredBindsFew p k × PredBindsFew q k
  PredBindsFew (compared o t u) k = TermBindsFew t k × TermBindsFew u k
  PredBindsFew (member o t u) k = TermBindsFew t k × TermBindsFew u k
  PredBindsFew (within o t r) k = TermBindsFew t k
  PredBindsFew (related o t u v) k = TermBindsFew t k × TermBindsFew u k × TermBindsFew v k

unfoldable pub OperationsBindFew : List Operation → Type 0
OperationsBindFew [] = Unit {0}
OperationsBindFew (o ∷ os) = PredBindsFew o.abstractly 0 × PredBindsFew o.concretely 0 × OperationsBindFew os

-- every predicate of a dossier stands in the reach of none
pub record BindsFew (d : Dossier) : Type 0 where
  pub abstract : PredBindsFew d.abstract.predicate 0
  pub concrete : PredBindsFew d.concrete.predicate 0
  pub ainit : PredBindsFew d.ainit 0
  pub cinit : PredBindsFew d.cinit 0
  pub retrieve : PredBindsFew d.retrieve 0
  pub operations : OperationsBindFew d.operations
