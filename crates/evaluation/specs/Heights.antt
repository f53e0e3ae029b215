-- How deep the nodes of a tree are: brackets leave none. A bound for the evaluation by numbers. Nothing here need be believed.
use Rattle.std.specs.Prelude.{ℕ, suc, max}
use Rattle.table_places.specs.FormTree.{Term, number, name, group, prefix, binary, divided, listed, pairs, such, empty_set, empty_pairs, Items, only, also, Pairs, only_pair, also_pair}
use Rattle.table_places.specs.FormTree.{Pred, truth, falsity, negation, paren, quantified, connected, compared, member, within, related}

unfoldable mutual
  pub height_term : Term → ℕ
  height_term (number n) = 1
  height_term (name x) = 1
  height_term (group t) = height_term t
  height_term (prefix o t) = suc (height_term t)
  height_term (binary o t u) = suc (max (height_term t) (height_term u))
  height_term (divided o t e) = suc (height_term t)
  height_term (listed ts) = suc (height_items ts)
  height_term (pairs ts) = suc (height_pairs ts)
  height_term (such x g p) = suc (height_pred p)
  height_term (empty_set g) = 1
  height_term (empty_pairs g h) = 1

  pub height_items : Items → ℕ
  height_items (only t) = suc (height_term t)
  height_items (also t ts) = suc (max (height_term t) (height_items ts))

  pub height_pairs : Pairs → ℕ
  height_pairs (only_pair t u) = suc (max (height_term t) (height_term u))
  height_pairs (also_pair t u ts) = suc (max (max (height_term t) (height_term u)) (height_pairs ts))

  pub height_pred : Pred → ℕ
  height_pred truth = 1
  height_pred falsity = 1
  height_pred (negation p) = suc (height_pred p)
  height_pred (paren p) = height_pred p
  height_pred (quantified q x t p) = suc (height_pred p)
  height_pred (connected o p q) = suc (max (height_pred p) (height_pred q))
  height_pred (compared o t u) = suc (max (height_term t) (height_term u))
  height_pred (member o t u) = suc (max (height_term t) (height_term u))
  height_pred (within o t r) = suc (height_term t)
  height_pred (related o t u v) = suc (max (max (height_term t) (height_term u)) (height_term v))
