-- The names that a term or a predicate mentions. "a primed variable that isn't mentioned is free": what holds depends on the values of the names mentioned, and on
-- no others (proofs/Frame). Nothing here need be believed.
use Rattle.std.specs.Prelude.{not, List, [], ◌∷◌, ◌++◌}
use Rattle.static_rules.specs.LexicalLists.{filter}
use Rattle.static_rules.specs.LexicalSymbols.{Name}
use Rattle.static_rules.specs.FormTree.{Letters}
use Rattle.static_rules.specs.FormTree.{Term, number, name, group, prefix, binary, divided, listed, pairs, such, empty_set, empty_pairs, Items, only, also, Pairs, only_pair, also_pair}
use Rattle.static_rules.specs.FormTree.{Pred, truth, falsity, negation, paren, quantified, connected, compared, member, within, related}
use Rattle.static_rules.specs.Carriers.{same_name, plain}

-- the names that stand free in a tree, in the order of the text: a binder takes its own from those of its predicate
abbrev pub others : Letters → List Name → List Name
others x ys = filter (λ (y : Name). not (same_name (plain x) y)) ys

unfoldable mutual
  pub term_names : Term → List Name
  term_names (number n) = []
  term_names (name x) = x ∷ []
  term_names (group t) = term_names t
  term_names (prefix o t) = term_names t
  term_names (binary o t u) = term_names t ++ term_names u
  term_names (divided o t e) = term_names t
  term_names (listed ts) = items_names ts
  term_names (pairs ts) = pairs_names ts
  term_names (such x g p) = others x (pred_names p)
  term_names (empty_set g) = []
  term_names (empty_pairs g h) = []

  pub items_names : Items → List Name
  items_names (only t) = term_names t
  items_names (also t ts) = term_names t ++ items_names ts

  pub pairs_names : Pairs → List Name
  pairs_names (only_pair t u) = term_names t ++ term_names u
  pairs_names (also_pair t u ts) = term_names t ++ (term_names u ++ pairs_names ts)

  pub pred_names : Pred → List Name
  pred_names truth = []
  pred_names falsity = []
  pred_names (negation p) = pred_names p
  pred_names (paren p) = pred_names p
  pred_names (quantified q x t p) = others x (pred_names p)
  pred_names (connected o p q) = pred_names p ++ pred_names q
  pred_names (compared o t u) = term_names t ++ term_names u
  pred_names (member o t u) = term_names t ++ term_names u
  pred_names (within o t r) = term_names t
  pred_names (related o t u v) = term_names t ++ (term_names u ++ term_names v)
