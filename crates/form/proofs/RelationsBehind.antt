-- What stands behind a tree keeps its relation to what stands in its stead, where the tree is written in front of both.
use mathlib.Core.Bool.{Bool, true, false}
use mathlib.Core.List.{List, [], ◌∷◌}
use Prim.Native.Nat.{ℕ, suc}
use Rattle.lexical.specs.Kinds.{Kind}
use Rattle.form.specs.Tree.{Letters, End, Range, Domain, given_set, range, and, or, implies, iff}
use Rattle.form.specs.Tree.{Term, number, name, group, prefix, binary, divided, listed, pairs, such, empty_set, empty_pairs, Items, only, also, Pairs, only_pair, also_pair}
use Rattle.form.specs.Tree.{Pred, truth, falsity, negation, paren, quantified, connected, compared, member, within, related}
use Rattle.form.specs.Tree.{TypeForm, given_type, power_type, range_type, arrow_type, Declaration, Parameter, Given, State, Operation, Dossier}
use Rattle.form.specs.Written.{Mark, Written, minus_of, write_end, write_range, write_domain, write_term, write_items, write_pairs, write_pred, write_type, write_entries}
use Rattle.form.specs.Written.{write_elements}
use Rattle.form.specs.Written.{write_givens, write_declarations, write_where, write_state, write_parameters, write_operations, write_contents}

module _ (R : List Written → List Written → Type 0) (step : (x y : Written) (u v : List Written) → R u v → R (x ∷ u) (y ∷ v)) where
  one : {x y : Written} {u v : List Written} → R u v → R (x ∷ u) (y ∷ v)
  one {x} {y} {u} {v} h = step x y u v h

  minus : (b : Bool) (u v : List Written) → R u v → R (minus_of b u) (minus_of b v)
  minus true u v h = one h
  minus false u v h = h

  end : (e : End) (u v : List Written) → R u v → R (write_end e u) (write_end e v)
  end e u v h = minus e.negative _ _ (one h)

  ranged : (r : Range) (u v : List Written) → R u v → R (write_range r u) (write_range r v)
  ranged r u v h = end r.lower _ _ (one (end r.upper u v h))

  domain : (t : Domain) (u v : List Written) → R u v → R (write_domain t u) (write_domain t v)
  domain (given_set g) u v h = one h
  domain (range r) u v h = ranged r u v h

  mutual
    unfolding write_term

    term : (t : Term) (d k d' k' : ℕ) (u v : List Written) → R u v → R (write_term t d k u) (write_term t d' k' v)
    term (number n) d k d' k' u v h = one h
    term (name x) d k d' k' u v h = one h
    term (group t) d k d' k' u v h = one (term t _ _ _ _ _ _ (one h))
    term (prefix o t) d k d' k' u v h = one (term t _ _ _ _ _ _ h)
    term (binary o t y) d k d' k' u v h = term t _ _ _ _ _ _ (one (term y _ _ _ _ _ _ h))
    term (divided o t e) d k d' k' u v h = term t _ _ _ _ _ _ (one (end e u v h))
    term (listed ts) d k d' k' u v h = one (items ts _ _ _ _ _ _ (one h))
    term (pairs ts) d k d' k' u v h = one (pairing ts _ _ _ _ _ _ (one h))
    term (such x g p) d k d' k' u v h = one (one (one (one (one (pred p _ _ _ _ _ _ (one h))))))
    term (empty_set g) d k d' k' u v h = one (one h)
    term (empty_pairs g f) d k d' k' u v h = one (one (one h))

    items : (t : Items) (d k d' k' : ℕ) (u v : List Written) → R u v → R (write_items t d k u) (write_items t d' k' v)
    items (only t) d k d' k' u v h = term t _ _ _ _ _ _ h
    items (also t ts) d k d' k' u v h = term t _ _ _ _ _ _ (one (items ts _ _ _ _ _ _ h))

    pairing : (t : Pairs) (d k d' k' : ℕ) (u v : List Written) → R u v → R (write_pairs t d k u) (write_pairs t d' k' v)
    pairing (only_pair t y) d k d' k' u v h = term t _ _ _ _ _ _ (one (term y _ _ _ _ _ _ h))
    pairing (also_pair t y ts) d k d' k' u v h = term t _ _ _ _ _ _ (one (term y _ _ _ _ _ _ (one (pairing ts _ _ _ _ _ _ h))))

    pred : (p : Pred) (d k d' k' : ℕ) (u v : List Written) → R u v → R (write_pred p d k u) (write_pred p d' k' v)
    pred truth d k d' k' u v h = one h
    pred falsity d k d' k' u v h = one h
    pred (negation p) d k d' k' u v h = one (pred p _ _ _ _ _ _ h)
    pred (paren p) d k d' k' u v h = one (pred p _ _ _ _ _ _ (one h))
    pred (quantified q x t p) d k d' k' u v h = one (one (one (one (domain t _ _ (one (pred p _ _ _ _ _ _ (one h)))))))
    pred (connected and p q) d k d' k' u v h = pred p _ _ _ _ _ _ (one (pred q _ _ _ _ _ _ h))
    pred (connected or p q) d k d' k' u v h = pred p _ _ _ _ _ _ (one (pred q _ _ _ _ _ _ h))
    pred (connected implies p q) d k d' k' u v h = pred p _ _ _ _ _ _ (one (pred q _ _ _ _ _ _ h))
    pred (connected iff p q) d k d' k' u v h = pred p _ _ _ _ _ _ (one (pred q _ _ _ _ _ _ h))
    pred (compared o t y) d k d' k' u v h = term t _ _ _ _ _ _ (one (term y _ _ _ _ _ _ h))
    pred (member o t y) d k d' k' u v h = term t _ _ _ _ _ _ (one (term y _ _ _ _ _ _ h))
    pred (within o t r) d k d' k' u v h = term t _ _ _ _ _ _ (one (ranged r u v h))
    pred (related o t y z) d k d' k' u v h = term t _ _ _ _ _ _ (one (term y _ _ _ _ _ _ (one (term z _ _ _ _ _ _ h))))

  type : (t : TypeForm) (u v : List Written) → R u v → R (write_type t u) (write_type t v)
  unfolding write_type
  type (given_type g) u v h = one h
  type (power_type g) u v h = one (one h)
  type (range_type r) u v h = ranged r u v h
  type (arrow_type a g f) u v h = one (one (one h))

  pub entries : (k : Kind) (m : ℕ → Mark) (n n' : ℕ) (xs : List Letters) (u v : List Written) → R u v → R (write_entries k m n xs u) (write_entries k m n' xs v)
  unfolding write_entries
  entries k m n n' [] u v h = h
  entries k m n n' (x ∷ xs) u v h = one (one (entries k m _ _ xs u v h))

  pub elements : (n n' : ℕ) (xs : List Letters) (u v : List Written) → R u v → R (write_elements n xs u) (write_elements n' xs v)
  unfolding write_elements
  elements n n' [] u v h = h
  elements n n' (x ∷ xs) u v h = one (elements _ _ xs u v h)

  pub givens : (n n' : ℕ) (gs : List Given) (u v : List Written) → R u v → R (write_givens n gs u) (write_givens n' gs v)
  unfolding write_givens
  givens n n' [] u v h = h
  givens n n' (g ∷ gs) u v h = one (one (elements 0 0 (g.first_element ∷ g.other_elements) _ _ (one (givens _ _ gs u v h))))

  pub declarations : (n n' : ℕ) (ds : List Declaration) (u v : List Written) → R u v → R (write_declarations n ds u) (write_declarations n' ds v)
  unfolding write_declarations
  declarations n n' [] u v h = h
  declarations n n' (d ∷ ds) u v h = one (one (type d.type _ _ (one (declarations _ _ ds u v h))))

  pub condition : (p : Pred) (u v : List Written) → R u v → R (write_where p u) (write_where p v)
  unfolding write_where
  condition p u v h = one (pred p _ _ _ _ _ _ (one h))

  pub state : (s : State) (u v : List Written) → R u v → R (write_state s u) (write_state s v)
  unfolding write_state
  state s u v h = declarations 0 0 (s.first_declaration ∷ s.other_declarations) _ _ (condition s.predicate u v h)

  pub parameters : (i o i' o' : ℕ) (xs : List Parameter) (u v : List Written) → R u v → R (write_parameters i o xs u) (write_parameters i' o' xs v)
  unfolding write_parameters
  parameters i o i' o' [] u v h = h
  parameters i o i' o' (x ∷ xs) u v h = one (one (type x.declaration.type _ _ (one (parameters _ _ _ _ xs u v h))))

  -- a first operation, whatever operations follow it
  pub operation : (n n' : ℕ) (o : Operation) (os os' : List Operation) (u v : List Written) → R (write_operations (suc n) os u) (write_operations (suc n') os' v)
      → R (write_operations n (o ∷ os) u) (write_operations n' (o ∷ os') v)
  unfolding write_operations
  operation n n' o os os' u v h =
      one (one (parameters 0 0 0 0 o.parameters _ _ (one (pred o.abstractly _ _ _ _ _ _ (one (pred o.concretely _ _ _ _ _ _ (one h)))))))

  pub given : (n n' : ℕ) (g : Given) (gs gs' : List Given) (u v : List Written) → R (write_givens (suc n) gs u) (write_givens (suc n') gs' v)
      → R (write_givens n (g ∷ gs) u) (write_givens n' (g ∷ gs') v)
  unfolding write_givens
  given n n' g gs gs' u v h = one (one (elements 0 0 (g.first_element ∷ g.other_elements) _ _ (one h)))

  pub contents : (d : Dossier) (u v : List Written) → R u v → R (write_contents d u) (write_contents d v)
  unfolding write_contents
  contents d u v h = one (entries _ _ 0 0 d.given_entries _ _ (one (one (one (one (one (entries _ _ 0 0 d.operation_entries _ _ (one h))))))))
