-- What a term or a predicate means depends on the values of the names that it mentions, and on no others: so a primed variable that isn't mentioned is free.
use mathlib.Core.Path.{◌≡◌, refl, sym, ap, ap₂, ◌∙◌}
use mathlib.Core.Bool.{Bool, true, false, not}
use mathlib.Core.Logic.{inl, inr}
use mathlib.Core.List.{List, [], ◌∷◌, ◌++◌}
use mathlib.Core.Option.{Option, some}
use Prim.Native.Nat.{ℕ}
use Rattle.static_rules.specs.LexicalLists.{any, find, filter}
use Rattle.static_rules.specs.LexicalSymbols.{Name}
use Rattle.static_rules.specs.FormTree.{Letters, Domain, given_set, range, Given, union}
use Rattle.static_rules.specs.FormTree.{Term, number, name, group, prefix, binary, divided, listed, pairs, such, empty_set, empty_pairs, Items, only, also, Pairs, only_pair, also_pair}
use Rattle.static_rules.specs.FormTree.{Pred, truth, falsity, negation, paren, quantified, connected, compared, member, within, related}
use Rattle.static_rules.specs.Carriers.{same_name, plain, end_value}
use Rattle.sets.specs.Sets as sets
use Rattle.meaning.specs.Values as val
use Rattle.meaning.specs.Values.{Value, prefix_value, operator_value, division_value, singleton, single_pair, compare, asked, connect}
use Rattle.meaning.specs.Meaning.{Binding, Environment, value_of, with, size_of_given, domain_values, quantify, in_range, is_member, is_pair_of, value, items_value, pairs_value, holds}
use Rattle.meaning.specs.Bindings.{Among}
use Rattle.meaning.specs.MentionedNames.{others, term_names, items_names, pairs_names, pred_names}
use Rattle.meaning.proofs.Members.{among-left, among-right, any_none}

-- two environments over the same given sets that give these names the same values
pub record Alike (xs : List Name) (ρ π : Environment) : Type 0 where
  pub givens : ρ.givens ≡ π.givens
  pub values : (x : Name) → Among x xs → value_of ρ x ≡ value_of π x

alike-left : (xs ys : List Name) (ρ π : Environment) → Alike (xs ++ ys) ρ π → Alike xs ρ π
alike-left xs ys ρ π a = record { givens = a.givens; values = λ x m. a.values x (among-left x xs ys m) }

alike_right : (xs ys : List Name) (ρ π : Environment) → Alike (xs ++ ys) ρ π → Alike ys ρ π
alike_right xs ys ρ π a = record { givens = a.givens; values = λ x m. a.values x (among-right x xs ys m) }

-- ---- one name more

pub value-here : (ρ : Environment) (x : Letters) (v : Value) (y : Name) → same_name (plain x) y ≡ true → value_of (with ρ x v) y ≡ v
unfolding value_of find
value-here ρ x v y e = rw (value_of, find, e)

pub value-past : (ρ : Environment) (x : Letters) (v : Value) (y : Name) → same_name (plain x) y ≡ false → value_of (with ρ x v) y ≡ value_of ρ y
unfolding value_of find
value-past ρ x v y e = rw (value_of, find, e)

kept : (x : Letters) (y : Name) (ys : List Name) → Among y ys → same_name (plain x) y ≡ false → Among y (others x ys)
unfolding Among filter
kept x y [] m e = m
kept x y (z ∷ ys) (inl q) e = let f : same_name (plain x) z ≡ false = ap (same_name (plain x)) (sym q) ∙ e in rw (filter, f) (inl q)
kept x y (z ∷ ys) (inr m) e = go (same_name (plain x) z) refl (kept x y ys m e)
  where
    go : (b : Bool) → same_name (plain x) z ≡ b → Among y (others x ys) → Among y (others x (z ∷ ys))
    go true f r = rw (filter, f) r
    go false f r = rw (filter, f) (inr r)

alike-with : (x : Letters) (v : Value) (ys : List Name) (ρ π : Environment) → Alike (others x ys) ρ π → Alike ys (with ρ x v) (with π x v)
alike-with x v ys ρ π a = record { givens = a.givens; values = λ y m. go y m (same_name (plain x) y) refl }
  where
    go : (y : Name) → Among y ys → (b : Bool) → same_name (plain x) y ≡ b → value_of (with ρ x v) y ≡ value_of (with π x v) y
    go y m true e = value-here ρ x v y e ∙ sym (value-here π x v y e)
    go y m false e = value-past ρ x v y e ∙ a.values y (kept x y ys m e) ∙ sym (value-past π x v y e)

-- ---- what depends on the given sets only

same_size : (g : Name) (ρ π : Environment) → ρ.givens ≡ π.givens → size_of_given ρ g ≡ size_of_given π g
unfolding size_of_given
same_size g ρ π e = λ i. size_of_given (record { givens = e i; values = [] }) g

same-domain : (t : Domain) (ρ π : Environment) → ρ.givens ≡ π.givens → domain_values ρ t ≡ domain_values π t
unfolding domain_values size_of_given
same-domain (given_set g) ρ π e = λ i. domain_values (record { givens = e i; values = [] }) (given_set g)
same-domain (range r) ρ π e = refl

-- ---- the law

mutual
  unfolding term_names value Among

  pub frame-term : (t : Term) (ρ π : Environment) → Alike (term_names t) ρ π → value t ρ ≡ value t π
  frame-term (number n) ρ π a = refl
  frame-term (name x) ρ π a = a.values x (inl refl)
  frame-term (group t) ρ π a = frame-term t ρ π a
  frame-term (prefix o t) ρ π a = ap (prefix_value o) (frame-term t ρ π a)
  frame-term (binary o t u) ρ π a =
      ap₂ (operator_value o) (frame-term t ρ π (alike-left (term_names t) (term_names u) ρ π a)) (frame-term u ρ π (alike_right (term_names t) (term_names u) ρ π a))
  frame-term (divided o t e) ρ π a = ap (λ (v : Value). division_value o v (end_value e)) (frame-term t ρ π a)
  frame-term (listed ts) ρ π a = frame-items ts ρ π a
  frame-term (pairs ts) ρ π a = frame-pairs ts ρ π a
  frame-term (such x g p) ρ π a =
      let n : ℕ = size_of_given ρ g in
      let q : (k : ℕ) → holds p (with ρ x (val.element n k)) ≡ holds p (with π x (val.element n k)) =
      λ k. frame-pred p (with ρ x (val.element n k)) (with π x (val.element n k)) (alike-with x (val.element n k) (pred_names p) ρ π a) in
      (λ i. val.set n (sets.set_of n (λ k. q k i)))
      ∙ ap (λ (m : ℕ). val.set m (sets.set_of m (λ k. holds p (with π x (val.element m k))))) (same_size g ρ π a.givens)
  frame-term (empty_set g) ρ π a = ap (λ (n : ℕ). val.set n 0) (same_size g ρ π a.givens)
  frame-term (empty_pairs g h) ρ π a = ap₂ (λ (n m : ℕ). val.pairs n m 0) (same_size g ρ π a.givens) (same_size h ρ π a.givens)

  pub frame-items : (ts : Items) (ρ π : Environment) → Alike (items_names ts) ρ π → items_value ts ρ ≡ items_value ts π
  frame-items (only t) ρ π a = ap singleton (frame-term t ρ π a)
  frame-items (also t ts) ρ π a =
      ap₂ (λ (u v : Value). operator_value union (singleton u) v) (frame-term t ρ π (alike-left (term_names t) (items_names ts) ρ π a))
      (frame-items ts ρ π (alike_right (term_names t) (items_names ts) ρ π a))

  pub frame-pairs : (ts : Pairs) (ρ π : Environment) → Alike (pairs_names ts) ρ π → pairs_value ts ρ ≡ pairs_value ts π
  frame-pairs (only_pair t u) ρ π a =
      ap₂ single_pair (frame-term t ρ π (alike-left (term_names t) (term_names u) ρ π a)) (frame-term u ρ π (alike_right (term_names t) (term_names u) ρ π a))
  frame-pairs (also_pair t u ts) ρ π a =
      let b = alike_right (term_names t) (term_names u ++ pairs_names ts) ρ π a in
      let h = frame-term t ρ π (alike-left (term_names t) (term_names u ++ pairs_names ts) ρ π a) in
      let j = frame-term u ρ π (alike-left (term_names u) (pairs_names ts) ρ π b) in
      let k = frame-pairs ts ρ π (alike_right (term_names u) (pairs_names ts) ρ π b) in
      λ i. operator_value union (single_pair (h i) (j i)) (k i)

  pub frame-pred : (p : Pred) (ρ π : Environment) → Alike (pred_names p) ρ π → holds p ρ ≡ holds p π
  frame-pred truth ρ π a = refl
  frame-pred falsity ρ π a = refl
  frame-pred (negation p) ρ π a = ap not (frame-pred p ρ π a)
  frame-pred (paren p) ρ π a = frame-pred p ρ π a
  frame-pred (quantified q x t p) ρ π a =
      let h : (v : Value) → holds p (with ρ x v) ≡ holds p (with π x v) = λ v. frame-pred p (with ρ x v) (with π x v) (alike-with x v (pred_names p) ρ π a) in
      let d = same-domain t ρ π a.givens in
      λ i. quantify q (λ (v : Value). h v i) (d i)
  frame-pred (connected o p q) ρ π a =
      ap₂ (connect o) (frame-pred p ρ π (alike-left (pred_names p) (pred_names q) ρ π a)) (frame-pred q ρ π (alike_right (pred_names p) (pred_names q) ρ π a))
  frame-pred (compared o t u) ρ π a =
      ap₂ (compare o) (frame-term t ρ π (alike-left (term_names t) (term_names u) ρ π a)) (frame-term u ρ π (alike_right (term_names t) (term_names u) ρ π a))
  frame-pred (member o t u) ρ π a =
      ap₂ (λ (v s : Value). asked o (is_member v s)) (frame-term t ρ π (alike-left (term_names t) (term_names u) ρ π a))
      (frame-term u ρ π (alike_right (term_names t) (term_names u) ρ π a))
  frame-pred (within o t r) ρ π a = ap (λ (v : Value). asked o (in_range v r)) (frame-term t ρ π a)
  frame-pred (related o t u v) ρ π a =
      let b = alike_right (term_names t) (term_names u ++ term_names v) ρ π a in
      let h = frame-term t ρ π (alike-left (term_names t) (term_names u ++ term_names v) ρ π a) in
      let j = frame-term u ρ π (alike-left (term_names u) (term_names v) ρ π b) in
      let k = frame-term v ρ π (alike_right (term_names u) (term_names v) ρ π b) in
      λ i. asked o (is_pair_of (h i) (j i) (k i))

-- ---- a name that is not mentioned, wherever it stands among the values, may have any value

same-find : (B C : Binding) (x y : Name) (v w : Value) → same_name x y ≡ false
    → find (λ (b : Name × Value). same_name b.0 y) (B ++ ((x, v) ∷ C)) ≡ find (λ (b : Name × Value). same_name b.0 y) (B ++ ((x, w) ∷ C))
unfolding find
same-find [] C x y v w e = rw (find, e)
same-find (b ∷ B) C x y v w e = go (same_name b.0 y) (same-find B C x y v w e)
  where
    go : (t : Bool) → find (λ (b : Name × Value). same_name b.0 y) (B ++ ((x, v) ∷ C)) ≡ find (λ (b : Name × Value). same_name b.0 y) (B ++ ((x, w) ∷ C))
        → ◌≡◌ {A = Option (Name × Value)} (elim t [ true ↦ some b | false ↦ find (λ (b : Name × Value). same_name b.0 y) (B ++ ((x, v) ∷ C)) ])
        (elim t [ true ↦ some b | false ↦ find (λ (b : Name × Value). same_name b.0 y) (B ++ ((x, w) ∷ C)) ])
    go true h = refl
    go false h = h

abbrev over : List Given → Binding → Environment
over gs B = record { givens = gs; values = B }

same-value : (gs : List Given) (B C : Binding) (x y : Name) (v w : Value) → same_name x y ≡ false
    → value_of (over gs (B ++ ((x, v) ∷ C))) y ≡ value_of (over gs (B ++ ((x, w) ∷ C))) y
unfolding value_of
same-value gs B C x y v w e = rw (value_of, same-find B C x y v w e)

pub unmentioned : (p : Pred) (gs : List Given) (B C : Binding) (x : Name) (v w : Value) → any (same_name x) (pred_names p) ≡ false
    → holds p (record { givens = gs; values = B ++ ((x, v) ∷ C) }) ≡ holds p (record { givens = gs; values = B ++ ((x, w) ∷ C) })
unmentioned p gs B C x v w e =
    frame-pred p (over gs (B ++ ((x, v) ∷ C))) (over gs (B ++ ((x, w) ∷ C)))
    (record { givens = refl; values = λ y m. same-value gs B C x y v w (any_none (same_name x) (pred_names p) e y m) })
