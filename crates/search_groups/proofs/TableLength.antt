-- The table of a tree has as many numbers as its nodes (form/specs/Codes).
use mathlib.Core.Path.{◌≡◌, refl, ap₂, ◌∙◌, sym}
use mathlib.Core.List.{List, ◌++◌, ◌∷◌}
use mathlib.Core.Option.{Option, none, some}
use Prim.Native.Nat.{ℕ, suc, ◌+◌}
use lib.ListN.{length, length-append}
use Rattle.lexical.specs.Symbols.{Name}
use Rattle.form.specs.Tree.{Given, Domain, given_set, range}
use Rattle.form.specs.Tree.{Term, number, name, group, prefix, binary, divided, listed, pairs, such, empty_set, empty_pairs, Items, only, also, Pairs, only_pair, also_pair}
use Rattle.form.specs.Tree.{Pred, truth, falsity, negation, paren, quantified, connected, compared, member, within, related}
use Rattle.form.specs.Codes.{Numbering, node, name_number, term_width, pred_width, domain_width, domain_codes, term_codes, items_codes, pairs_codes, pred_codes}
use Rattle.table_places.specs.StaticRulesCarriers.{plain}
use Rattle.table_places.specs.StaticRulesScope.{Scope, binding, element_of}
use Rattle.table_places.specs.StaticRulesNames.{domain_carrier}
use Rattle.table_nodes.specs.TableByNumber.{next_slot}
use Rattle.table_places.specs.ResolvedTable.{Slots, placed, slot_of, name_table, domain_table, term_table, items_table, pairs_table, pred_table}

-- two lists with as many numbers
data Even : List ℕ → List ℕ → Type 0 where
  even : {a b : List ℕ} → length a ≡ length b → Even a b

length-of : {a b : List ℕ} → Even a b → length a ≡ length b
length-of (even e) = e

infixr 5 ◌&◌
◌&◌ : {a a' b b' : List ℕ} → Even a a' → Even b b' → Even (a ++ b) (a' ++ b')
◌&◌ {a} {a'} {b} {b'} (even e) (even f) = even (length-append a b ∙ ap₂ ◌+◌ e f ∙ sym (length-append a' b'))

-- four numbers a node
nodes : {k i a b k' i' a' b' : ℕ} → Even (node k i a b) (node k' i' a' b')
nodes = even refl

name-even : (Γ : Scope) (W : Slots) (x : Name) (i n : ℕ) → Even (name_table Γ W x) (node 2 i n 0)
unfolding name_table
name-even Γ W x i n = on (slot_of W x) (element_of Γ.givens x)
  where
    on : (o : Option (Name × ℕ)) (g : Option Given) → Even (placed o g x) (node 2 i n 0)
    on (some w) g = nodes
    on none none = nodes
    on none (some g) = nodes

domain-even : (d : Domain) (Γ : Scope) (i : ℕ) (ρ : Numbering) → Even (domain_table d Γ) (domain_codes d i ρ)
unfolding domain_table
domain-even (given_set g) Γ i ρ = nodes
domain-even (range r) Γ i ρ = nodes

mutual
  unfolding term_table term_codes

  term-even : (t : Term) (Γ : Scope) (W : Slots) (s q i : ℕ) (ρ : Numbering) → Even (term_table t Γ W s q) (term_codes t i ρ)
  term-even (number n) Γ W s q i ρ = nodes
  term-even (name x) Γ W s q i ρ = name-even Γ W x i (name_number ρ x)
  term-even (group t) Γ W s q i ρ = term-even t Γ W s q (suc i) ρ
  term-even (prefix o t) Γ W s q i ρ = term-even t Γ W s q (suc i) ρ & nodes
  term-even (divided o t e) Γ W s q i ρ = term-even t Γ W s q i ρ & nodes
  term-even (binary o t u) Γ W s q i ρ =
      term-even t Γ W s q i ρ & term-even u Γ W s (q + length (term_table t Γ W s q)) (suc (i + term_width t)) ρ & nodes
  term-even (such x g p) Γ W s q i ρ =
      pred-even p (binding Γ x (domain_carrier Γ (given_set g))) ((plain x, s) ∷ W) (next_slot s) q (i + 5) ρ & domain-even (given_set g) Γ (i + 3) ρ & nodes
  term-even (listed ts) Γ W s q i ρ = items-even ts Γ W s q (suc i) ρ & nodes
  term-even (pairs ts) Γ W s q i ρ = pairs-even ts Γ W s q (suc i) ρ & nodes
  term-even (empty_set g) Γ W s q i ρ = nodes
  term-even (empty_pairs g h) Γ W s q i ρ = nodes

  items-even : (ts : Items) (Γ : Scope) (W : Slots) (s q i : ℕ) (ρ : Numbering) → Even (items_table ts Γ W s q) (items_codes ts i ρ)
  items-even (only t) Γ W s q i ρ = term-even t Γ W s q i ρ & nodes
  items-even (also t ts) Γ W s q i ρ =
      term-even t Γ W s q i ρ & items-even ts Γ W s (q + length (term_table t Γ W s q)) (suc (i + term_width t)) ρ & nodes

  pairs-even : (ts : Pairs) (Γ : Scope) (W : Slots) (s q i : ℕ) (ρ : Numbering) → Even (pairs_table ts Γ W s q) (pairs_codes ts i ρ)
  pairs-even (only_pair t u) Γ W s q i ρ =
      term-even t Γ W s q i ρ & term-even u Γ W s (q + length (term_table t Γ W s q)) (suc (i + term_width t)) ρ & nodes
  pairs-even (also_pair t u ts) Γ W s q i ρ =
      let n : ℕ = q + length (term_table t Γ W s q) in
      term-even t Γ W s q i ρ & term-even u Γ W s n (suc (i + term_width t)) ρ
      & pairs-even ts Γ W s (n + length (term_table u Γ W s n)) (suc (suc (i + term_width t) + term_width u)) ρ & nodes

  pred-even : (p : Pred) (Γ : Scope) (W : Slots) (s q i : ℕ) (ρ : Numbering) → Even (pred_table p Γ W s q) (pred_codes p i ρ)
  pred-even truth Γ W s q i ρ = nodes
  pred-even falsity Γ W s q i ρ = nodes
  pred-even (negation p) Γ W s q i ρ = pred-even p Γ W s q (suc i) ρ & nodes
  pred-even (paren p) Γ W s q i ρ = pred-even p Γ W s q (suc i) ρ
  pred-even (connected o p r) Γ W s q i ρ =
      pred-even p Γ W s q i ρ & pred-even r Γ W s (q + length (pred_table p Γ W s q)) (suc (i + pred_width p)) ρ & nodes
  pred-even (compared o t u) Γ W s q i ρ =
      term-even t Γ W s q i ρ & term-even u Γ W s (q + length (term_table t Γ W s q)) (suc (i + term_width t)) ρ & nodes
  pred-even (member o t u) Γ W s q i ρ =
      term-even t Γ W s q i ρ & term-even u Γ W s (q + length (term_table t Γ W s q)) (suc (i + term_width t)) ρ & nodes
  pred-even (within o t r) Γ W s q i ρ = term-even t Γ W s q i ρ & domain-even (range r) Γ (suc (i + term_width t)) ρ & nodes
  pred-even (related o t u v) Γ W s q i ρ =
      let n : ℕ = q + length (term_table t Γ W s q) in
      term-even t Γ W s q i ρ & term-even u Γ W s n (suc (i + term_width t)) ρ
      & term-even v Γ W s (n + length (term_table u Γ W s n)) (suc (suc (i + term_width t) + term_width u)) ρ & nodes
  pred-even (quantified y x t p) Γ W s q i ρ =
      pred-even p (binding Γ x (domain_carrier Γ t)) ((plain x, s) ∷ W) (next_slot s) q (i + 5 + domain_width t) ρ & domain-even t Γ (i + 4) ρ & nodes

-- a predicate's table has as many numbers as its nodes
pub pred-length : (p : Pred) (Γ : Scope) (W : Slots) (s q i : ℕ) (ρ : Numbering) → length (pred_table p Γ W s q) ≡ length (pred_codes p i ρ)
pred-length p Γ W s q i ρ = length-of (pred-even p Γ W s q i ρ)

-- a term's likewise
pub term-length : (t : Term) (Γ : Scope) (W : Slots) (s q i : ℕ) (ρ : Numbering) → length (term_table t Γ W s q) ≡ length (term_codes t i ρ)
term-length t Γ W s q i ρ = length-of (term-even t Γ W s q i ρ)
