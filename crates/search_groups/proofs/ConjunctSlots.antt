-- The slots read off the table of a tree are those of the names that the tree mentions.
use mathlib.Core.Path.{◌≡◌, refl, sym, ap, ◌∙◌}
use mathlib.Core.Bool.{Bool, false, cond}
use mathlib.Core.List.{List, [], ◌∷◌, ◌++◌, append_assoc, append-nil}
use mathlib.Core.Option.{Option, none, some}
use Prim.Native.Nat.{ℕ, ◌+◌}
use lib.Dec.{eqb}
use lib.ListN.{length}
use Rattle.lexical.specs.Symbols.{Name}
use Rattle.form.specs.Tree.{Given, Domain, given_set, range, Membership, is_in, not_in}
use Rattle.form.specs.Tree.{Term, number, name, group, prefix, binary, divided, listed, pairs, such, empty_set, empty_pairs, Items, only, also, Pairs, only_pair, also_pair}
use Rattle.form.specs.Tree.{Pred, truth, falsity, negation, paren, quantified, connected, compared, member, within, related}
use Rattle.form.specs.Codes.{node}
use Rattle.table_places.specs.StaticRulesCarriers.{plain}
use Rattle.table_places.specs.StaticRulesScope.{Scope, binding, element_of}
use Rattle.table_places.specs.StaticRulesNames.{domain_carrier}
use Rattle.table_nodes.specs.TableByNumber.{next_slot, related_shape}
use Rattle.table_places.specs.ResolvedTable.{Slots, placed, slot_of, name_table, domain_table, term_table, items_table, pairs_table, pred_table}
use Rattle.search_groups.specs.Conjuncts.{slot_list, used_term, used_items, used_pairs, used_pred}
use Rattle.search_groups.specs.GroupPromises.{slot_here, slots_at}

-- whole nodes with the slots u, whatever stands behind them
data Holds : List ℕ → List ℕ → Type 0 where
  holds : {a u : List ℕ} → ((c : List ℕ) → slots_at (a ++ c) ≡ u ++ slots_at c) → Holds a u

slots-of : {a u : List ℕ} → Holds a u → (c : List ℕ) → slots_at (a ++ c) ≡ u ++ slots_at c
slots-of (holds h) = h

infixr 5 ◌&◌
◌&◌ : {a b u v : List ℕ} → Holds a u → Holds b v → Holds (a ++ b) (u ++ v)
◌&◌ {a} {b} {u} {v} (holds f) (holds g) =
    holds (λ c. ap slots_at (append_assoc a b c) ∙ f (b ++ c) ∙ ap (λ (x : List ℕ). u ++ x) (g c) ∙ sym (append_assoc u v (slots_at c)))

-- behind them stand nodes that have none
infixr 6 ◌&|◌
◌&|◌ : {a b u : List ℕ} → Holds a u → Holds b [] → Holds (a ++ b) u
◌&|◌ {a} {b} {u} (holds f) (holds g) = holds (λ c. ap slots_at (append_assoc a b c) ∙ f (b ++ c) ∙ ap (λ (x : List ℕ). u ++ x) (g c))

slot : {s i b : ℕ} → Holds (node 2 i s b) (s ∷ [])
unfolding slots_at slot_here
slot = holds (λ c. refl)

none_in : {k i a b : ℕ} → eqb k 2 ≡ false → Holds (node k i a b) []
unfolding slots_at slot_here
none_in {k} {i} {a} {b} e = holds (λ c. ap (λ (t : Bool). cond t (a ∷ []) [] ++ slots_at c) e)

name-holds : (x : Name) (Γ : Scope) (W : Slots) (s : ℕ) → Holds (name_table Γ W x) (used_term (name x) W s)
unfolding name_table used_term
name-holds x Γ W s = on (slot_of W x) (element_of Γ.givens x)
  where
    on : (o : Option (Name × ℕ)) (g : Option Given) → Holds (placed o g x) (slot_list o)
    on (some w) g = slot
    on none none = none_in refl
    on none (some g) = none_in refl

domain-holds : (d : Domain) (Γ : Scope) → Holds (domain_table d Γ) []
unfolding domain_table
domain-holds (given_set g) Γ = none_in refl
domain-holds (range r) Γ = none_in refl

shape-holds : (o : Membership) {i a b : ℕ} → Holds (node (related_shape o) i a b) []
shape-holds is_in = none_in refl
shape-holds not_in = none_in refl

mutual
  unfolding term_table used_term

  term-holds : (t : Term) (Γ : Scope) (W : Slots) (s q : ℕ) → Holds (term_table t Γ W s q) (used_term t W s)
  term-holds (number n) Γ W s q = none_in refl
  term-holds (name x) Γ W s q = name-holds x Γ W s
  term-holds (group t) Γ W s q = term-holds t Γ W s q
  term-holds (prefix o t) Γ W s q = term-holds t Γ W s q &| none_in refl
  term-holds (divided o t e) Γ W s q = term-holds t Γ W s q &| none_in refl
  term-holds (binary o t u) Γ W s q = term-holds t Γ W s q & term-holds u Γ W s (q + length (term_table t Γ W s q)) &| none_in refl
  term-holds (such x g p) Γ W s q =
      pred-holds p (binding Γ x (domain_carrier Γ (given_set g))) ((plain x, s) ∷ W) (next_slot s) q &| domain-holds (given_set g) Γ &| none_in refl
  term-holds (listed ts) Γ W s q = items-holds ts Γ W s q &| none_in refl
  term-holds (pairs ts) Γ W s q = pairs-holds ts Γ W s q &| none_in refl
  term-holds (empty_set g) Γ W s q = none_in refl
  term-holds (empty_pairs g h) Γ W s q = none_in refl

  items-holds : (ts : Items) (Γ : Scope) (W : Slots) (s q : ℕ) → Holds (items_table ts Γ W s q) (used_items ts W s)
  items-holds (only t) Γ W s q = term-holds t Γ W s q &| none_in refl
  items-holds (also t ts) Γ W s q = term-holds t Γ W s q & items-holds ts Γ W s (q + length (term_table t Γ W s q)) &| none_in refl

  pairs-holds : (ts : Pairs) (Γ : Scope) (W : Slots) (s q : ℕ) → Holds (pairs_table ts Γ W s q) (used_pairs ts W s)
  pairs-holds (only_pair t u) Γ W s q = term-holds t Γ W s q & term-holds u Γ W s (q + length (term_table t Γ W s q)) &| none_in refl
  pairs-holds (also_pair t u ts) Γ W s q =
      let n : ℕ = q + length (term_table t Γ W s q) in
      term-holds t Γ W s q & term-holds u Γ W s n & pairs-holds ts Γ W s (n + length (term_table u Γ W s n)) &| none_in refl

  pred-holds : (p : Pred) (Γ : Scope) (W : Slots) (s q : ℕ) → Holds (pred_table p Γ W s q) (used_pred p W s)
  pred-holds truth Γ W s q = none_in refl
  pred-holds falsity Γ W s q = none_in refl
  pred-holds (negation p) Γ W s q = pred-holds p Γ W s q &| none_in refl
  pred-holds (paren p) Γ W s q = pred-holds p Γ W s q
  pred-holds (connected o p r) Γ W s q = pred-holds p Γ W s q & pred-holds r Γ W s (q + length (pred_table p Γ W s q)) &| none_in refl
  pred-holds (compared o t u) Γ W s q = term-holds t Γ W s q & term-holds u Γ W s (q + length (term_table t Γ W s q)) &| none_in refl
  pred-holds (member o t u) Γ W s q = term-holds t Γ W s q & term-holds u Γ W s (q + length (term_table t Γ W s q)) &| none_in refl
  pred-holds (within o t r) Γ W s q = term-holds t Γ W s q &| domain-holds (range r) Γ &| none_in refl
  pred-holds (related o t u v) Γ W s q =
      let n : ℕ = q + length (term_table t Γ W s q) in
      term-holds t Γ W s q & term-holds u Γ W s n & term-holds v Γ W s (n + length (term_table u Γ W s n)) &| shape-holds o
  pred-holds (quantified y x t p) Γ W s q =
      pred-holds p (binding Γ x (domain_carrier Γ t)) ((plain x, s) ∷ W) (next_slot s) q &| domain-holds t Γ &| none_in refl

-- the slots of a predicate
pub pred-slots : (p : Pred) (Γ : Scope) (W : Slots) (s q : ℕ) → slots_at (pred_table p Γ W s q) ≡ used_pred p W s
unfolding slots_at
pred-slots p Γ W s q =
    let t : List ℕ = pred_table p Γ W s q in
    let u : List ℕ = used_pred p W s in
    ap slots_at (sym (append-nil t)) ∙ slots-of (pred-holds p Γ W s q) [] ∙ append-nil u
