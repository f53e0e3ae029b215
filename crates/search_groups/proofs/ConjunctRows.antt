-- The conjuncts of a predicate, by the numbers of its table.
use mathlib.Core.Path.{◌≡◌, refl, ap, ◌∙◌, subst}
use mathlib.Core.List.{List, [], ◌∷◌, ◌++◌, append_assoc}
use Prim.Native.Nat.{ℕ, ◌+◌}
use native.Mathlib.Omega.{arith}
use lib.ListN.{length}
use Rattle.lexical.specs.Kinds.{code_of}
use Rattle.form.specs.Tree.{range, and, or, implies, iff, is_in, not_in}
use Rattle.form.specs.Tree.{Pred, truth, falsity, negation, paren, quantified, connected, compared, member, within, related}
use Rattle.form.specs.Written.{quantifier_kind, comparison_kind, membership_kind}
use Rattle.form.specs.Codes.{node}
use Rattle.table_places.specs.StaticRulesCarriers.{plain}
use Rattle.table_places.specs.StaticRulesScope.{Scope, binding}
use Rattle.table_places.specs.StaticRulesNames.{domain_carrier}
use Rattle.table_nodes.specs.TableByNumber.{next_slot}
use Rattle.table_places.specs.ResolvedTable.{Slots, element_size, domain_table, term_table, pred_table}
use Rattle.search_groups.specs.Conjuncts.{conjunct_row, conjunct_rows, used_pred}
use Rattle.search_groups.specs.GroupPromises.{slots_at, Conjoin, alone, both}
use Rattle.search_groups.proofs.ConjunctSlots.{pred-slots}

-- a list that ends with a node that is no `and`
data Closed : List ℕ → Type 0 where
  closed : (front : List ℕ) (k i a b : ℕ) → (k ≡ 18 → a ≡ 51 → ⊥) → Closed (front ++ node k i a b)

-- nodes in front of it change nothing
infixr 5 ◌&◌
◌&◌ : (x : List ℕ) {y : List ℕ} → Closed y → Closed (x ++ y)
x & closed front k i a b h = subst Closed (append_assoc x front (node k i a b)) (closed (x ++ front) k i a b h)

other : (k i a b : ℕ) → (k ≡ 18 → ⊥) → Closed (node k i a b)
other k i a b h = closed [] k i a b (λ e f. h e)

whole : (p : Pred) (Γ : Scope) (W : Slots) (q : ℕ) (t : List ℕ) → t ≡ pred_table p Γ W 38 q → Closed t
    → Conjoin q t (conjunct_row q (q + length t) (used_pred p W 38))
whole p Γ W q _ e (closed front k i a b h) =
    let t : List ℕ = front ++ node k i a b in
    subst (λ (u : List ℕ). Conjoin q t (conjunct_row q (q + length t) u)) (ap slots_at e ∙ pred-slots p Γ W 38 q) (alone front k i a b h)

pub conjoin_of : (p : Pred) (Γ : Scope) (W : Slots) (q : ℕ) → Conjoin q (pred_table p Γ W 38 q) (conjunct_rows p Γ W q)
unfolding conjunct_rows pred_table code_of
conjoin_of truth Γ W q = whole truth Γ W q _ refl (other 16 0 1 0 (λ e. omega arith))
conjoin_of falsity Γ W q = whole falsity Γ W q _ refl (other 16 0 0 0 (λ e. omega arith))
conjoin_of (negation p) Γ W q = whole (negation p) Γ W q _ refl (pred_table p Γ W 38 q & other 17 0 0 0 (λ e. omega arith))
conjoin_of (paren p) Γ W q = conjoin_of p Γ W q
conjoin_of (quantified k x t p) Γ W q =
    whole (quantified k x t p) Γ W q _ refl
    (pred_table p (binding Γ x (domain_carrier Γ t)) ((plain x, 38) ∷ W) (next_slot 38) q & domain_table t Γ & other 24 0 38 (code_of (quantifier_kind k)) (λ e. omega arith))
conjoin_of (connected and p r) Γ W q = both (conjoin_of p Γ W q) (conjoin_of r Γ W (q + length (pred_table p Γ W 38 q)))
conjoin_of (connected or p r) Γ W q =
    let a : List ℕ = pred_table p Γ W 38 q in
    whole (connected or p r) Γ W q _ refl (a & pred_table r Γ W 38 (q + length a) & closed [] 18 (q + length a) 52 0 (λ e f. omega arith))
conjoin_of (connected implies p r) Γ W q =
    let a : List ℕ = pred_table p Γ W 38 q in
    whole (connected implies p r) Γ W q _ refl (a & pred_table r Γ W 38 (q + length a) & closed [] 18 (q + length a) 26 0 (λ e f. omega arith))
conjoin_of (connected iff p r) Γ W q =
    let a : List ℕ = pred_table p Γ W 38 q in
    whole (connected iff p r) Γ W q _ refl (a & pred_table r Γ W 38 (q + length a) & closed [] 18 (q + length a) 27 0 (λ e f. omega arith))
conjoin_of (compared o t u) Γ W q =
    let a : List ℕ = term_table t Γ W 38 q in
    whole (compared o t u) Γ W q _ refl (a & term_table u Γ W 38 (q + length a) & other 19 (q + length a) (code_of (comparison_kind o)) 0 (λ e. omega arith))
conjoin_of (member o t u) Γ W q =
    let a : List ℕ = term_table t Γ W 38 q in
    whole (member o t u) Γ W q _ refl (a & term_table u Γ W 38 (q + length a) & other 20 (q + length a) (code_of (membership_kind o)) 0 (λ e. omega arith))
conjoin_of (within o t r) Γ W q =
    whole (within o t r) Γ W q _ refl (term_table t Γ W 38 q & domain_table (range r) Γ & other 21 0 (code_of (membership_kind o)) 0 (λ e. omega arith))
conjoin_of (related is_in t u v) Γ W q =
    let a : List ℕ = term_table t Γ W 38 q in
    let b : List ℕ = term_table u Γ W 38 (q + length a) in
    whole (related is_in t u v) Γ W q _ refl
    (a & b & term_table v Γ W 38 (q + length a + length b) & other 22 (q + length a) (element_size Γ u) (q + length a + length b) (λ e. omega arith))
conjoin_of (related not_in t u v) Γ W q =
    let a : List ℕ = term_table t Γ W 38 q in
    let b : List ℕ = term_table u Γ W 38 (q + length a) in
    whole (related not_in t u v) Γ W q _ refl
    (a & b & term_table v Γ W 38 (q + length a + length b) & other 23 (q + length a) (element_size Γ u) (q + length a + length b) (λ e. omega arith))
