-- The table by numbers (table_nodes/specs/TableByNumber) is the table by the definitions (table_places/specs/ResolvedTable): where a table of names shows the scope and a table of places the
-- slots of the names in reach, a tree without faults has one table.
use mathlib.Core.Path.{◌≡◌, refl, ap}
use mathlib.Core.List.{List, [], ◌∷◌, ◌++◌}
use Prim.Native.Nat.{ℕ, suc, ◌≤◌}
use lib.ListN.{set}
use Rattle.lexical.specs.Symbols.{no_ending}
use Rattle.form.specs.Tree.{Letters, given_set}
use Rattle.form.specs.Tree.{Term, number, name, group, prefix, binary, divided, listed, pairs, such, empty_set, empty_pairs, Items, only, also, Pairs, only_pair, also_pair}
use Rattle.form.specs.Tree.{Pred, truth, falsity, negation, paren, quantified, connected, compared, member, within, related}
use Rattle.form.specs.Codes.{Numbering, node, number_of_name}
use Rattle.static_rules.specs.Carriers.{plain}
use Rattle.static_rules.specs.Scope.{Scope, binding}
use Rattle.static_rules.specs.Names.{domain_carrier, judge_term, judge_pred}
use Rattle.type_rules.specs.TypesByNumber.{Names, Sizes, bound, domain_kind}
use Rattle.names.proofs.ReachTables.{Numbered, Shows, TermIn, ItemsIn, PairsIn, PredIn}
use Rattle.table_nodes.specs.TableByNumber as table
use Rattle.table_nodes.specs.TableByNumber.{Places, next_slot}
use Rattle.table_places.specs.ResolvedTable as resolved
use Rattle.table_places.specs.ResolvedTable.{Slots}
use Rattle.search_groups.proofs.ScopePlaces.{PlacesShown, name-resolved, next_small, bound-placed}
use Rattle.tables.proofs.TableAgreesParts as part
use Rattle.tables.proofs.TableAgreesParts.{TermResolved, ItemsResolved, PairsResolved, PredResolved}

module _ (ρ : Numbering) (P : Letters → Type 0) (ν : Numbered ρ P) (z : Sizes) where
  mutual
    unfolding TermIn judge_term table.term_table resolved.term_table

    term-resolved : (t : Term) (Γ : Scope) (T : Names) (W' : Slots) (W : Places) (s : ℕ) → Shows ρ P Γ T z → PlacesShown ρ P Γ W' W → s ≤ 63 → TermIn P t
        → TermResolved ρ z Γ T W' W s t
    term-resolved (number n) Γ T W' W s v w l h = λ i e q. refl
    term-resolved (name x) Γ T W' W s v w l h = λ i e q. name-resolved ρ P Γ W' W w x h i e
    term-resolved (group t) Γ T W' W s v w l h = λ i e q. term-resolved t Γ T W' W s v w l h (suc i) e q
    term-resolved (prefix o t) Γ T W' W s v w l h = part.prefix-resolved ρ P ν z Γ T v W' W s o t h (term-resolved t Γ T W' W s v w l h)
    term-resolved (binary o t u) Γ T W' W s v w l h =
        part.binary-resolved ρ P ν z Γ T v W' W s o t u (term-resolved t Γ T W' W s v w l h.0) (term-resolved u Γ T W' W s v w l h.1)
    term-resolved (divided o t d) Γ T W' W s v w l h = part.divided-resolved ρ P ν z Γ T v W' W s o t d (term-resolved t Γ T W' W s v w l h)
    term-resolved (listed ts) Γ T W' W s v w l h = part.listed-resolved ρ P ν z Γ T v W' W s ts (items-resolved ts Γ T W' W s v w l h)
    term-resolved (pairs ts) Γ T W' W s v w l h = part.pairs-resolved ρ P ν z Γ T v W' W s ts (pairs-resolved ts Γ T W' W s v w l h)
    term-resolved (such x g p) Γ T W' W s v w l h =
        part.such-resolved ρ P ν z Γ T v W' W s x g p h.0 h.1
        (λ y. pred_resolved p (binding Γ x (domain_carrier Γ (given_set g))) (bound T (number_of_name ρ x no_ending) (domain_kind (given_set g) T ρ))
        ((plain x, s) ∷ W') (set W (number_of_name ρ x no_ending) s) (next_slot s) y
        (bound-placed ρ P ν Γ W' W w x h.0 (domain_carrier Γ (given_set g)) s l) (next_small s) h.2)
    term-resolved (empty_set g) Γ T W' W s v w l h = λ i e q. refl
    term-resolved (empty_pairs g k) Γ T W' W s v w l h = λ i e q. refl

    items-resolved : (ts : Items) (Γ : Scope) (T : Names) (W' : Slots) (W : Places) (s : ℕ) → Shows ρ P Γ T z → PlacesShown ρ P Γ W' W → s ≤ 63 → ItemsIn P ts
        → ItemsResolved ρ z Γ T W' W s ts
    items-resolved (only t) Γ T W' W s v w l h = λ i e q. ap (λ (x : List ℕ). x ++ node 9 0 0 0) (term-resolved t Γ T W' W s v w l h i e q)
    items-resolved (also t ts) Γ T W' W s v w l h =
        part.also-resolved ρ P ν z Γ T v W' W s t ts (term-resolved t Γ T W' W s v w l h.0) (items-resolved ts Γ T W' W s v w l h.1)

    pairs-resolved : (ts : Pairs) (Γ : Scope) (T : Names) (W' : Slots) (W : Places) (s : ℕ) → Shows ρ P Γ T z → PlacesShown ρ P Γ W' W → s ≤ 63 → PairsIn P ts
        → PairsResolved ρ z Γ T W' W s ts
    pairs-resolved (only_pair t u) Γ T W' W s v w l h =
        part.only-pair-resolved ρ P ν z Γ T v W' W s t u h.1 (term-resolved t Γ T W' W s v w l h.0) (term-resolved u Γ T W' W s v w l h.1)
    pairs-resolved (also_pair t u ts) Γ T W' W s v w l h =
        part.also-pair-resolved ρ P ν z Γ T v W' W s t u ts h.1 (term-resolved t Γ T W' W s v w l h.0) (term-resolved u Γ T W' W s v w l h.1)
        (pairs-resolved ts Γ T W' W s v w l h.2)

    pred_resolved : (p : Pred) (Γ : Scope) (T : Names) (W' : Slots) (W : Places) (s : ℕ) → Shows ρ P Γ T z → PlacesShown ρ P Γ W' W → s ≤ 63 → PredIn P p
        → PredResolved ρ z Γ T W' W s p
    pred_resolved truth Γ T W' W s v w l h = λ i e q. refl
    pred_resolved falsity Γ T W' W s v w l h = λ i e q. refl
    pred_resolved (negation p) Γ T W' W s v w l h = λ i e q. ap (λ (x : List ℕ). x ++ node 17 0 0 0) (pred_resolved p Γ T W' W s v w l h (suc i) e q)
    pred_resolved (paren p) Γ T W' W s v w l h = λ i e q. pred_resolved p Γ T W' W s v w l h (suc i) e q
    pred_resolved (quantified q x t p) Γ T W' W s v w l h =
        part.quantified-resolved ρ P ν z Γ T v W' W s q x t p h.0 h.1
        (λ y. pred_resolved p (binding Γ x (domain_carrier Γ t)) (bound T (number_of_name ρ x no_ending) (domain_kind t T ρ))
        ((plain x, s) ∷ W') (set W (number_of_name ρ x no_ending) s) (next_slot s) y
        (bound-placed ρ P ν Γ W' W w x h.0 (domain_carrier Γ t) s l) (next_small s) h.2)
    pred_resolved (connected o p r) Γ T W' W s v w l h =
        part.connected-resolved ρ P ν z Γ T v W' W s o p r (pred_resolved p Γ T W' W s v w l h.0) (pred_resolved r Γ T W' W s v w l h.1)
    pred_resolved (compared o t u) Γ T W' W s v w l h =
        part.compared-resolved ρ P ν z Γ T v W' W s o t u (term-resolved t Γ T W' W s v w l h.0) (term-resolved u Γ T W' W s v w l h.1)
    pred_resolved (member o t u) Γ T W' W s v w l h =
        part.member-resolved ρ P ν z Γ T v W' W s o t u (term-resolved t Γ T W' W s v w l h.0) (term-resolved u Γ T W' W s v w l h.1)
    pred_resolved (within o t r) Γ T W' W s v w l h = part.within-resolved ρ P ν z Γ T v W' W s o t r h.1 (term-resolved t Γ T W' W s v w l h.0)
    pred_resolved (related o t u x) Γ T W' W s v w l h =
        part.related-resolved ρ P ν z Γ T v W' W s o t u x h.1 (term-resolved t Γ T W' W s v w l h.0) (term-resolved u Γ T W' W s v w l h.1)
        (term-resolved x Γ T W' W s v w l h.2)

-- a predicate without faults has one table
pub resolved_pred : (ρ : Numbering) (P : Letters → Type 0) → Numbered ρ P → (p : Pred) (Γ : Scope) (W' : Slots) (T : Names) (W : Places) (z : Sizes)
    → Shows ρ P Γ T z → PlacesShown ρ P Γ W' W → PredIn P p → (i : ℕ) → (judge_pred p Γ i).faults ≡ [] → (s q : ℕ) → s ≤ 63
    → table.pred_table p T W z ρ s q ≡ resolved.pred_table p Γ W' s q
resolved_pred ρ P ν p Γ W' T W z v w h i e s q l = pred_resolved ρ P ν z p Γ T W' W s v w l h i e q
