-- The numbers of type_rules/specs/TypesByNumber are the types and faults of the definitions: where a table of names shows the scope, the key of a tree is that of its least
-- fault, and the number of a term without faults is that of its type.
use mathlib.Core.Path.{◌≡◌}
use mathlib.Core.List.{[]}
use Prim.Native.Nat.{ℕ, ◌+◌}
use Rattle.lexical.specs.Symbols.{no_ending}
use Rattle.form.specs.Tree.{Letters, given_set}
use Rattle.form.specs.Tree.{Term, number, name, group, prefix, binary, divided, listed, pairs, such, empty_set, empty_pairs, Items, only, also, Pairs, only_pair, also_pair}
use Rattle.form.specs.Tree.{Pred, truth, falsity, negation, paren, quantified, connected, compared, member, within, related}
use Rattle.form.specs.Codes.{Numbering, number_of_name, term_width, pred_width}
use Rattle.declared_names.specs.StaticRulesScope.{Scope, binding}
use Rattle.declared_names.specs.StaticRulesNames.{domain_carrier, judge_term, judge_pred}
use Rattle.type_rules.specs.TypesByNumber.{Names, Sizes, bound, domain_kind, term_kind, term_key, pred_key, least_key}
use Rattle.names.proofs.ReachTables.{Known, type_code, Numbered, Shows, TermIn, ItemsIn, PairsIn, PredIn}
use Rattle.names.proofs.TypesAgreeParts.{TermHolds, ItemsHold, PairsHold, PredHolds, term-next, pred-next}
use Rattle.names.proofs.TypesAgreeTerms as term
use Rattle.names.proofs.TypesAgreePreds as pred

module _ (ρ : Numbering) (P : Letters → Type 0) (ν : Numbered ρ P) (z : Sizes) where
  mutual
    unfolding TermIn

    term-holds : (t : Term) (Γ : Scope) (T : Names) → Shows ρ P Γ T z → TermIn P t → TermHolds ρ z Γ T t
    term-holds (number n) Γ T s h = term.number-holds ρ P ν z Γ T s n
    term-holds (name x) Γ T s h = term.name-holds ρ P ν z Γ T s x h
    term-holds (group t) Γ T s h = term.group-holds ρ P ν z Γ T s t (term-holds t Γ T s h)
    term-holds (prefix o t) Γ T s h = term.prefix_holds ρ P ν z Γ T s o t (term-holds t Γ T s h)
    term-holds (binary o t u) Γ T s h = term.binary-holds ρ P ν z Γ T s o t u (term-holds t Γ T s h.0) (term-holds u Γ T s h.1)
    term-holds (divided o t e) Γ T s h = term.divided-holds ρ P ν z Γ T s o t e (term-holds t Γ T s h)
    term-holds (listed ts) Γ T s h = term.listed-holds ρ P ν z Γ T s ts (items-hold ts Γ T s h)
    term-holds (pairs ts) Γ T s h = term.pairs-holds ρ P ν z Γ T s ts (pairs-hold ts Γ T s h)
    term-holds (such x g p) Γ T s h =
        term.such-holds ρ P ν z Γ T s x g p h.0 h.1
        (λ w. pred-holds p (binding Γ x (domain_carrier Γ (given_set g))) (bound T (number_of_name ρ x no_ending) (domain_kind (given_set g) T ρ)) w h.2)
    term-holds (empty_set g) Γ T s h = term.empty-set-holds ρ P ν z Γ T s g h
    term-holds (empty_pairs g k) Γ T s h = term.empty-pairs-holds ρ P ν z Γ T s g k h.0 h.1

    items-hold : (ts : Items) (Γ : Scope) (T : Names) → Shows ρ P Γ T z → ItemsIn P ts → ItemsHold ρ z Γ T ts
    items-hold (only t) Γ T s h = term.only-holds ρ P ν z Γ T s t (term-holds t Γ T s h)
    items-hold (also t ts) Γ T s h = term.also-holds ρ P ν z Γ T s t ts (term-holds t Γ T s h.0) (items-hold ts Γ T s h.1)

    pairs-hold : (ts : Pairs) (Γ : Scope) (T : Names) → Shows ρ P Γ T z → PairsIn P ts → PairsHold ρ z Γ T ts
    pairs-hold (only_pair t u) Γ T s h = term.only-pair-holds ρ P ν z Γ T s t u (term-holds t Γ T s h.0) (term-holds u Γ T s h.1)
    pairs-hold (also_pair t u ts) Γ T s h =
        term.also-pair-holds ρ P ν z Γ T s t u ts (term-holds t Γ T s h.0) (term-holds u Γ T s h.1) (pairs-hold ts Γ T s h.2)

    pred-holds : (p : Pred) (Γ : Scope) (T : Names) → Shows ρ P Γ T z → PredIn P p → PredHolds ρ z Γ T p
    pred-holds truth Γ T s h = pred.truth-holds ρ P ν z Γ T s
    pred-holds falsity Γ T s h = pred.falsity-holds ρ P ν z Γ T s
    pred-holds (negation p) Γ T s h = pred.negation-holds ρ P ν z Γ T s p (pred-holds p Γ T s h)
    pred-holds (paren p) Γ T s h = pred.paren-holds ρ P ν z Γ T s p (pred-holds p Γ T s h)
    pred-holds (quantified q x t p) Γ T s h =
        pred.quantified-holds ρ P ν z Γ T s q x t p h.0 h.1
        (λ w. pred-holds p (binding Γ x (domain_carrier Γ t)) (bound T (number_of_name ρ x no_ending) (domain_kind t T ρ)) w h.2)
    pred-holds (connected o p q) Γ T s h = pred.connected-holds ρ P ν z Γ T s o p q (pred-holds p Γ T s h.0) (pred-holds q Γ T s h.1)
    pred-holds (compared o t u) Γ T s h = pred.compared-holds ρ P ν z Γ T s o t u (term-holds t Γ T s h.0) (term-holds u Γ T s h.1)
    pred-holds (member o t u) Γ T s h = pred.member-holds ρ P ν z Γ T s o t u (term-holds t Γ T s h.0) (term-holds u Γ T s h.1)
    pred-holds (within o t r) Γ T s h = pred.within-holds ρ P ν z Γ T s o t r h.1 (term-holds t Γ T s h.0)
    pred-holds (related o t u v) Γ T s h =
        pred.related-holds ρ P ν z Γ T s o t u v (term-holds t Γ T s h.0) (term-holds u Γ T s h.1) (term-holds v Γ T s h.2)

-- a predicate: its least fault, and the symbol behind it
pub judged-pred : (ρ : Numbering) (P : Letters → Type 0) → Numbered ρ P → (p : Pred) (Γ : Scope) (T : Names) (z : Sizes) → Shows ρ P Γ T z → PredIn P p → (i : ℕ)
    → (pred_key p T ρ z i ≡ least_key (judge_pred p Γ i).faults) × ((judge_pred p Γ i).next ≡ i + pred_width p)
judged-pred ρ P ν p Γ T z s h i = (pred-holds ρ P ν z p Γ T s h i, pred-next p Γ i)

-- a term: the same, and where it has no faults its type
pub judged-term : (ρ : Numbering) (P : Letters → Type 0) → Numbered ρ P → (t : Term) (Γ : Scope) (T : Names) (z : Sizes) → Shows ρ P Γ T z → TermIn P t → (i : ℕ)
    → (term_key t T ρ z i ≡ least_key (judge_term t Γ i).faults) × ((judge_term t Γ i).next ≡ i + term_width t)
    × ((judge_term t Γ i).faults ≡ [] → (term_kind t T ρ ≡ type_code Γ.givens (judge_term t Γ i).type) × Known Γ.givens (judge_term t Γ i).type)
judged-term ρ P ν t Γ T z s h i = let a = term-holds ρ P ν z t Γ T s h i in (a.least, term-next t Γ i, a.typed)
