-- The numbers of term_sizes/specs/SizesByNumber are the sizes and faults of the definitions: where a table of sizes shows the names in reach, the size of a term is the
-- definition's, with faults or without, and the key of a tree is that of its least fault.
use mathlib.Core.Path.{◌≡◌, refl, ap, ap₂, ◌∙◌, sym}
use mathlib.Core.List.{◌∷◌}
use Prim.Native.Nat.{ℕ, suc, ◌+◌}
use lib.ListN.{set}
use Rattle.lexical.specs.Symbols.{no_ending}
use Rattle.form.specs.Tree.{Letters, Quantifier, Domain}
use Rattle.form.specs.Tree.{Term, number, name, group, prefix, binary, divided, listed, pairs, such, empty_set, empty_pairs, Items, only, also, Pairs, only_pair, also_pair}
use Rattle.form.specs.Tree.{Pred, truth, falsity, negation, paren, quantified, connected, compared, member, within, related}
use Rattle.form.specs.Codes.{Numbering, number_of_name, term_width, pred_width}
use Rattle.static_rules.specs.Carriers.{plain}
use Rattle.static_rules.specs.Names.{domain_length}
use Rattle.static_rules.specs.Limits.{Sizes, domain_size, size_term, size_pred}
use Rattle.type_rules.specs.TypesByNumber.{least_key}
use Rattle.names.proofs.ReachTables.{Numbered, DomainIn, TermIn, ItemsIn, PairsIn, PredIn}
use Rattle.names.proofs.TypesAgreeLeast.{least-nil}
use Rattle.names.proofs.TypesAgreeWidths.{domain-width}
use Rattle.term_sizes.specs.SizesByNumber.{Bounds, prefix_bound, division_bound, term_bound, term_over, pred_over}
use Rattle.limits.proofs.SizesAgreeScope.{SizesShown, bound-shown, domain-bound}
use Rattle.limits.proofs.SizeWidths.{term-next, pred-next}
use Rattle.limits.proofs.SizesAgreeParts.{TermHolds, ItemsHold, PairsHold, PredHolds, prefix-size, division-size, two-least, three-least, items-least, pairs-least, preds-least, binary-holds}

-- what stands inside a quantifier: the bound name's size and the place of the predicate, by numbers and by the definitions
quantified-holds : (ρ : Numbering) (P : Letters → Type 0) (Γ : Sizes) (S : Bounds) (q : Quantifier) (x : Letters) (t : Domain) (p : Pred) → DomainIn P t
    → PredHolds ρ ((plain x, domain_size t) ∷ Γ) (set S (number_of_name ρ x no_ending) (domain_size t)) p
    → PredHolds ρ Γ S (quantified q x t p)
unfolding size_term term_over
quantified-holds ρ P Γ S q x t p h a i =
    ap₂ (λ (n w : ℕ). pred_over p (set S (number_of_name ρ x no_ending) n) ρ (i + 5 + w)) (domain-bound P t h) (domain-width t) ∙ a (i + 5 + domain_length t)

module _ (ρ : Numbering) (P : Letters → Type 0) (ν : Numbered ρ P) where
  mutual
    unfolding TermIn size_term term_over term_bound

    term-holds : (t : Term) (Γ : Sizes) (S : Bounds) → SizesShown ρ P Γ S → TermIn P t → TermHolds ρ Γ S t
    term-holds (number n) Γ S s h = λ i. record { least = sym least-nil; bound = refl }
    term-holds (name x) Γ S s h = λ i. record { least = sym least-nil; bound = s.sizes x h }
    term-holds (group t) Γ S s h = λ i. let a = term-holds t Γ S s h (suc i) in record { least = a.least; bound = a.bound }
    term-holds (prefix o t) Γ S s h = λ i.
        let a = term-holds t Γ S s h (suc i) in
        record { least = a.least; bound = ap (prefix_bound o) a.bound ∙ prefix-size o (size_term t Γ (suc i)).bound }
    term-holds (binary o t u) Γ S s h = binary-holds ρ Γ S o t u (term-holds t Γ S s h.0) (term-holds u Γ S s h.1)
    term-holds (divided o t e) Γ S s h = λ i.
        let a = term-holds t Γ S s h i in
        record { least = a.least; bound = ap (λ (n : ℕ). division_bound o n e.magnitude) a.bound ∙ division-size o (size_term t Γ i).bound e }
    term-holds (listed ts) Γ S s h = λ i. record { least = items-hold ts Γ S s h (suc i); bound = refl }
    term-holds (pairs ts) Γ S s h = λ i. record { least = pairs-hold ts Γ S s h (suc i); bound = refl }
    term-holds (such x g p) Γ S s h = λ i.
        record {
          least = pred-holds p ((plain x, 0) ∷ Γ) (set S (number_of_name ρ x no_ending) 0) (bound-shown ρ P ν Γ S s x h.0 0) h.2 (i + 5);
          bound = refl;
        }
    term-holds (empty_set g) Γ S s h = λ i. record { least = sym least-nil; bound = refl }
    term-holds (empty_pairs g k) Γ S s h = λ i. record { least = sym least-nil; bound = refl }

    items-hold : (ts : Items) (Γ : Sizes) (S : Bounds) → SizesShown ρ P Γ S → ItemsIn P ts → ItemsHold ρ Γ S ts
    items-hold (only t) Γ S s h = λ i. (term-holds t Γ S s h i).least
    items-hold (also t ts) Γ S s h = items-least ρ Γ S t ts (term-holds t Γ S s h.0) (items-hold ts Γ S s h.1)

    pairs-hold : (ts : Pairs) (Γ : Sizes) (S : Bounds) → SizesShown ρ P Γ S → PairsIn P ts → PairsHold ρ Γ S ts
    pairs-hold (only_pair t u) Γ S s h = two-least ρ Γ S t u (term-holds t Γ S s h.0) (term-holds u Γ S s h.1)
    pairs-hold (also_pair t u ts) Γ S s h =
        pairs-least ρ Γ S t u ts (term-holds t Γ S s h.0) (term-holds u Γ S s h.1) (pairs-hold ts Γ S s h.2)

    pred-holds : (p : Pred) (Γ : Sizes) (S : Bounds) → SizesShown ρ P Γ S → PredIn P p → PredHolds ρ Γ S p
    pred-holds truth Γ S s h = λ i. sym least-nil
    pred-holds falsity Γ S s h = λ i. sym least-nil
    pred-holds (negation p) Γ S s h = λ i. pred-holds p Γ S s h (suc i)
    pred-holds (paren p) Γ S s h = λ i. pred-holds p Γ S s h (suc i)
    pred-holds (quantified q x t p) Γ S s h =
        quantified-holds ρ P Γ S q x t p h.1
        (pred-holds p ((plain x, domain_size t) ∷ Γ) (set S (number_of_name ρ x no_ending) (domain_size t))
        (bound-shown ρ P ν Γ S s x h.0 (domain_size t)) h.2)
    pred-holds (connected o p q) Γ S s h = preds-least ρ Γ S p q (pred-holds p Γ S s h.0) (pred-holds q Γ S s h.1)
    pred-holds (compared o t u) Γ S s h = two-least ρ Γ S t u (term-holds t Γ S s h.0) (term-holds u Γ S s h.1)
    pred-holds (member o t u) Γ S s h = two-least ρ Γ S t u (term-holds t Γ S s h.0) (term-holds u Γ S s h.1)
    pred-holds (within o t r) Γ S s h = λ i. (term-holds t Γ S s h.0 i).least
    pred-holds (related o t u v) Γ S s h =
        three-least ρ Γ S t u v (term-holds t Γ S s h.0) (term-holds u Γ S s h.1) (term-holds v Γ S s h.2)

-- a predicate: its least fault, and the symbol behind it
pub measured_pred : (ρ : Numbering) (P : Letters → Type 0) → Numbered ρ P → (p : Pred) (Γ : Sizes) (S : Bounds) → SizesShown ρ P Γ S → PredIn P p → (i : ℕ)
    → (pred_over p S ρ i ≡ least_key (size_pred p Γ i).faults) × ((size_pred p Γ i).next ≡ i + pred_width p)
measured_pred ρ P ν p Γ S s h i = (pred-holds ρ P ν p Γ S s h i, pred-next p Γ i)

-- a term: the same, and its size
pub measured-term : (ρ : Numbering) (P : Letters → Type 0) → Numbered ρ P → (t : Term) (Γ : Sizes) (S : Bounds) → SizesShown ρ P Γ S → TermIn P t → (i : ℕ)
    → (term_over t S ρ i ≡ least_key (size_term t Γ i).faults) × ((size_term t Γ i).next ≡ i + term_width t) × (term_bound t S ρ ≡ (size_term t Γ i).bound)
measured-term ρ P ν t Γ S s h i = let a = term-holds ρ P ν t Γ S s h i in (a.least, term-next t Γ i, a.bound)
