-- A whole without faults: its parts have none, and it fits. One law for each kind of term, brace and predicate whose faults are more than those of one part.
use mathlib.Core.Path.{◌≡◌, refl, sym, subst}
use mathlib.Core.Bool.{Bool, true, false, cond}
use mathlib.Core.List.{List, [], ◌∷◌, ◌++◌}
use mathlib.Core.Option.{Option, none, some}
use Prim.Native.Nat.{ℕ, suc, ◌+◌, ◌<◌, ◌≤◌}
use lib.IntN.{pos}
use borrow.Author.Tests.{ltb-true, leb-true}
use Rattle.lexical.specs.Symbols.{Name}
use Rattle.refusals.specs.Refusals.{Fault, fault, types_misfit}
use Rattle.meaning.specs.FormTree.{Letters, End, Range, Domain, given_set, range, Given, Prefix, Operator, Division, Quantifier, Comparison, Membership}
use Rattle.meaning.specs.FormTree.{Term, name, prefix, binary, divided, listed, pairs, such, empty_pairs, Items, also, Pairs, only_pair, also_pair}
use Rattle.meaning.specs.FormTree.{Pred, quantified, compared, member, within, related}
use Rattle.meaning.specs.StaticRulesCarriers.{Carrier, elements_of, largest, plain, end_value, given_of}
use Rattle.meaning.specs.StaticRulesTypes.{Ty, has, is_number, prefix_fits, operator_fits, comparison_fits, member_fits, related_fits, brace_fits, pairs_type, pairs_fit}
use Rattle.meaning.specs.StaticRulesScope.{Scope, type_of_name, binding}
use Rattle.meaning.specs.StaticRulesNames.{Listing, of_name, known, range_fits, range_faults, pairs_fault, divisor_faults, new_name, domain_carrier, domain_faults, domain_length, over_fault, whole_pairs, judged_pairs}
use Rattle.meaning.specs.StaticRulesNames.{judge_term, judge_items, judge_pairs, judge_pred}
use Rattle.meaning.specs.StaticRulesLimits.{Sizes, operator_size, size_term, size_pred, domain_size}
use Rattle.value_types.specs.TypedValues.{sizes_in}
use Rattle.refusals.proofs.FaultLists.{append_nil-both, append_nil-three, not_nil, unless-nil}
use Rattle.meaning.proofs.StaticRulesFaultless.{inside-nil, whole-nil}

-- two parts one behind the other, in a whole and in a binder: neither has faults, and what else is known
two-parts : {R : Type 0} (xs ys : List Fault) → (xs ++ ys ≡ []) × R → (xs ≡ []) × (ys ≡ []) × R
two-parts xs ys h = let k = append_nil-both xs ys h.0 in (k.0, k.1, h.1)

-- ---- names, given sets, ranges, divisors

pub name-known : (o : Option Ty) (i : ℕ) → (of_name o i).faults ≡ [] → (t : Ty) × (o ≡ some t) × ((of_name o i).type ≡ t)
name-known none i e = not_nil _ _ e
name-known (some t) i e = (t, refl, refl)

pub range-known : (r : Range) (i : ℕ) → range_faults r i ≡ [] → range_fits (end_value r.lower) (end_value r.upper) ≡ true
unfolding range_faults
range-known r i e = unless-nil _ _ e

pub divisor-known : (e : End) (i : ℕ) → divisor_faults e i ≡ [] → 0 < e.magnitude
unfolding divisor_faults
divisor-known e i h = ltb-true 0 e.magnitude (unless-nil _ _ h)

pub brace-known : (gs : List Given) (ts : List (Ty × Ty)) (i : ℕ) → whole_pairs gs ts i ≡ [] → (pairs_fit ts ≡ true) × (over_fault gs (pairs_type ts).over i ≡ [])
unfolding whole_pairs
brace-known gs ts i e = on (pairs_fit ts) e
  where
    on : (b : Bool) → cond b (over_fault gs (pairs_type ts).over i) (fault i types_misfit ∷ []) ≡ [] → (b ≡ true) × (over_fault gs (pairs_type ts).over i ≡ [])
    on true h = (refl, h)
    on false h = not_nil _ _ h

pub judged-pairs : (gs : List Given) (l : Listing (Ty × Ty)) (i : ℕ) → judged_pairs gs l i ≡ []
    → (l.faults ≡ []) × (pairs_fit l.types ≡ true) × (over_fault gs (pairs_type l.types).over i ≡ [])
unfolding judged_pairs
judged-pairs gs l i e = on l.faults e
  where
    on : (fs : List Fault) → ◌≡◌ {A = List Fault} (elim fs [ [] ↦ whole_pairs gs l.types i | x ∷ xs ↦ x ∷ xs ]) []
        → (fs ≡ []) × (pairs_fit l.types ≡ true) × (over_fault gs (pairs_type l.types).over i ≡ [])
    on [] h = let k = brace-known gs l.types i h in (refl, k.0, k.1)
    on (x ∷ xs) h = not_nil x xs h

-- ---- terms

pub name-parts : (x : Name) (Γ : Scope) (i : ℕ) → (judge_term (name x) Γ i).faults ≡ [] → (t : Ty) × (type_of_name Γ x ≡ some t) × ((judge_term (name x) Γ i).type ≡ t)
unfolding judge_term
name-parts x Γ i e = name-known (type_of_name Γ x) i e

pub prefix-parts : (o : Prefix) (t : Term) (Γ : Scope) (i : ℕ) → (judge_term (prefix o t) Γ i).faults ≡ []
    → ((judge_term t Γ (suc i)).faults ≡ []) × (prefix_fits o (judge_term t Γ (suc i)).type ≡ true)
unfolding judge_term
prefix-parts o t Γ i e = whole-nil _ _ _ e

pub binary-parts : (o : Operator) (t u : Term) (Γ : Scope) (i : ℕ) → (judge_term (binary o t u) Γ i).faults ≡ []
    → ((judge_term t Γ i).faults ≡ []) × ((judge_term u Γ (suc (judge_term t Γ i).next)).faults ≡ [])
    × (operator_fits o (judge_term t Γ i).type (judge_term u Γ (suc (judge_term t Γ i).next)).type ≡ true)
unfolding judge_term
binary-parts o t u Γ i e = two-parts _ _ (whole-nil _ _ _ e)

pub divided-parts : (o : Division) (t : Term) (e : End) (Γ : Scope) (i : ℕ) → (judge_term (divided o t e) Γ i).faults ≡ []
    → ((judge_term t Γ i).faults ≡ []) × (has (judge_term t Γ i).type is_number ≡ true) × (0 < e.magnitude)
unfolding judge_term
divided-parts o t e Γ i q =
    let h = two-parts _ _ (whole-nil _ _ _ q) in
    (h.0, h.2, divisor-known e _ h.1)

pub listed-parts : (ts : Items) (Γ : Scope) (i : ℕ) → (judge_term (listed ts) Γ i).faults ≡ []
    → ((judge_items ts Γ (suc i)).faults ≡ []) × (brace_fits (judge_items ts Γ (suc i)).types ≡ true)
unfolding judge_term
listed-parts ts Γ i e = whole-nil _ _ _ e

pub pairs-parts : (ts : Pairs) (Γ : Scope) (i : ℕ) → (judge_term (pairs ts) Γ i).faults ≡ []
    → ((judge_pairs ts Γ (suc i)).faults ≡ []) × (pairs_fit (judge_pairs ts Γ (suc i)).types ≡ true)
    × (over_fault Γ.givens (pairs_type (judge_pairs ts Γ (suc i)).types).over i ≡ [])
unfolding judge_term
pairs-parts ts Γ i e = judged-pairs Γ.givens (judge_pairs ts Γ (suc i)) i e

pub such-parts : (x : Letters) (g : Name) (p : Pred) (Γ : Scope) (i : ℕ) → (judge_term (such x g p) Γ i).faults ≡ []
    → (new_name Γ.taken x (suc i) ≡ []) × (known (given_of Γ.givens g) (i + 3) ≡ [])
    × ((judge_pred p (binding Γ x (domain_carrier Γ (given_set g))) (i + 5)).faults ≡ [])
unfolding judge_term
such-parts x g p Γ i e = two-parts _ _ (inside-nil _ _ e)

pub empty-pairs-parts : (g h : Name) (Γ : Scope) (i : ℕ) → (judge_term (empty_pairs g h) Γ i).faults ≡ []
    → (known (given_of Γ.givens g) (suc i) ≡ []) × (known (given_of Γ.givens h) (i + 2) ≡ [])
    × (pairs_fault (given_of Γ.givens g) (given_of Γ.givens h) i ≡ [])
unfolding judge_term
empty-pairs-parts g h Γ i e = append_nil-three _ _ _ e

-- ---- items and pairs of a brace

pub also-parts : (t : Term) (ts : Items) (Γ : Scope) (i : ℕ) → (judge_items (also t ts) Γ i).faults ≡ []
    → ((judge_term t Γ i).faults ≡ []) × ((judge_items ts Γ (suc (judge_term t Γ i).next)).faults ≡ [])
unfolding judge_term
also-parts t ts Γ i e = append_nil-both _ _ e

pub only-pair-parts : (t u : Term) (Γ : Scope) (i : ℕ) → (judge_pairs (only_pair t u) Γ i).faults ≡ []
    → ((judge_term t Γ i).faults ≡ []) × ((judge_term u Γ (suc (judge_term t Γ i).next)).faults ≡ [])
unfolding judge_term
only-pair-parts t u Γ i e = append_nil-both _ _ e

pub also-pair-parts : (t u : Term) (ts : Pairs) (Γ : Scope) (i : ℕ) → (judge_pairs (also_pair t u ts) Γ i).faults ≡ []
    → ((judge_term t Γ i).faults ≡ []) × ((judge_term u Γ (suc (judge_term t Γ i).next)).faults ≡ [])
    × ((judge_pairs ts Γ (suc (judge_term u Γ (suc (judge_term t Γ i).next)).next)).faults ≡ [])
unfolding judge_term
also-pair-parts t u ts Γ i e = append_nil-three _ _ _ e

-- ---- predicates

pub quantified-parts : (q : Quantifier) (x : Letters) (t : Domain) (p : Pred) (Γ : Scope) (i : ℕ) → (judge_pred (quantified q x t p) Γ i).faults ≡ []
    → (new_name Γ.taken x (i + 2) ≡ []) × (domain_faults Γ t (i + 4) ≡ [])
    × ((judge_pred p (binding Γ x (domain_carrier Γ t)) (suc (i + 4 + domain_length t))).faults ≡ [])
unfolding judge_term
quantified-parts q x t p Γ i e = two-parts _ _ (inside-nil _ _ e)

pub compared-parts : (o : Comparison) (t u : Term) (Γ : Scope) (i : ℕ) → (judge_pred (compared o t u) Γ i).faults ≡ []
    → ((judge_term t Γ i).faults ≡ []) × ((judge_term u Γ (suc (judge_term t Γ i).next)).faults ≡ [])
    × (comparison_fits o (judge_term t Γ i).type (judge_term u Γ (suc (judge_term t Γ i).next)).type ≡ true)
unfolding judge_term
compared-parts o t u Γ i e = two-parts _ _ (whole-nil _ _ _ e)

pub member-parts : (o : Membership) (t u : Term) (Γ : Scope) (i : ℕ) → (judge_pred (member o t u) Γ i).faults ≡ []
    → ((judge_term t Γ i).faults ≡ []) × ((judge_term u Γ (suc (judge_term t Γ i).next)).faults ≡ [])
    × (member_fits (judge_term t Γ i).type (judge_term u Γ (suc (judge_term t Γ i).next)).type ≡ true)
unfolding judge_term
member-parts o t u Γ i e = two-parts _ _ (whole-nil _ _ _ e)

pub within-parts : (o : Membership) (t : Term) (r : Range) (Γ : Scope) (i : ℕ) → (judge_pred (within o t r) Γ i).faults ≡ []
    → ((judge_term t Γ i).faults ≡ []) × (has (judge_term t Γ i).type is_number ≡ true) × (range_fits (end_value r.lower) (end_value r.upper) ≡ true)
unfolding judge_term
within-parts o t r Γ i e =
    let h = two-parts _ _ (whole-nil _ _ _ e) in
    (h.0, h.2, range-known r _ h.1)

pub related-parts : (o : Membership) (t u v : Term) (Γ : Scope) (i : ℕ) → (judge_pred (related o t u v) Γ i).faults ≡ []
    → ((judge_term t Γ i).faults ≡ []) × ((judge_term u Γ (suc (judge_term t Γ i).next)).faults ≡ [])
    × ((judge_term v Γ (suc (judge_term u Γ (suc (judge_term t Γ i).next)).next)).faults ≡ [])
    × (related_fits (judge_term t Γ i).type (judge_term u Γ (suc (judge_term t Γ i).next)).type
    (judge_term v Γ (suc (judge_term u Γ (suc (judge_term t Γ i).next)).next)).type ≡ true)
unfolding judge_term
related-parts o t u v Γ i e =
    let h = whole-nil _ _ _ e in
    let k = append_nil-three _ _ _ h.0 in
    (k.0, k.1, k.2, h.1)

-- ---- number 13's sizes of terms

pub binary-sizes : (o : Operator) (t u : Term) (Z : Sizes) (i : ℕ) → (size_term (binary o t u) Z i).faults ≡ []
    → ((size_term t Z i).faults ≡ []) × ((size_term u Z (suc (size_term t Z i).next)).faults ≡ [])
    × (operator_size o (size_term t Z i).bound (size_term u Z (suc (size_term t Z i).next)).bound ≤ 2147483647)
unfolding size_term
binary-sizes o t u Z i e =
    let h = two-parts _ _ (whole-nil _ _ _ e) in
    (h.0, h.1, leb-true _ _ h.2)

-- ---- inside a binder

-- what a name of a given set is bound over
abbrev pub bound_over : Option Given → Carrier
bound_over none = Carrier.numbers (pos 0) (pos 0)
bound_over (some g) = elements_of g

given-size : (o : Option Given) → largest (bound_over o) ≡ 0
unfolding largest
given-size none = refl
given-size (some h) = refl

pub bound-size : (Γ : Scope) (t : Domain) → domain_size t ≡ largest (domain_carrier Γ t)
bound-size Γ (given_set g) = sym (given-size (given_of Γ.givens g))
bound-size Γ (range r) = refl

-- number 13's sizes of the names in its reach
pub bound-sizes : (x : Letters) (t : Domain) (p : Pred) (Γ : Scope) (i : ℕ) → (size_pred p ((plain x, domain_size t) ∷ sizes_in Γ) i).faults ≡ []
    → (size_pred p (sizes_in (binding Γ x (domain_carrier Γ t))) i).faults ≡ []
bound-sizes x t p Γ i e = subst (λ (n : ℕ). (size_pred p ((plain x, n) ∷ sizes_in Γ) i).faults ≡ []) (bound-size Γ t) e
