-- Trees of which all that the evaluator needs is known: no faults of names, types and sizes, numbers of at most 1,000, at most three bound names in reach.
-- Their parts are such trees, and fit. Assumes nothing.
use mathlib.Core.Path.{◌≡◌, sym, ap, ap₂, ◌∙◌, subst}
use mathlib.Core.Bool.{Bool, true}
use mathlib.Core.List.{[]}
use Prim.Native.Nat.{ℕ, suc, ◌+◌, ◌≤◌}
use Rattle.table_places.specs.FormTree.{Letters, End, Range, Domain, given_set, Prefix, Operator, Division, Connective, Quantifier, Comparison, Membership}
use Rattle.table_places.specs.FormTree.{Term, group, prefix, binary, divided, listed, pairs, such, Items, only, also, Pairs, only_pair, also_pair}
use Rattle.table_places.specs.FormTree.{Pred, negation, paren, quantified, connected, compared, member, within, related}
use Rattle.lexical.specs.Symbols.{Name}
use Rattle.value_types.specs.StaticRulesCarriers.{end_value}
use Rattle.value_types.specs.StaticRulesTypes.{Ty, has, is_element, prefix_fits, operator_fits, member_fits, related_fits, pairs_of_types}
use Rattle.value_types.specs.StaticRulesScope.{Scope, binding}
use Rattle.value_types.specs.StaticRulesNames.{judge_term, judge_items, judge_pairs, judge_pred, domain_carrier, domain_length, domain_faults, over_fault, range_fits}
use Rattle.value_types.specs.StaticRulesLimits.{size_term, size_items, size_pairs, size_pred}
use Rattle.value_types.specs.TypedValues.{TermWithin, ItemsWithin, PairsWithin, PredWithin, DomainWithin, RangeWithin, sizes_in}
use Rattle.table_places.specs.FormBoundNames.{TermBindsFew, ItemsBindFew, PairsBindFew, PredBindsFew}
use Rattle.value_types.proofs.RefusalsFaultLists.{append_nil-both, append_nil-three}
use Rattle.value_types.proofs.FaultlessParts.{prefix-parts, binary-parts, divided-parts, listed-parts, pairs-parts, such-parts, also-parts, only-pair-parts, also-pair-parts}
use Rattle.value_types.proofs.FaultlessParts.{quantified-parts, compared-parts, member-parts, within-parts, related-parts}
use Rattle.value_types.proofs.FaultlessParts.{binary-sizes, bound-sizes}
use Rattle.value_types.proofs.TypeTests.{ItemsOf, items_of, items-split, PairsOf, pairs_of, pairs-split}
use Rattle.table_places.specs.ResolvedTable.{type_in}
use Rattle.value_types.proofs.StaticRulesTypePlaces.{type-placed}

-- in the reach of k bound names; it begins at the symbol `at`, number 13 looks at it from the symbol `sized_at` on
pub record SoundTerm (t : Term) (Γ : Scope) (k : ℕ) : Type 0 where
  pub at : ℕ
  pub sized_at : ℕ
  pub judged : (judge_term t Γ at).faults ≡ []
  pub sized : (size_term t (sizes_in Γ) sized_at).faults ≡ []
  pub within : TermWithin t
  pub few : TermBindsFew t k

-- items of elements of one given set
pub record SoundItems (ts : Items) (Γ : Scope) (k : ℕ) : Type 0 where
  pub at : ℕ
  pub sized_at : ℕ
  pub judged : (judge_items ts Γ at).faults ≡ []
  pub sized : (size_items ts (sizes_in Γ) sized_at).faults ≡ []
  pub within : ItemsWithin ts
  pub few : ItemsBindFew ts k
  pub type : Ty
  pub fit : ItemsOf type (judge_items ts Γ at).types

-- pairs of one type, of at most 16 pairs
pub record SoundPairs (ts : Pairs) (Γ : Scope) (k : ℕ) : Type 0 where
  pub at : ℕ
  pub sized_at : ℕ
  pub judged : (judge_pairs ts Γ at).faults ≡ []
  pub sized : (size_pairs ts (sizes_in Γ) sized_at).faults ≡ []
  pub within : PairsWithin ts
  pub few : PairsBindFew ts k
  pub first : Ty
  pub second : Ty
  pub fit : PairsOf first second (judge_pairs ts Γ at).types
  pub brace : ℕ
  pub over : over_fault Γ.givens (pairs_of_types first second).over brace ≡ []

pub record SoundPred (p : Pred) (Γ : Scope) (k : ℕ) : Type 0 where
  pub at : ℕ
  pub sized_at : ℕ
  pub judged : (judge_pred p Γ at).faults ≡ []
  pub sized : (size_pred p (sizes_in Γ) sized_at).faults ≡ []
  pub within : PredWithin p
  pub few : PredBindsFew p k

module _ (Γ : Scope) (k : ℕ) where
  -- a test of types passes wherever the terms stand
  here-one : (f : Ty → Bool) (t : Term) (i : ℕ) → f (judge_term t Γ i).type ≡ true → f (type_in Γ t) ≡ true
  here-one f t i e = ap f (type-placed t Γ 0 i) ∙ e

  here-two : (f : Ty → Ty → Bool) (t u : Term) (i j : ℕ) → f (judge_term t Γ i).type (judge_term u Γ j).type ≡ true → f (type_in Γ t) (type_in Γ u) ≡ true
  here-two f t u i j e = ap₂ f (type-placed t Γ 0 i) (type-placed u Γ 0 j) ∙ e

  -- ---- terms

  pub sound-group : (t : Term) → SoundTerm (group t) Γ k → SoundTerm t Γ k
  unfolding TermWithin TermBindsFew judge_term size_term
  sound-group t s = record { at = suc s.at; sized_at = suc s.sized_at; judged = s.judged; sized = s.sized; within = s.within; few = s.few }

  pub sound-prefix : (o : Prefix) (t : Term) → SoundTerm (prefix o t) Γ k → SoundTerm t Γ k × (prefix_fits o (type_in Γ t) ≡ true)
  unfolding TermWithin TermBindsFew size_term
  sound-prefix o t s =
      let p = prefix-parts o t Γ s.at s.judged in (
        record { at = _; sized_at = suc s.sized_at; judged = p.0; sized = s.sized; within = s.within; few = s.few },
        here-one (prefix_fits o) t (suc s.at) p.1,
      )

  pub sound-binary : (o : Operator) (t u : Term) → SoundTerm (binary o t u) Γ k → SoundTerm t Γ k × SoundTerm u Γ k × (operator_fits o (type_in Γ t) (type_in Γ u) ≡ true)
  unfolding TermWithin TermBindsFew
  sound-binary o t u s =
      let p = binary-parts o t u Γ s.at s.judged in
      let q = binary-sizes o t u (sizes_in Γ) s.sized_at s.sized in (
        record { at = _; sized_at = _; judged = p.0; sized = q.0; within = s.within.0; few = s.few.0 },
        record { at = _; sized_at = _; judged = p.1; sized = q.1; within = s.within.1; few = s.few.1 },
        here-two (operator_fits o) t u s.at (suc (judge_term t Γ s.at).next) p.2,
      )

  pub sound-divided : (o : Division) (t : Term) (e : End) → SoundTerm (divided o t e) Γ k → SoundTerm t Γ k
  unfolding TermWithin TermBindsFew size_term
  sound-divided o t e s =
      record { at = _; sized_at = s.sized_at; judged = (divided-parts o t e Γ s.at s.judged).0; sized = s.sized; within = s.within.0; few = s.few }

  pub sound-listed : (ts : Items) → SoundTerm (listed ts) Γ k → SoundItems ts Γ k
  unfolding TermWithin TermBindsFew size_term
  sound-listed ts s =
      let p = listed-parts ts Γ s.at s.judged in
      let q = items_of (judge_items ts Γ (suc s.at)).types p.1 in
      record { at = _; sized_at = suc s.sized_at; judged = p.0; sized = s.sized; within = s.within; few = s.few; type = q.0; fit = q.1 }

  pub sound-pairs : (ts : Pairs) → SoundTerm (pairs ts) Γ k → SoundPairs ts Γ k
  unfolding TermWithin TermBindsFew size_term
  sound-pairs ts s =
      let p = pairs-parts ts Γ s.at s.judged in
      let q = pairs_of (judge_pairs ts Γ (suc s.at)).types p.1 in
      record {
        at = _;
        sized_at = suc s.sized_at;
        judged = p.0;
        sized = s.sized;
        within = s.within;
        few = s.few;
        first = q.0;
        second = q.1;
        fit = q.2;
        brace = s.at;
        over = subst (λ (r : Ty). over_fault Γ.givens r.over s.at ≡ []) q.3 p.2;
      }

  -- a binder: what it binds over has no fault, and its predicate is such a tree in the reach of one name more
  pub record Binder (x : Letters) (d : Domain) (p : Pred) : Type 0 where
    pub place : ℕ
    pub known : domain_faults Γ d place ≡ []
    pub ends : DomainWithin d
    pub few : suc k ≤ 3
    pub body : SoundPred p (binding Γ x (domain_carrier Γ d)) (suc k)

  pub sound-such : (x : Letters) (g : Name) (p : Pred) → SoundTerm (such x g p) Γ k → Binder x (given_set g) p
  unfolding TermWithin TermBindsFew size_term
  sound-such x g p s =
      let q = such-parts x g p Γ s.at s.judged in
      record {
        place = _;
        known = q.1;
        ends = tt;
        few = s.few.0;
        body = record { at = _; sized_at = _; judged = q.2; sized = bound-sizes x (given_set g) p Γ (s.sized_at + 5) s.sized; within = s.within; few = s.few.1 };
      }

  -- ---- items and pairs of a brace

  pub sound-only : (t : Term) → SoundItems (only t) Γ k → SoundTerm t Γ k × (has (type_in Γ t) is_element ≡ true)
  unfolding TermWithin TermBindsFew judge_term size_term
  sound-only t s =
      let q = items-split s.type (judge_term t Γ s.at).type [] s.fit in (
        record { at = s.at; sized_at = s.sized_at; judged = s.judged; sized = s.sized; within = s.within; few = s.few },
        here-one (λ (r : Ty). has r is_element) t s.at (ap (λ (r : Ty). has r is_element) (sym q.0) ∙ s.fit.element),
      )

  pub sound-also : (t : Term) (ts : Items) → SoundItems (also t ts) Γ k → SoundTerm t Γ k × (has (type_in Γ t) is_element ≡ true) × SoundItems ts Γ k
  unfolding TermWithin TermBindsFew judge_term size_term
  sound-also t ts s =
      let p = also-parts t ts Γ s.at s.judged in
      let z = append_nil-both _ _ s.sized in
      let q = items-split s.type (judge_term t Γ s.at).type (judge_items ts Γ (suc (judge_term t Γ s.at).next)).types s.fit in (
        record { at = _; sized_at = _; judged = p.0; sized = z.0; within = s.within.0; few = s.few.0 },
        here-one (λ (r : Ty). has r is_element) t s.at (ap (λ (r : Ty). has r is_element) (sym q.0) ∙ s.fit.element),
        record { at = _; sized_at = _; judged = p.1; sized = z.1; within = s.within.1; few = s.few.1; type = s.type; fit = q.1 },
      )

  -- two elements whose sets have at most 16 pairs
  pub record TwoElements (t u : Term) : Type 0 where
    pub left : SoundTerm t Γ k
    pub right : SoundTerm u Γ k
    pub first : has (type_in Γ t) is_element ≡ true
    pub second : has (type_in Γ u) is_element ≡ true
    pub brace : ℕ
    pub over : over_fault Γ.givens (pairs_of_types (type_in Γ t) (type_in Γ u)).over brace ≡ []

  two-elements : (t u : Term) (τ υ : Ty) (i j n : ℕ) → SoundTerm t Γ k → SoundTerm u Γ k → τ ≡ (judge_term t Γ i).type → υ ≡ (judge_term u Γ j).type
      → has τ is_element ≡ true → has υ is_element ≡ true → over_fault Γ.givens (pairs_of_types τ υ).over n ≡ [] → TwoElements t u
  two-elements t u τ υ i j n s r p q e f o =
      let a : τ ≡ type_in Γ t = p ∙ type-placed t Γ i 0 in
      let b : υ ≡ type_in Γ u = q ∙ type-placed u Γ j 0 in
      record {
        left = s;
        right = r;
        first = ap (λ (x : Ty). has x is_element) (sym a) ∙ e;
        second = ap (λ (x : Ty). has x is_element) (sym b) ∙ f;
        brace = n;
        over = ap₂ (λ (x y : Ty). over_fault Γ.givens (pairs_of_types x y).over n) (sym a) (sym b) ∙ o;
      }

  pub sound-only-pair : (t u : Term) → SoundPairs (only_pair t u) Γ k → TwoElements t u
  unfolding TermWithin TermBindsFew judge_term size_term
  sound-only-pair t u s =
      let p = only-pair-parts t u Γ s.at s.judged in
      let z = append_nil-both _ _ s.sized in
      let j : ℕ = suc (judge_term t Γ s.at).next in
      let q = pairs-split s.first s.second ((judge_term t Γ s.at).type, (judge_term u Γ j).type) [] s.fit in
      two-elements t u s.first s.second s.at j s.brace (record { at = _; sized_at = _; judged = p.0; sized = z.0; within = s.within.0; few = s.few.0 })
      (record { at = _; sized_at = _; judged = p.1; sized = z.1; within = s.within.1; few = s.few.1 }) q.0 q.1 s.fit.first s.fit.second s.over

  pub sound-also-pair : (t u : Term) (ts : Pairs) → SoundPairs (also_pair t u ts) Γ k → TwoElements t u × SoundPairs ts Γ k
  unfolding TermWithin TermBindsFew judge_term size_term
  sound-also-pair t u ts s =
      let p = also-pair-parts t u ts Γ s.at s.judged in
      let z = append_nil-three _ _ _ s.sized in
      let j : ℕ = suc (judge_term t Γ s.at).next in
      let l : ℕ = suc (judge_term u Γ j).next in
      let q = pairs-split s.first s.second ((judge_term t Γ s.at).type, (judge_term u Γ j).type) (judge_pairs ts Γ l).types s.fit in (
        two-elements t u s.first s.second s.at j s.brace (record { at = _; sized_at = _; judged = p.0; sized = z.0; within = s.within.0; few = s.few.0 })
            (record { at = _; sized_at = _; judged = p.1; sized = z.1; within = s.within.1; few = s.few.1 }) q.0 q.1 s.fit.first s.fit.second s.over,
        record {
          at = _;
          sized_at = _;
          judged = p.2;
          sized = z.2;
          within = s.within.2;
          few = s.few.2;
          first = s.first;
          second = s.second;
          fit = q.2;
          brace = s.brace;
          over = s.over;
        },
      )

  -- ---- predicates

  pub sound-negation : (p : Pred) → SoundPred (negation p) Γ k → SoundPred p Γ k
  unfolding TermWithin TermBindsFew judge_term size_term
  sound-negation p s =
      record { at = suc s.at; sized_at = suc s.sized_at; judged = s.judged; sized = s.sized; within = s.within; few = s.few }

  pub sound-paren : (p : Pred) → SoundPred (paren p) Γ k → SoundPred p Γ k
  unfolding TermWithin TermBindsFew judge_term size_term
  sound-paren p s =
      record { at = suc s.at; sized_at = suc s.sized_at; judged = s.judged; sized = s.sized; within = s.within; few = s.few }

  pub sound-quantified : (q : Quantifier) (x : Letters) (d : Domain) (p : Pred) → SoundPred (quantified q x d p) Γ k → Binder x d p
  unfolding TermWithin TermBindsFew size_term
  sound-quantified q x d p s =
      let r = quantified-parts q x d p Γ s.at s.judged in
      record {
        place = _;
        known = r.1;
        ends = s.within.0;
        few = s.few.0;
        body = record { at = _; sized_at = _; judged = r.2; sized = bound-sizes x d p Γ (s.sized_at + 5 + domain_length d) s.sized; within = s.within.1; few = s.few.1 };
      }

  pub sound-connected : (o : Connective) (p q : Pred) → SoundPred (connected o p q) Γ k → SoundPred p Γ k × SoundPred q Γ k
  unfolding TermWithin TermBindsFew judge_term size_term
  sound-connected o p q s =
      let r = append_nil-both _ _ s.judged in
      let z = append_nil-both _ _ s.sized in (
        record { at = _; sized_at = _; judged = r.0; sized = z.0; within = s.within.0; few = s.few.0 },
        record { at = _; sized_at = _; judged = r.1; sized = z.1; within = s.within.1; few = s.few.1 },
      )

  pub sound-compared : (o : Comparison) (t u : Term) → SoundPred (compared o t u) Γ k → SoundTerm t Γ k × SoundTerm u Γ k
  unfolding TermWithin TermBindsFew size_term
  sound-compared o t u s =
      let r = compared-parts o t u Γ s.at s.judged in
      let z = append_nil-both _ _ s.sized in (
        record { at = _; sized_at = _; judged = r.0; sized = z.0; within = s.within.0; few = s.few.0 },
        record { at = _; sized_at = _; judged = r.1; sized = z.1; within = s.within.1; few = s.few.1 },
      )

  pub sound-member : (o : Membership) (t u : Term) → SoundPred (member o t u) Γ k → SoundTerm t Γ k × SoundTerm u Γ k × (member_fits (type_in Γ t) (type_in Γ u) ≡ true)
  unfolding TermWithin TermBindsFew size_term
  sound-member o t u s =
      let r = member-parts o t u Γ s.at s.judged in
      let z = append_nil-both _ _ s.sized in (
        record { at = _; sized_at = _; judged = r.0; sized = z.0; within = s.within.0; few = s.few.0 },
        record { at = _; sized_at = _; judged = r.1; sized = z.1; within = s.within.1; few = s.few.1 },
        here-two member_fits t u s.at (suc (judge_term t Γ s.at).next) r.2,
      )

  pub sound-within : (o : Membership) (t : Term) (r : Range) → SoundPred (within o t r) Γ k
      → SoundTerm t Γ k × RangeWithin r × (range_fits (end_value r.lower) (end_value r.upper) ≡ true)
  unfolding TermWithin TermBindsFew size_term
  sound-within o t r s =
      let q = within-parts o t r Γ s.at s.judged in (
        record { at = _; sized_at = s.sized_at; judged = q.0; sized = s.sized; within = s.within.0; few = s.few },
        s.within.1,
        q.2,
      )

  pub sound-related : (o : Membership) (t u v : Term) → SoundPred (related o t u v) Γ k
      → SoundTerm t Γ k × SoundTerm u Γ k × SoundTerm v Γ k × (related_fits (type_in Γ t) (type_in Γ u) (type_in Γ v) ≡ true)
  unfolding TermWithin TermBindsFew size_term
  sound-related o t u v s =
      let i : ℕ = s.at in
      let j : ℕ = suc (judge_term t Γ i).next in
      let l : ℕ = suc (judge_term u Γ j).next in
      let r = related-parts o t u v Γ i s.judged in
      let z = append_nil-three _ _ _ s.sized in (
        record { at = _; sized_at = _; judged = r.0; sized = z.0; within = s.within.0; few = s.few.0 },
        record { at = _; sized_at = _; judged = r.1; sized = z.1; within = s.within.1; few = s.few.1 },
        record { at = _; sized_at = _; judged = r.2; sized = z.2; within = s.within.2; few = s.few.2 },
        (λ a. related_fits (type-placed t Γ 0 i a) (type-placed u Γ 0 j a) (type-placed v Γ 0 l a)) ∙ r.3,
      )
