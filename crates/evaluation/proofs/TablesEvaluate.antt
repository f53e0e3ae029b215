-- The table of a tree gives what the tree means: the nodes that stand for a term give its value, those of a predicate its truth, with the slots' values in the
-- place of the environment, for trees without faults of at most 1,000 by each number, whose names are held in slots.
use mathlib.Core.Path.{◌≡◌}
use mathlib.Core.List.{List, []}
use Prim.Native.Nat.{ℕ, ◌≤◌}
use Rattle.table_places.specs.FormTree.{Term, number, name, group, prefix, binary, divided, listed, pairs, such, empty_set, empty_pairs, Items, only, also, Pairs, only_pair, also_pair}
use Rattle.table_places.specs.FormTree.{Pred, truth, falsity, negation, paren, quantified, connected, compared, member, within, related}
use Rattle.value_types.specs.StaticRulesScope.{Scope}
use Rattle.value_types.specs.StaticRulesNames.{judge_term, judge_pred}
use Rattle.value_types.specs.StaticRulesLimits.{size_term, size_pred}
use Rattle.value_types.specs.MeaningMeaning.{Environment, value, holds}
use Rattle.value_types.specs.TypedValues.{TermWithin, PredWithin, sizes_in}
use Rattle.table_places.specs.FormBoundNames.{TermBindsFew, PredBindsFew}
use Rattle.table_places.specs.NodeSpansSpans.{Stands}
use Rattle.table_places.specs.ResolvedTable.{Slots, term_table, pred_table}
use Rattle.evaluation.specs.EvaluationByNumber.{Values, TermIs, TruthIs}
use Rattle.evaluation.specs.SlotValues.{bound_slot, Held}
use Rattle.evaluation.specs.Heights.{height_term, height_pred}
use Rattle.evaluation.proofs.Settings.{Setting, TermHere, ItemsHere, PairsHere, PredHere}
use Rattle.evaluation.proofs.EvaluatedTerms.{number-here, name-here, group-here, prefix_here, binary-here, divided-here, listed_here, pairs-here, such-here, empty-set-here, empty-pairs-here}
use Rattle.evaluation.proofs.EvaluatedBraces.{only_here, also-here, only-pair-here, also-pair-here}
use Rattle.evaluation.proofs.EvaluatedPreds.{truth-here, falsity-here, negation-here, paren-here, quantified-here, connected-here, compared-here, member-here, within-here, related-here}

module _ (table : List ℕ) where
  mutual
    term-here : (t : Term) (S : Setting) → TermHere table S t
    term-here (number n) S = number-here table S n
    term-here (name x) S = name-here table S x
    term-here (group t) S = group-here table S t (term-here t S)
    term-here (prefix o t) S = prefix_here table S o t (term-here t S)
    term-here (binary o t u) S = binary-here table S o t u (term-here t S) (term-here u S)
    term-here (divided o t e) S = divided-here table S o t e (term-here t S)
    term-here (listed ts) S = listed_here table S ts (items-evaluate ts S)
    term-here (pairs ts) S = pairs-here table S ts (pairs-evaluate ts S)
    term-here (such x g p) S = such-here table S x g p (λ s. pred-here p s)
    term-here (empty_set g) S = empty-set-here table S g
    term-here (empty_pairs g h) S = empty-pairs-here table S g h

    pub items-evaluate : (ts : Items) (S : Setting) → ItemsHere table S ts
    items-evaluate (only t) S = only_here table S t (term-here t S)
    items-evaluate (also t ts) S = also-here table S t ts (term-here t S) (items-evaluate ts S)

    pub pairs-evaluate : (ts : Pairs) (S : Setting) → PairsHere table S ts
    pairs-evaluate (only_pair t u) S = only-pair-here table S t u (term-here t S) (term-here u S)
    pairs-evaluate (also_pair t u ts) S = also-pair-here table S t u ts (term-here t S) (term-here u S) (pairs-evaluate ts S)

    pred-here : (p : Pred) (S : Setting) → PredHere table S p
    pred-here truth S = truth-here table S
    pred-here falsity S = falsity-here table S
    pred-here (negation p) S = negation-here table S p (pred-here p S)
    pred-here (paren p) S = paren-here table S p (pred-here p S)
    pred-here (quantified q x d p) S = quantified-here table S q x d p (λ s. pred-here p s)
    pred-here (connected o p q) S = connected-here table S o p q (pred-here p S) (pred-here q S)
    pred-here (compared o t u) S = compared-here table S o t u (term-here t S) (term-here u S)
    pred-here (member o t u) S = member-here table S o t u (term-here t S) (term-here u S)
    pred-here (within o t r) S = within-here table S o t r (term-here t S)
    pred-here (related o t u v) S = related-here table S o t u v (term-here t S) (term-here u S) (term-here v S)

-- the theorem
pub term-evaluates : (t : Term) (Γ : Scope) (W : Slots) (k : ℕ) (ρ : Environment) (σ : Values) (table : List ℕ) (p e i j f : ℕ) → Held Γ W k ρ σ
    → (judge_term t Γ i).faults ≡ [] → (size_term t (sizes_in Γ) j).faults ≡ [] → TermWithin t → TermBindsFew t k
    → Stands table p e (term_table t Γ W (bound_slot k) p) → e ≤ 16384 → height_term t ≤ f → TermIs f table e σ (value t ρ).code
term-evaluates t Γ W k ρ σ table p e i j f h q z w b s l g =
    term-here table t (record { Γ = Γ; W = W; k = k; ρ = ρ; σ = σ; held = h }) p e f
    (record { at = i; sized_at = j; judged = q; sized = z; within = w; few = b }) s l g

pub pred_evaluates : (q : Pred) (Γ : Scope) (W : Slots) (k : ℕ) (ρ : Environment) (σ : Values) (table : List ℕ) (p e i j f : ℕ) → Held Γ W k ρ σ
    → (judge_pred q Γ i).faults ≡ [] → (size_pred q (sizes_in Γ) j).faults ≡ [] → PredWithin q → PredBindsFew q k
    → Stands table p e (pred_table q Γ W (bound_slot k) p) → e ≤ 16384 → height_pred q ≤ f → TruthIs f table e σ (holds q ρ)
pred_evaluates q Γ W k ρ σ table p e i j f h r z w b s l g =
    pred-here table q (record { Γ = Γ; W = W; k = k; ρ = ρ; σ = σ; held = h }) p e f
    (record { at = i; sized_at = j; judged = r; sized = z; within = w; few = b }) s l g
