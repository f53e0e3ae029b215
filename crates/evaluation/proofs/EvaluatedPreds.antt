-- Predicates: the nodes that stand for one give its truth, if those of its parts give their values. One law for each kind of predicate.
use mathlib.Core.Path.{◌≡◌, refl, sym, ap, ◌∙◌, subst}
use mathlib.Core.List.{List, ◌∷◌, ◌++◌}
use Prim.Native.Nat.{ℕ, ◌+◌, ◌-◌, ◌≤◌, max}
use native.Mathlib.Omega.{arith}
use lib.Dec.{eqb}
use lib.ListN.{length}
use Rattle.lexical.specs.Kinds.{code_of}
use Rattle.table_places.specs.FormTree.{Letters, Range, Domain, Connective, Quantifier, Comparison, Membership, Term}
use Rattle.table_places.specs.FormTree.{Pred, truth, falsity, negation, paren, quantified, connected, compared, member, within, related}
use Rattle.table_places.specs.FormWritten.{connective_kind, quantifier_kind, comparison_kind, membership_kind}
use Rattle.table_places.specs.FormCodes.{node, end_number}
use Rattle.value_types.specs.StaticRulesCarriers.{plain}
use Rattle.value_types.specs.StaticRulesScope.{binding}
use Rattle.value_types.specs.StaticRulesNames.{domain_carrier}
use Rattle.sets.specs.Sets as sets
use Rattle.value_types.specs.MeaningValues.{Value, natural, pair_bit}
use Rattle.value_types.specs.MeaningMeaning.{with, quantify, is_member, is_pair_of, value, holds}
use Rattle.table_places.specs.NodeSpansSpans.{Stands}
use Rattle.table_places.specs.TableNodesTableByNumber.{next_slot, related_shape}
use Rattle.table_places.specs.ResolvedTable.{type_in, element_size, domain_table, term_table, pred_table}
use Rattle.evaluation.specs.OperatorsByNumber as by
use Rattle.evaluation.specs.EvaluationByNumber.{Pair, pair_code, TermIs, ItemsIs, TruthIs}
use Rattle.evaluation.specs.SlotValues.{bound_slot}
use Rattle.evaluation.specs.Heights.{height_term, height_pred}
use Rattle.evaluation.proofs.OperatorsAgree.{comparisons_agree, connectives-agree, memberships-agree, relations-agree, quantifiers-agree}
use Rattle.evaluation.proofs.RangesAgree.{ranges-agree}
use Rattle.evaluation.proofs.StandingNodes.{node_at, one-part, two-parts, three-parts, bounded-part}
use Rattle.evaluation.proofs.NodeValues.{truth-node, truth-value, negation-node, connective-node, comparison-node, member-node, range-node, quantifier-node, related-node}
use Rattle.evaluation.proofs.TypedCodes.{member-codes, related-codes, second-element, element-agrees}
use Rattle.evaluation.proofs.SoundTrees.{sound-negation, sound-paren, sound-quantified, sound-connected, sound-compared, sound-member, sound-within, sound-related}
use Rattle.evaluation.proofs.DomainNodes.{domain-node}
use Rattle.evaluation.proofs.Settings.{Setting, TermHere, PredHere, term-typed, bound-each}

module _ (table : List ℕ) (S : Setting) where
  constant : (q : Pred) (n b e f : ℕ) → Stands table b e (node 16 0 n 0) → e ≤ 16384 → 1 ≤ f → holds q S.ρ ≡ eqb n 1 → TruthIs f table e S.σ (holds q S.ρ)
  constant q n b e f st l h z =
      let nd = node_at table b e 16 0 n 0 st in
      truth-node table 0 e S.σ f (holds q S.ρ) h (record { some = nd.some; within = l })
      (λ g i. truth-value (λ j τ x. TermIs g table j τ x) (λ j τ b. TruthIs g table j τ b) (λ j τ x. ItemsIs g table j τ x) table e S.σ 0 n 0 nd (holds q S.ρ) z)

  pub truth-here : PredHere table S truth
  unfolding pred_table holds height_pred
  truth-here b e f s st l h = constant truth 1 b e f st l h refl

  pub falsity-here : PredHere table S falsity
  unfolding pred_table holds height_pred
  falsity-here b e f s st l h = constant falsity 0 b e f st l h refl

  pub paren-here : (q : Pred) → PredHere table S q → PredHere table S (paren q)
  unfolding pred_table holds height_pred
  paren-here q Q b e f s st l h = Q b e f (sound-paren S.Γ S.k q s) st l h

  pub negation-here : (q : Pred) → PredHere table S q → PredHere table S (negation q)
  unfolding pred_table holds height_pred
  negation-here q Q b e f s st l h =
      let c = one-part table b e (pred_table q S.Γ S.W (bound_slot S.k) b) 17 0 0 0 st in
      truth-node table (height_pred q) e S.σ f (holds (negation q) S.ρ) h (record { some = c.last.some; within = l })
      (λ g i. negation-node (λ j τ x. TermIs g table j τ x) (λ j τ y. TruthIs g table j τ y) (λ j τ x. ItemsIs g table j τ x) table e S.σ 0 0 0 c.last _
      (holds q S.ρ) (Q b (e - 4) g (sound-negation S.Γ S.k q s) c.part (omega arith) i) refl)

  pub connected-here : (o : Connective) (q r : Pred) → PredHere table S q → PredHere table S r → PredHere table S (connected o q r)
  unfolding pred_table holds height_pred
  connected-here o q r Q R b e f s st l h =
      let d = sound-connected S.Γ S.k o q r s in
      let a : List ℕ = pred_table q S.Γ S.W (bound_slot S.k) b in
      let c = two-parts table b e a (pred_table r S.Γ S.W (bound_slot S.k) (b + length a)) 18 (b + length a) (code_of (connective_kind o)) 0 st in
      let m = c.before in
      truth-node table (max (height_pred q) (height_pred r)) e S.σ f (holds (connected o q r) S.ρ) h (record { some = c.last.some; within = l })
      (λ g i. connective-node (λ j τ x. TermIs g table j τ x) (λ j τ y. TruthIs g table j τ y) (λ j τ x. ItemsIs g table j τ x) table e S.σ (b + length a) _ 0 c.last _
      (holds q S.ρ) (holds r S.ρ) m (Q b (b + length a) g d.0 c.first (omega arith) (omega arith))
      (R (b + length a) (e - 4) g d.1 c.second (omega arith) (omega arith)) (connectives-agree o (holds q S.ρ) (holds r S.ρ)))

  pub compared-here : (o : Comparison) (t u : Term) → TermHere table S t → TermHere table S u → PredHere table S (compared o t u)
  unfolding pred_table holds height_pred
  compared-here o t u T U b e f s st l h =
      let d = sound-compared S.Γ S.k o t u s in
      let a : List ℕ = term_table t S.Γ S.W (bound_slot S.k) b in
      let c = two-parts table b e a (term_table u S.Γ S.W (bound_slot S.k) (b + length a)) 19 (b + length a) (code_of (comparison_kind o)) 0 st in
      let m = c.before in
      truth-node table (max (height_term t) (height_term u)) e S.σ f (holds (compared o t u) S.ρ) h (record { some = c.last.some; within = l })
      (λ g i. comparison-node (λ j τ x. TermIs g table j τ x) (λ j τ y. TruthIs g table j τ y) (λ j τ x. ItemsIs g table j τ x) table e S.σ (b + length a) _ 0 c.last _
      (value t S.ρ).code (value u S.ρ).code m (T b (b + length a) g d.0 c.first (omega arith) (omega arith))
      (U (b + length a) (e - 4) g d.1 c.second (omega arith) (omega arith)) (comparisons_agree o (value t S.ρ) (value u S.ρ)))

  pub member-here : (o : Membership) (t u : Term) → TermHere table S t → TermHere table S u → PredHere table S (member o t u)
  unfolding pred_table holds height_pred is_member
  member-here o t u T U b e f s st l h =
      let d = sound-member S.Γ S.k o t u s in
      let a : List ℕ = term_table t S.Γ S.W (bound_slot S.k) b in
      let c = two-parts table b e a (term_table u S.Γ S.W (bound_slot S.k) (b + length a)) 20 (b + length a) (code_of (membership_kind o)) 0 st in
      let k = member-codes S.ρ (type_in S.Γ t) (type_in S.Γ u) (value t S.ρ) (value u S.ρ) d.2 (term-typed S t d.0) (term-typed S u d.1) in
      let m = c.before in
      truth-node table (max (height_term t) (height_term u)) e S.σ f (holds (member o t u) S.ρ) h (record { some = c.last.some; within = l })
      (λ g i. member-node (λ j τ x. TermIs g table j τ x) (λ j τ y. TruthIs g table j τ y) (λ j τ x. ItemsIs g table j τ x) table e S.σ (b + length a) _ 0 c.last _
      (value t S.ρ).code (value u S.ρ).code m (T b (b + length a) g d.0 c.first (omega arith) (omega arith))
      (U (b + length a) (e - 4) g d.1 c.second (omega arith) (omega arith)) k.0 k.1
      (memberships-agree o (is_member (value t S.ρ) (value u S.ρ))))

  pub within-here : (o : Membership) (t : Term) (r : Range) → TermHere table S t → PredHere table S (within o t r)
  unfolding pred_table holds height_pred domain_table
  within-here o t r T b e f s st l h =
      let d = sound-within S.Γ S.k o t r s in
      let n : ℕ = end_number r.upper + 1 - end_number r.lower in
      let c = bounded-part table b e (term_table t S.Γ S.W (bound_slot S.k) b) 13 0 (end_number r.lower) n 21 0 (code_of (membership_kind o)) 0 st in
      truth-node table (height_term t) e S.σ f (holds (within o t r) S.ρ) h (record { some = c.last.some; within = l })
      (λ g i. range-node (λ j τ x. TermIs g table j τ x) (λ j τ y. TruthIs g table j τ y) (λ j τ x. ItemsIs g table j τ x) table e S.σ 0 _ 0
      13 0 (end_number r.lower) n c.over c.last _ (value t S.ρ).code c.room (T b (e - 8) g d.0 c.part (omega arith) i)
      (memberships-agree o _ ∙ ap (by.asked (eqb (code_of (membership_kind o)) 56)) (ranges-agree r (value t S.ρ) d.1 d.2)))

  pub related-here : (o : Membership) (t u v : Term) → TermHere table S t → TermHere table S u → TermHere table S v → PredHere table S (related o t u v)
  unfolding pred_table holds height_pred is_pair_of pair_bit
  related-here o t u v T U V₁ b e f s st l h =
      let d = sound-related S.Γ S.k o t u v s in
      let a : List ℕ = term_table t S.Γ S.W (bound_slot S.k) b in
      let a₁ : List ℕ = term_table u S.Γ S.W (bound_slot S.k) (b + length a) in
      let c = three-parts table b e a a₁ (term_table v S.Γ S.W (bound_slot S.k) (b + length a + length a₁)) (related_shape o) (b + length a) (element_size S.Γ u)
      (b + length a + length a₁) st in
      let υ = term-typed S u d.1 in
      let k = related-codes S.ρ (type_in S.Γ t) (type_in S.Γ u) (type_in S.Γ v) (value t S.ρ) (value u S.ρ) (value v S.ρ) d.3
      (term-typed S t d.0) υ (term-typed S v d.2) in
      let z : element_size S.Γ u ≡ (value u S.ρ).first = element-agrees S.Γ S.ρ S.held.carried u (value u S.ρ) (second-element (type_in S.Γ t) (type_in S.Γ u) (type_in S.Γ v) d.3) υ in
      let m = c.before in
      let n = c.between in
      truth-node table (max (max (height_term t) (height_term u)) (height_term v)) e S.σ f (holds (related o t u v) S.ρ) h (record { some = c.last.some; within = l })
      (λ g i. related-node (λ j τ x. TermIs g table j τ x) (λ j τ y. TruthIs g table j τ y) table e S.σ (b + length a) (element_size S.Γ u) (b + length a + length a₁) _
      (value t S.ρ).code (value u S.ρ).code (value v S.ρ).code o c.last m n
      (T b (b + length a) g d.0 c.first (omega arith) (omega arith))
      (U (b + length a) (b + length a + length a₁) g d.1 c.second (omega arith) (omega arith))
      (V₁ (b + length a + length a₁) (e - 4) g d.2 c.third (omega arith) (omega arith))
      (subst (λ (w : ℕ). Pair w (value t S.ρ).code (value u S.ρ).code) (sym z) k.pair) k.set
      (relations-agree o _
      ∙ ap (λ (w : ℕ). by.asked (eqb (related_shape o) 22) (sets.has (natural (value v S.ρ).code) (natural (pair_code w (value t S.ρ).code (value u S.ρ).code)))) (sym z)))

  pub quantified-here : (q : Quantifier) (x : Letters) (d : Domain) (r : Pred) → ((s : Setting) → PredHere table s r) → PredHere table S (quantified q x d r)
  unfolding pred_table holds height_pred
  quantified-here q x d r R b e f s st l h =
      let y = sound-quantified S.Γ S.k q x d r s in
      let n = domain-node S.Γ S.ρ d y.place S.held.carried y.known y.ends in
      let a : List ℕ = pred_table r (binding S.Γ x (domain_carrier S.Γ d)) ((plain x, bound_slot S.k) ∷ S.W) (next_slot (bound_slot S.k)) b in
      let c = bounded-part table b e a 13 0 n.low n.count 24 0 (bound_slot S.k) (code_of (quantifier_kind q))
      (subst (λ (w : List ℕ). Stands table b e (a ++ (w ++ node 24 0 (bound_slot S.k) (code_of (quantifier_kind q))))) n.table st) in
      truth-node table (height_pred r) e S.σ f (holds (quantified q x d r) S.ρ) h (record { some = c.last.some; within = l })
      (λ g i. quantifier-node (λ j τ z. TermIs g table j τ z) (λ j τ z. TruthIs g table j τ z) (λ j τ z. ItemsIs g table j τ z) table e S.σ 0 (bound_slot S.k) _
      13 0 n.low n.count c.over c.last _ (λ k. holds r (with S.ρ x (n.at k))) c.room
      (bound-each table S x d r R y n b (e - 8) g c.part (omega arith) i)
      (ap (quantify q (λ (v : Value). holds r (with S.ρ x v))) n.values ∙ quantifiers-agree (λ (v : Value). holds r (with S.ρ x v)) n.at q n.count))
