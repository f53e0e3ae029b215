-- The items and pairs of a brace: the nodes that stand for them give the set of them, if those of the parts give their values.
use mathlib.Core.Path.{◌≡◌, refl, sym, ap, subst}
use mathlib.Core.List.{List}
use Prim.Native.Nat.{ℕ, ◌+◌, ◌-◌, ◌<◌, max}
use native.Mathlib.Omega.{arith}
use lib.ListN.{length}
use lib.IntN.{ℤ, pos}
use Rattle.table_places.specs.FormTree.{Term, Items, only, also, Pairs, only_pair, also_pair}
use Rattle.sets.specs.Sets as sets
use Rattle.sets.proofs.Members.{set_below}
use Rattle.value_types.specs.MeaningValues.{natural, operator_value, singleton, single_pair, pair_bit}
use Rattle.value_types.specs.MeaningMeaning.{value, items_value, pairs_value}
use Rattle.value_types.proofs.SetBounds.{single-below}
use Rattle.value_types.proofs.TypedOperations.{pair_typed}
use Rattle.table_places.specs.ResolvedTable.{type_in, element_size, term_table, items_table, pairs_table}
use Rattle.evaluation.specs.OperatorsByNumber.{IsBits}
use Rattle.evaluation.specs.EvaluationByNumber.{Pair, pair_code, TermIs, ItemsIs, TruthIs}
use Rattle.evaluation.specs.SlotValues.{bound_slot}
use Rattle.evaluation.specs.Heights.{height_term, height_items, height_pairs}
use Rattle.evaluation.proofs.StandingNodes.{one-part, two-parts, three-parts}
use Rattle.evaluation.proofs.NodeValues.{items-node, last-item, more-items, last-pair, more-pairs}
use Rattle.evaluation.proofs.TypedCodes.{element-code, pair-of, element-agrees}
use Rattle.evaluation.proofs.SoundTrees.{TwoElements, sound-only, sound-also, sound-only-pair, sound-also-pair}
use Rattle.evaluation.proofs.Settings.{Setting, TermHere, ItemsHere, PairsHere, term-typed}

single-bits : (k : ℕ) → k < 16 → IsBits (pos (sets.single k))
single-bits k h = record { natural_is = refl; low = single-below 16 k h }

union-bits : (a b : ℕ) → IsBits (pos (sets.union a b))
unfolding sets.union
union-bits a b = record { natural_is = refl; low = set_below 16 _ }

module _ (table : List ℕ) (S : Setting) where
  pub only_here : (t : Term) → TermHere table S t → ItemsHere table S (only t)
  unfolding term_table value height_term singleton
  only_here t T p e f s st l h =
      let r = sound-only S.Γ S.k t s in
      let c = one-part table p e (term_table t S.Γ S.W (bound_slot S.k) p) 9 0 0 0 st in
      let i = element-code S.ρ (type_in S.Γ t) (value t S.ρ) r.1 (term-typed S t r.0) in
      items-node table (height_term t) e S.σ f (items_value (only t) S.ρ).code h (record { some = c.last.some; within = l })
      (single-bits (natural (value t S.ρ).code) i.low)
      (λ g j. last-item (λ j τ x. TermIs g table j τ x) (λ j τ b. TruthIs g table j τ b) (λ j τ x. ItemsIs g table j τ x) table e S.σ 0 0 0 c.last _
      (value t S.ρ).code (T p (e - 4) g r.0 c.part (omega arith) j) i refl)

  pub also-here : (t : Term) (ts : Items) → TermHere table S t → ItemsHere table S ts → ItemsHere table S (also t ts)
  unfolding term_table value height_term singleton operator_value
  also-here t ts T I p e f s st l h =
      let r = sound-also S.Γ S.k t ts s in
      let a : List ℕ = term_table t S.Γ S.W (bound_slot S.k) p in
      let c = two-parts table p e a (items_table ts S.Γ S.W (bound_slot S.k) (p + length a)) 10 (p + length a) 0 0 st in
      let i = element-code S.ρ (type_in S.Γ t) (value t S.ρ) r.1 (term-typed S t r.0) in
      let m = c.before in
      items-node table (max (height_term t) (height_items ts)) e S.σ f (items_value (also t ts) S.ρ).code h (record { some = c.last.some; within = l })
      (union-bits _ _)
      (λ g j. more-items (λ j τ x. TermIs g table j τ x) (λ j τ b. TruthIs g table j τ b) (λ j τ x. ItemsIs g table j τ x) table e S.σ (p + length a) 0 0 c.last _
      (value t S.ρ).code (items_value ts S.ρ).code m (T p (p + length a) g r.0 c.first (omega arith) (omega arith))
      (I (p + length a) (e - 4) g r.2 c.second (omega arith) (omega arith)) i refl)

  -- what is known of a pair: its bit, by the size that the table has
  record PairKnown (t u : Term) : Type 0 where
    takes : Pair (element_size S.Γ u) (value t S.ρ).code (value u S.ρ).code
    bit_is : pair_bit (value t S.ρ) (value u S.ρ) ≡ natural (pair_code (element_size S.Γ u) (value t S.ρ).code (value u S.ρ).code)

  pair-known : (t u : Term) → TwoElements S.Γ S.k t u → PairKnown t u
  unfolding pair_bit
  pair-known t u s =
      let v = value t S.ρ in
      let w = value u S.ρ in
      let τ = term-typed S t s.left in
      let υ = term-typed S u s.right in
      let n : element_size S.Γ u ≡ (value u S.ρ).first = element-agrees S.Γ S.ρ S.held.carried u (value u S.ρ) s.second υ in
      let o =
      pair_typed S.ρ S.Γ S.held.carried (type_in S.Γ t) (type_in S.Γ u) v w s.brace s.first s.second τ υ s.over in
      record {
        takes =
            subst (λ (m : ℕ). Pair m (value t S.ρ).code (value u S.ρ).code) (sym n)
            (pair-of S.ρ (type_in S.Γ t) (type_in S.Γ u) v w (single_pair v w) s.first s.second τ υ o);
        bit_is = ap (λ (m : ℕ). sets.pair m (natural (value t S.ρ).code) (natural (value u S.ρ).code)) (sym n);
      }

  pub only-pair-here : (t u : Term) → TermHere table S t → TermHere table S u → PairsHere table S (only_pair t u)
  unfolding term_table value height_term single_pair
  only-pair-here t u T U p e f s st l h =
      let r = sound-only-pair S.Γ S.k t u s in
      let a : List ℕ = term_table t S.Γ S.W (bound_slot S.k) p in
      let c = two-parts table p e a (term_table u S.Γ S.W (bound_slot S.k) (p + length a)) 11 (p + length a) (element_size S.Γ u) 0 st in
      let i = pair-known t u r in
      let m = c.before in
      let q : pos (sets.single (pair_bit (value t S.ρ) (value u S.ρ))) ≡ pos (sets.single (natural (pair_code (element_size S.Γ u) (value t S.ρ).code (value u S.ρ).code))) =
      ap (λ (k : ℕ). pos (sets.single k)) i.bit_is in
      items-node table (max (height_term t) (height_term u)) e S.σ f (pairs_value (only_pair t u) S.ρ).code h (record { some = c.last.some; within = l })
      (subst (λ (x : ℤ). IsBits x) (sym q) (single-bits _ i.takes.low.low))
      (λ g j. last-pair (λ j τ x. TermIs g table j τ x) (λ j τ b. TruthIs g table j τ b) (λ j τ x. ItemsIs g table j τ x) table e S.σ (p + length a) (element_size S.Γ u) 0 c.last _
      (value t S.ρ).code (value u S.ρ).code m (T p (p + length a) g r.left c.first (omega arith) (omega arith))
      (U (p + length a) (e - 4) g r.right c.second (omega arith) (omega arith)) i.takes q)

  pub also-pair-here : (t u : Term) (ts : Pairs) → TermHere table S t → TermHere table S u → PairsHere table S ts → PairsHere table S (also_pair t u ts)
  unfolding term_table value height_term single_pair operator_value
  also-pair-here t u ts T U I p e f s st l h =
      let r = sound-also-pair S.Γ S.k t u ts s in
      let a : List ℕ = term_table t S.Γ S.W (bound_slot S.k) p in
      let b : List ℕ = term_table u S.Γ S.W (bound_slot S.k) (p + length a) in
      let c = three-parts table p e a b (pairs_table ts S.Γ S.W (bound_slot S.k) (p + length a + length b)) 12 (p + length a) (element_size S.Γ u) (p + length a + length b) st in
      let i = pair-known t u r.0 in
      let m = c.before in
      let n = c.between in
      items-node table (max (max (height_term t) (height_term u)) (height_pairs ts)) e S.σ f (pairs_value (also_pair t u ts) S.ρ).code h (record { some = c.last.some; within = l })
      (union-bits _ _)
      (λ g j. more-pairs (λ j τ x. TermIs g table j τ x) (λ j τ b. TruthIs g table j τ b) (λ j τ x. ItemsIs g table j τ x) table e S.σ (p + length a) (element_size S.Γ u)
      (p + length a + length b) c.last _ (value t S.ρ).code (value u S.ρ).code (pairs_value ts S.ρ).code m n
      (T p (p + length a) g r.0.left c.first (omega arith) (omega arith))
      (U (p + length a) (p + length a + length b) g r.0.right c.second (omega arith) (omega arith))
      (I (p + length a + length b) (e - 4) g r.1 c.third (omega arith) (omega arith)) i.takes
      (ap (λ (k : ℕ). pos (sets.union (sets.single k) (natural (pairs_value ts S.ρ).code))) i.bit_is))
