-- Terms: the nodes that stand for one give its value, if those of its parts give theirs. One law for each kind of term.
use mathlib.Core.Path.{◌≡◌, refl, sym, ap, subst}
use mathlib.Core.List.{List, ◌∷◌}
use Prim.Native.Nat.{ℕ, ◌+◌, ◌-◌, ◌≤◌, max}
use native.Mathlib.Omega.{arith}
use lib.ListN.{length}
use lib.IntN.{pos}
use Rattle.lexical.specs.Kinds.{code_of}
use Rattle.lexical.specs.Symbols.{Name}
use Rattle.table_places.specs.FormTree.{Letters, End, given_set, Prefix, Operator, Division}
use Rattle.table_places.specs.FormTree.{Term, number, name, group, prefix, binary, divided, listed, pairs, such, empty_set, empty_pairs, Items, Pairs, Pred}
use Rattle.table_places.specs.FormWritten.{prefix_kind, operator_kind}
use Rattle.table_places.specs.FormCodes.{node, sign_of, division_number}
use Rattle.value_types.specs.StaticRulesCarriers.{plain}
use Rattle.value_types.specs.StaticRulesScope.{binding}
use Rattle.value_types.specs.StaticRulesNames.{domain_carrier}
use Rattle.sets.specs.Sets as sets
use Rattle.value_types.specs.MeaningValues as val
use Rattle.value_types.specs.MeaningMeaning.{with, size_of_given, value, holds}
use Rattle.table_places.specs.NodeSpansSpans.{Stands}
use Rattle.table_places.specs.TableNodesTableByNumber.{next_slot}
use Rattle.table_places.specs.ResolvedTable.{side_size, domain_table, term_table, items_table, pairs_table, pred_table, given_size}
use Rattle.evaluation.specs.EvaluationByNumber.{TermIs, ItemsIs, TruthIs}
use Rattle.evaluation.specs.SlotValues.{bound_slot}
use Rattle.evaluation.specs.Heights.{height_term, height_items, height_pairs, height_pred}
use Rattle.evaluation.proofs.OperatorsAgree.{operators-agree, divisions_agree}
use Rattle.evaluation.proofs.StandingNodes.{node_at, one-part, two-parts, bounded-part}
use Rattle.evaluation.proofs.SlotNames.{Named, slot, place, name-found}
use Rattle.evaluation.proofs.NodeValues.{term-node, number-node, slot-node, prefix-node, division-node, operator-node, such-node, items-brace, pairs-brace}
use Rattle.evaluation.proofs.TypedCodes.{prefix-takes, operator-takes, prefixes_agree, given-agrees}
use Rattle.evaluation.proofs.SoundTrees.{SoundTerm, sound-group, sound-prefix, sound-binary, sound-divided, sound-listed, sound-pairs, sound-such}
use Rattle.evaluation.proofs.DomainNodes.{given_node, given-few}
use Rattle.evaluation.proofs.Settings.{Setting, TermHere, ItemsHere, PairsHere, PredHere, term-typed, term-small, bound-each}

module _ (table : List ℕ) (S : Setting) where
  -- a node of the shape 1
  constant : (t : Term) (n p e f : ℕ) → SoundTerm t S.Γ S.k → Stands table p e (node 1 0 n 0) → e ≤ 16384 → 1 ≤ f → (value t S.ρ).code ≡ pos n
      → TermIs f table e S.σ (value t S.ρ).code
  constant t n p e f s st l h q =
      let nd = node_at table p e 1 0 n 0 st in
      term-node table 0 e S.σ f (value t S.ρ).code h (record { some = nd.some; within = l }) (term-small S t s)
      (λ g i. number-node (λ j τ x. TermIs g table j τ x) (λ j τ b. TruthIs g table j τ b) (λ j τ x. ItemsIs g table j τ x) table e S.σ 0 n 0 nd (value t S.ρ).code q)

  pub number-here : (n : ℕ) → TermHere table S (number n)
  unfolding term_table value height_term
  number-here n p e f s st l h = constant (number n) n p e f s st l h refl

  pub empty-set-here : (g : Name) → TermHere table S (empty_set g)
  unfolding term_table value height_term
  empty-set-here g p e f s st l h = constant (empty_set g) 0 p e f s st l h refl

  pub empty-pairs-here : (g h : Name) → TermHere table S (empty_pairs g h)
  unfolding term_table value height_term
  empty-pairs-here g k p e f s st l h = constant (empty_pairs g k) 0 p e f s st l h refl

  pub name-here : (x : Name) → TermHere table S (name x)
  unfolding term_table value height_term
  name-here x p e f s st l h = go (name-found S.Γ S.W S.k S.ρ S.σ x S.held)
    where
      go : Named S.Γ S.W S.ρ S.σ x → TermIs f table e S.σ (value (name x) S.ρ).code
      go (slot n q i v) =
          let nd = node_at table p e 2 0 n 0 (subst (λ (c : List ℕ). Stands table p e c) q st) in
          term-node table 0 e S.σ f (value (name x) S.ρ).code h (record { some = nd.some; within = l }) (term-small S (name x) s)
          (λ g m. slot-node (λ j τ y. TermIs g table j τ y) (λ j τ b. TruthIs g table j τ b) (λ j τ y. ItemsIs g table j τ y) table e S.σ 0 n 0 nd
          (value (name x) S.ρ).code i v)
      go (place n q v) = constant (name x) n p e f s (subst (λ (c : List ℕ). Stands table p e c) q st) l h v

  pub group-here : (t : Term) → TermHere table S t → TermHere table S (group t)
  unfolding term_table value height_term
  group-here t T p e f s st l h = T p e f (sound-group S.Γ S.k t s) st l h

  pub prefix_here : (o : Prefix) (t : Term) → TermHere table S t → TermHere table S (prefix o t)
  unfolding term_table value height_term
  prefix_here o t T p e f s st l h =
      let r = sound-prefix S.Γ S.k o t s in
      let c = one-part table p e (term_table t S.Γ S.W (bound_slot S.k) p) 3 (side_size 0 S.Γ t) (code_of (prefix_kind o)) (side_size 1 S.Γ t) st in
      let τ = term-typed S t r.0 in
      term-node table (height_term t) e S.σ f (value (prefix o t) S.ρ).code h (record { some = c.last.some; within = l }) (term-small S (prefix o t) s)
      (λ g i. prefix-node (λ j τ x. TermIs g table j τ x) (λ j τ b. TruthIs g table j τ b) (λ j τ x. ItemsIs g table j τ x) table e S.σ _ _ _ c.last _
      (value t S.ρ).code (T p (e - 4) g r.0 c.part (omega arith) i)
      (prefix-takes S.ρ o _ (value t S.ρ) r.1 τ (term-small S t r.0))
      (prefixes_agree S.Γ S.ρ S.held.carried o t (value t S.ρ) r.1 τ))

  pub divided-here : (o : Division) (t : Term) (d : End) → TermHere table S t → TermHere table S (divided o t d)
  unfolding term_table value height_term
  divided-here o t d T p e f s st l h =
      let r = sound-divided S.Γ S.k o t d s in
      let c = one-part table p e (term_table t S.Γ S.W (bound_slot S.k) p) 4 0 d.magnitude (sign_of d.negative + division_number o) st in
      term-node table (height_term t) e S.σ f (value (divided o t d) S.ρ).code h (record { some = c.last.some; within = l }) (term-small S (divided o t d) s)
      (λ g i. division-node (λ j τ x. TermIs g table j τ x) (λ j τ b. TruthIs g table j τ b) (λ j τ x. ItemsIs g table j τ x) table e S.σ _ _ _ c.last _
      (value t S.ρ).code (T p (e - 4) g r c.part (omega arith) i) (term-small S t r) (divisions_agree o (value t S.ρ) d))

  pub binary-here : (o : Operator) (t u : Term) → TermHere table S t → TermHere table S u → TermHere table S (binary o t u)
  unfolding term_table value height_term
  binary-here o t u T U p e f s st l h =
      let r = sound-binary S.Γ S.k o t u s in
      let a : List ℕ = term_table t S.Γ S.W (bound_slot S.k) p in
      let c = two-parts table p e a (term_table u S.Γ S.W (bound_slot S.k) (p + length a)) 5 (p + length a) (code_of (operator_kind o)) 0 st in
      let m = c.before in
      term-node table (max (height_term t) (height_term u)) e S.σ f (value (binary o t u) S.ρ).code h (record { some = c.last.some; within = l }) (term-small S (binary o t u) s)
      (λ g i. operator-node (λ j τ x. TermIs g table j τ x) (λ j τ b. TruthIs g table j τ b) (λ j τ x. ItemsIs g table j τ x) table e S.σ _ _ _ c.last _
      (value t S.ρ).code (value u S.ρ).code m (T p (p + length a) g r.0 c.first (omega arith) (omega arith))
      (U (p + length a) (e - 4) g r.1 c.second (omega arith) (omega arith))
      (operator-takes S.ρ o _ _ (value t S.ρ) (value u S.ρ) r.2 (term-typed S t r.0) (term-typed S u r.1) (term-small S t r.0) (term-small S u r.1))
      (operators-agree o (value t S.ρ) (value u S.ρ)))

  pub listed_here : (ts : Items) → ItemsHere table S ts → TermHere table S (listed ts)
  unfolding term_table value height_term
  listed_here ts I p e f s st l h =
      let c = one-part table p e (items_table ts S.Γ S.W (bound_slot S.k) p) 7 0 0 0 st in
      term-node table (height_items ts) e S.σ f (value (listed ts) S.ρ).code h (record { some = c.last.some; within = l }) (term-small S (listed ts) s)
      (λ g i. items-brace (λ j τ x. TermIs g table j τ x) (λ j τ b. TruthIs g table j τ b) (λ j τ x. ItemsIs g table j τ x) table e S.σ 0 0 0 c.last _
      (I p (e - 4) g (sound-listed S.Γ S.k ts s) c.part (omega arith) i))

  pub pairs-here : (ts : Pairs) → PairsHere table S ts → TermHere table S (pairs ts)
  unfolding term_table value height_term
  pairs-here ts I p e f s st l h =
      let c = one-part table p e (pairs_table ts S.Γ S.W (bound_slot S.k) p) 8 0 0 0 st in
      term-node table (height_pairs ts) e S.σ f (value (pairs ts) S.ρ).code h (record { some = c.last.some; within = l }) (term-small S (pairs ts) s)
      (λ g i. pairs-brace (λ j τ x. TermIs g table j τ x) (λ j τ b. TruthIs g table j τ b) (λ j τ x. ItemsIs g table j τ x) table e S.σ 0 0 0 c.last _
      (I p (e - 4) g (sound-pairs S.Γ S.k ts s) c.part (omega arith) i))

  pub such-here : (x : Letters) (g : Name) (q : Pred) → ((s : Setting) → PredHere table s q) → TermHere table S (such x g q)
  unfolding term_table domain_table value height_term given_node
  such-here x g q P p e f s st l h =
      let b = sound-such S.Γ S.k x g q s in
      let n = given_node S.Γ S.ρ g S.held.carried in
      let w : ℕ = given_size S.Γ.givens g in
      let c = bounded-part table p e
      (pred_table q (binding S.Γ x (domain_carrier S.Γ (given_set g))) ((plain x, bound_slot S.k) ∷ S.W) (next_slot (bound_slot S.k)) p)
      13 0 1000 w 6 0 (bound_slot S.k) 0 st in
      let a : w ≡ size_of_given S.ρ g = given-agrees S.Γ S.ρ S.held.carried g in
      term-node table (height_pred q) e S.σ f (value (such x g q) S.ρ).code h (record { some = c.last.some; within = l }) (term-small S (such x g q) s)
      (λ m i. such-node (λ j τ y. TermIs m table j τ y) (λ j τ y. TruthIs m table j τ y) (λ j τ y. ItemsIs m table j τ y) table e S.σ 0 (bound_slot S.k) 0
      13 0 1000 w c.over c.last _ (λ k. holds q (with S.ρ x (val.element (size_of_given S.ρ g) k))) c.room (given-few S.Γ g S.held.reach)
      (bound-each table S x (given_set g) q P b n p (e - 8) m c.part (omega arith) i)
      (ap (λ (k : ℕ). pos (sets.set_of k (λ j. holds q (with S.ρ x (val.element (size_of_given S.ρ g) j))))) (sym a)))
