-- What the nodes up to e are worth, by the four numbers of the last one: one law for each shape, for any values of the parts. Assumes nothing.
use mathlib.Core.Path.{◌≡◌, sym, ap, ◌∙◌, subst}
use mathlib.Core.Bool.{Bool, not}
use mathlib.Core.List.{List}
use Prim.Native.Nat.{ℕ, zero, suc, ◌-◌, ◌<◌, ◌≤◌}
use native.Mathlib.Omega.{arith}
use lib.Dec.{eqb}
use lib.ListN.{get_or}
use lib.IntN.{ℤ, pos, ◌-ℤ◌}
use Rattle.sets.specs.Sets as sets
use Rattle.value_types.specs.MeaningValues.{natural}
use Rattle.table_places.specs.FormTree.{Membership, is_in, not_in}
use Rattle.table_places.specs.TableNodesTableByNumber.{related_shape}
use Rattle.evaluation.specs.OperatorsByNumber.{Small, IsPlace, IsBits, prefixed, PrefixTakes, divided, operated, OperatorTakes, compared, connected, asked, in_range}
use Rattle.evaluation.specs.EvaluationByNumber.{Values, second_at, end_at, low_at, count_at, Inside, Terms, Truths, Part, Bound, Pair, pair_code, TermNode, ItemsNode, TruthNode, AskedNode, quantified}
use Rattle.evaluation.specs.EvaluationByNumber.{RelatedNode}
use Rattle.evaluation.specs.EvaluationByNumber.{TermIs, ItemsIs, TruthIs}
use Rattle.evaluation.proofs.StandingNodes.{Node}

-- ---- one node more

module _ (t : List ℕ) (n : ℕ) (e : ℕ) (σ : Values) where
  pub term-node : (f : ℕ) (v : ℤ) → suc n ≤ f → Inside e → Small v
      → ((g : ℕ) → n ≤ g → TermNode (λ j τ x. TermIs g t j τ x) (λ j τ b. TruthIs g t j τ b) (λ j τ x. ItemsIs g t j τ x) t e σ v) → TermIs f t e σ v
  unfolding TermIs
  term-node zero v h i s k = absurd (omega arith)
  term-node (suc f) v h i s k = (i, s, k f (omega arith))

  pub items-node : (f : ℕ) (v : ℤ) → suc n ≤ f → Inside e → IsBits v
      → ((g : ℕ) → n ≤ g → ItemsNode (λ j τ x. TermIs g t j τ x) (λ j τ x. ItemsIs g t j τ x) t e σ v) → ItemsIs f t e σ v
  unfolding TermIs
  items-node zero v h i s k = absurd (omega arith)
  items-node (suc f) v h i s k = (i, s, k f (omega arith))

  pub truth-node : (f : ℕ) (b : Bool) → suc n ≤ f → Inside e
      → ((g : ℕ) → n ≤ g → TruthNode (λ j τ x. TermIs g t j τ x) (λ j τ c. TruthIs g t j τ c) t e σ b) → TruthIs f t e σ b
  unfolding TermIs
  truth-node zero b h i k = absurd (omega arith)
  truth-node (suc f) b h i k = (i, k f (omega arith))

module _ (T : Terms) (P : Truths) (I : Terms) (t : List ℕ) (e : ℕ) (σ : Values) (i x y : ℕ) where
  part_at : (j k : ℕ) (v : ℤ) → k ≡ j → j < e → T j σ v → Part T e k σ v
  part_at j k v q h p = subst (λ (m : ℕ). Part T e m σ v) (sym q) (h, p)

  -- ---- terms

  pub number-node : Node t e 1 i x y → (v : ℤ) → v ≡ pos x → TermNode T P I t e σ v
  unfolding TermNode
  number-node n v q = rw (TermNode, n.shape_is) (q ∙ ap pos (sym n.first_is))

  pub slot-node : Node t e 2 i x y → (v : ℤ) → x < 64 → v ≡ get_or σ x (pos 0) → TermNode T P I t e σ v
  unfolding TermNode
  slot-node n v h q =
      rw (TermNode, n.shape_is) (subst (λ (k : ℕ). k < 64) (sym n.first_is) h, q ∙ ap (λ (k : ℕ). get_or σ k (pos 0)) (sym n.first_is))

  pub prefix-node : Node t e 3 i x y → (v u : ℤ) → T (e - 4) σ u → PrefixTakes x u → v ≡ prefixed x i y u → TermNode T P I t e σ v
  unfolding TermNode
  prefix-node n v u p h q =
      rw (TermNode, n.shape_is) (record {
        operand = u;
        part = p;
        takes = subst (λ (k : ℕ). PrefixTakes k u) (sym n.first_is) h;
        is = q ∙ (λ j. prefixed (sym n.first_is j) (sym n.end_is j) (sym n.second_is j) u);
      })

  pub division-node : Node t e 4 i x y → (v u : ℤ) → T (e - 4) σ u → Small u → v ≡ divided x y u → TermNode T P I t e σ v
  unfolding TermNode
  division-node n v u p h q =
      rw (TermNode, n.shape_is) (record { operand = u; part = p; takes = h; is = q ∙ (λ j. divided (sym n.first_is j) (sym n.second_is j) u) })

  pub operator-node : Node t e 5 i x y → (v u w : ℤ) → i < e → T i σ u → T (e - 4) σ w → OperatorTakes x u w → v ≡ operated x u w → TermNode T P I t e σ v
  unfolding TermNode
  operator-node n v u w l p r h q =
      rw (TermNode, n.shape_is) (record {
        left = u;
        right = w;
        left_part = part_at i (end_at t e) u n.end_is l p;
        right_part = r;
        takes = subst (λ (k : ℕ). OperatorTakes k u w) (sym n.first_is) h;
        is = q ∙ ap (λ (k : ℕ). operated k u w) (sym n.first_is);
      })

  -- the node of what is bound over stands before the binder's
  pub such-node : (m j z w : ℕ) → Node t (e - 4) m j z w → Node t e 6 i x y → (v : ℤ) (g : ℕ → Bool) → 8 ≤ e → w ≤ 16
      → Bound P (e - 8) x (pos 0) w σ g → v ≡ pos (sets.set_of w g) → TermNode T P I t e σ v
  unfolding TermNode
  such-node m j z w o n v g h l b q =
      rw (TermNode, n.shape_is) (record {
        test = g;
        room = h;
        few = subst (λ (k : ℕ). k ≤ 16) (sym o.second_is) l;
        bound = subst (λ (k : ℕ). Bound P (e - 8) k (pos 0) (count_at t (e - 4)) σ g) (sym n.first_is) (subst (λ (k : ℕ). Bound P (e - 8) x (pos 0) k σ g) (sym o.second_is) b);
        is = q ∙ ap (λ (k : ℕ). pos (sets.set_of k g)) (sym o.second_is);
      })

  pub items-brace : Node t e 7 i x y → (v : ℤ) → I (e - 4) σ v → TermNode T P I t e σ v
  unfolding TermNode
  items-brace n v p = rw (TermNode, n.shape_is) p

  pub pairs-brace : Node t e 8 i x y → (v : ℤ) → I (e - 4) σ v → TermNode T P I t e σ v
  unfolding TermNode
  pairs-brace n v p = rw (TermNode, n.shape_is) p

  -- ---- the items of a brace

  pub last-item : Node t e 9 i x y → (v u : ℤ) → T (e - 4) σ u → IsPlace u → v ≡ pos (sets.single (natural u)) → ItemsNode T I t e σ v
  unfolding ItemsNode
  last-item n v u p h q = rw (ItemsNode, n.shape_is) (record { item = u; part = p; takes = h; is = q })

  pub more-items : Node t e 10 i x y → (v u w : ℤ) → i < e → T i σ u → I (e - 4) σ w → IsPlace u
      → v ≡ pos (sets.union (sets.single (natural u)) (natural w)) → ItemsNode T I t e σ v
  unfolding ItemsNode
  more-items n v u w l p r h q =
      rw (ItemsNode, n.shape_is) (record { item = u; others = w; part = part_at i (end_at t e) u n.end_is l p; rest = r; takes = h; is = q })

  pub last-pair : Node t e 11 i x y → (v u w : ℤ) → i < e → T i σ u → T (e - 4) σ w → Pair x u w
      → v ≡ pos (sets.single (natural (pair_code x u w))) → ItemsNode T I t e σ v
  unfolding ItemsNode
  last-pair n v u w l p r h q =
      rw (ItemsNode, n.shape_is) (record {
        left = u;
        right = w;
        left_part = part_at i (end_at t e) u n.end_is l p;
        right_part = r;
        takes = subst (λ (k : ℕ). Pair k u w) (sym n.first_is) h;
        is = q ∙ ap (λ (k : ℕ). pos (sets.single (natural (pair_code k u w)))) (sym n.first_is);
      })

  pub more-pairs : Node t e 12 i x y → (v u w r : ℤ) → i < e → y < e → T i σ u → T y σ w → I (e - 4) σ r → Pair x u w
      → v ≡ pos (sets.union (sets.single (natural (pair_code x u w))) (natural r)) → ItemsNode T I t e σ v
  unfolding ItemsNode
  more-pairs n v u w r l m p s o h q =
      rw (ItemsNode, n.shape_is) (record {
        left = u;
        right = w;
        others = r;
        left_part = part_at i (end_at t e) u n.end_is l p;
        right_part = part_at y (second_at t e) w n.second_is m s;
        rest = o;
        takes = subst (λ (k : ℕ). Pair k u w) (sym n.first_is) h;
        is = q ∙ ap (λ (k : ℕ). pos (sets.union (sets.single (natural (pair_code k u w))) (natural r))) (sym n.first_is);
      })

  -- ---- predicates

  pub truth-value : Node t e 16 i x y → (b : Bool) → b ≡ eqb x 1 → TruthNode T P t e σ b
  unfolding TruthNode
  truth-value n b q = rw (TruthNode, n.shape_is) (q ∙ ap (λ (k : ℕ). eqb k 1) (sym n.first_is))

  pub negation-node : Node t e 17 i x y → (b c : Bool) → P (e - 4) σ c → b ≡ not c → TruthNode T P t e σ b
  unfolding TruthNode
  negation-node n b c p q = rw (TruthNode, n.shape_is) (c, p, q)

  pub connective-node : Node t e 18 i x y → (b c d : Bool) → i < e → P i σ c → P (e - 4) σ d → b ≡ connected x c d → TruthNode T P t e σ b
  unfolding TruthNode
  connective-node n b c d l p r q =
      rw (TruthNode, n.shape_is) (record {
        left = c;
        right = d;
        before = subst (λ (k : ℕ). k < e) (sym n.end_is) l;
        left_part = subst (λ (k : ℕ). P k σ c) (sym n.end_is) p;
        right_part = r;
        is = q ∙ ap (λ (k : ℕ). connected k c d) (sym n.first_is);
      })

  pub comparison-node : Node t e 19 i x y → (b : Bool) (u w : ℤ) → i < e → T i σ u → T (e - 4) σ w → b ≡ compared x u w → TruthNode T P t e σ b
  unfolding TruthNode
  comparison-node n b u w l p r q =
      rw (TruthNode, n.shape_is) (record {
        left = u;
        right = w;
        left_part = part_at i (end_at t e) u n.end_is l p;
        right_part = r;
        is = q ∙ ap (λ (k : ℕ). compared k u w) (sym n.first_is);
      })

  pub member-node : Node t e 20 i x y → (b : Bool) (u w : ℤ) → i < e → T i σ u → T (e - 4) σ w → IsPlace u → IsBits w
      → b ≡ asked (eqb x 56) (sets.has (natural w) (natural u)) → TruthNode T P t e σ b
  unfolding TruthNode AskedNode
  member-node n b u w l p r h k q =
      rw (TruthNode, n.shape_is) (record {
        left = u;
        right = w;
        left_part = part_at i (end_at t e) u n.end_is l p;
        right_part = r;
        place = h;
        set = k;
        is = q ∙ ap (λ (m : ℕ). asked (eqb m 56) (sets.has (natural w) (natural u))) (sym n.first_is);
      })

  pub range-node : (m j z w : ℕ) → Node t (e - 4) m j z w → Node t e 21 i x y → (b : Bool) (u : ℤ) → 8 ≤ e → T (e - 8) σ u
      → b ≡ asked (eqb x 56) (in_range (pos z -ℤ pos 1000) w u) → TruthNode T P t e σ b
  unfolding TruthNode AskedNode
  range-node m j z w o n b u h p q =
      rw (TruthNode, n.shape_is) (record {
        left = u;
        room = h;
        part = p;
        is = q ∙ (λ a. asked (eqb (sym n.first_is a) 56) (in_range (pos (sym o.first_is a) -ℤ pos 1000) (sym o.second_is a) u));
      })

  pub quantifier-node : (m j z w : ℕ) → Node t (e - 4) m j z w → Node t e 24 i x y → (b : Bool) (g : ℕ → Bool) → 8 ≤ e
      → Bound P (e - 8) x (pos z -ℤ pos 1000) w σ g → b ≡ quantified y w g → TruthNode T P t e σ b
  unfolding TruthNode
  quantifier-node m j z w o n b g h k q =
      rw (TruthNode, n.shape_is) (record {
        test = g;
        room = h;
        bound =
            subst (λ (a : ℕ). Bound P (e - 8) a (low_at t (e - 4)) (count_at t (e - 4)) σ g) (sym n.first_is)
            (subst (λ (a : ℕ). Bound P (e - 8) x (pos a -ℤ pos 1000) (count_at t (e - 4)) σ g) (sym o.first_is)
            (subst (λ (a : ℕ). Bound P (e - 8) x (pos z -ℤ pos 1000) a σ g) (sym o.second_is) k));
        is = q ∙ (λ a. quantified (sym n.second_is a) (sym o.second_is a) g);
      })

-- the two shapes of a question about a pair
module _ (T : Terms) (P : Truths) (t : List ℕ) (e : ℕ) (σ : Values) (i x y : ℕ) (b : Bool) (u v w : ℤ) where
  related : (s : ℕ) → Node t e s i x y → i < e → y < e → T i σ u → T y σ v → T (e - 4) σ w → Pair x u v → IsBits w
      → b ≡ asked (eqb s 22) (sets.has (natural w) (natural (pair_code x u v))) → RelatedNode T t e σ b
  related s n l m p r o h k q =
      record {
        left = u;
        middle = v;
        right = w;
        left_part = subst (λ (a : ℕ). Part T e a σ u) (sym n.end_is) (l, p);
        middle_part = subst (λ (a : ℕ). Part T e a σ v) (sym n.second_is) (m, r);
        right_part = o;
        takes = subst (λ (a : ℕ). Pair a u v) (sym n.first_is) h;
        set = k;
        is = q ∙ (λ a. asked (eqb (sym n.shape_is a) 22) (sets.has (natural w) (natural (pair_code (sym n.first_is a) u v))));
      }

  pub related-node : (o : Membership) → Node t e (related_shape o) i x y → i < e → y < e → T i σ u → T y σ v → T (e - 4) σ w → Pair x u v → IsBits w
      → b ≡ asked (eqb (related_shape o) 22) (sets.has (natural w) (natural (pair_code x u v))) → TruthNode T P t e σ b
  unfolding TruthNode AskedNode
  related-node is_in n l m p r o h k q = rw (TruthNode, n.shape_is) (related 22 n l m p r o h k q)
  related-node not_in n l m p r o h k q = rw (TruthNode, n.shape_is) (related 23 n l m p r o h k q)
