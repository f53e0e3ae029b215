-- The evaluation of a table of nodes (table_places/specs/ResolvedTable) by numbers: what the nodes up to a place are worth with values in slots. Each is a
-- type: that the nodes up to e give the value v, with all that is met on the way being what the operators take. f bounds how deep the nodes are.
-- That the tables of the definitions give the values of the definitions is proofs/TablesEvaluate. Nothing here need be believed.
use Rattle.std.specs.Prelude.{◌≡◌, Bool, true, false, not, List, ℕ, zero, suc, ◌-◌, ◌<◌, ◌≤◌, eqb, get_or, set, ℤ, pos, ◌+ℤ◌, ◌-ℤ◌}
use Rattle.sets.specs.Sets as sets
use Rattle.value_types.specs.MeaningValues.{natural}
use Rattle.evaluation.specs.OperatorsByNumber.{pick, Small, IsPlace, IsBits, prefixed, PrefixTakes, divided, operated, OperatorTakes, compared, connected, asked, in_range}

-- the values of the slots
abbrev pub Values : Type 0
Values = List ℤ

-- the numbers of the node that ends at e
abbrev pub shape_at : List ℕ → ℕ → ℕ
shape_at t e = get_or t (e - 1) 0

abbrev pub end_at : List ℕ → ℕ → ℕ
end_at t e = get_or t (e - 2) 0

abbrev pub first_at : List ℕ → ℕ → ℕ
first_at t e = get_or t (e - 3) 0

abbrev pub second_at : List ℕ → ℕ → ℕ
second_at t e = get_or t (e - 4) 0

-- the first value of a domain's node, and how many it has
abbrev pub low_at : List ℕ → ℕ → ℤ
low_at t e = pos (get_or t (e - 3) 0) -ℤ pos 1000

abbrev pub count_at : List ℕ → ℕ → ℕ
count_at t e = get_or t (e - 4) 0

-- the nodes up to e are inside the table
pub record Inside (e : ℕ) : Type 0 where
  pub some : 4 ≤ e
  pub within : e ≤ 16384

-- what terms, items and predicates below give
abbrev pub Terms : Type 1
Terms = ℕ → Values → ℤ → Type 0

abbrev pub Truths : Type 1
Truths = ℕ → Values → Bool → Type 0

-- a part: where it ends, and what it gives
abbrev pub Part : Terms → (e end : ℕ) → Values → ℤ → Type 0
Part T e end ρ x = (end < e) × T end ρ x

-- the n values from low on in a slot: what the predicate up to `end` is with each
pub record Bound (P : Truths) (end slot : ℕ) (low : ℤ) (n : ℕ) (ρ : Values) (g : ℕ → Bool) : Type 0 where
  pub free : slot < 64
  pub each : (k : ℕ) → k < n → P end (set ρ slot (low +ℤ pos k)) (g k)

-- a pair's parts
pub record Pair (m : ℕ) (x y : ℤ) : Type 0 where
  pub first : IsPlace x
  pub second : IsPlace y
  pub low : IsPlace (pos (sets.pair m (natural x) (natural y)))

abbrev pub pair_code : (m : ℕ) (x y : ℤ) → ℤ
pair_code m x y = pos (sets.pair m (natural x) (natural y))

-- ---- terms: 1 a number; 2 a slot; 3 a prefix; 4 div and mod; 5 an operator; 6 {x : G | p}; 7 and 8 braces

pub record PrefixNode (T : Terms) (t : List ℕ) (e : ℕ) (ρ : Values) (v : ℤ) : Type 0 where
  pub operand : ℤ
  pub part : T (e - 4) ρ operand
  pub takes : PrefixTakes (first_at t e) operand
  pub is : v ≡ prefixed (first_at t e) (end_at t e) (second_at t e) operand

pub record DivisionNode (T : Terms) (t : List ℕ) (e : ℕ) (ρ : Values) (v : ℤ) : Type 0 where
  pub operand : ℤ
  pub part : T (e - 4) ρ operand
  pub takes : Small operand
  pub is : v ≡ divided (first_at t e) (second_at t e) operand

pub record OperatorNode (T : Terms) (t : List ℕ) (e : ℕ) (ρ : Values) (v : ℤ) : Type 0 where
  pub left : ℤ
  pub right : ℤ
  pub left_part : Part T e (end_at t e) ρ left
  pub right_part : T (e - 4) ρ right
  pub takes : OperatorTakes (first_at t e) left right
  pub is : v ≡ operated (first_at t e) left right

-- the node of what is bound over stands before that of the binder; the predicate ends before both
pub record SuchNode (P : Truths) (t : List ℕ) (e : ℕ) (ρ : Values) (v : ℤ) : Type 0 where
  pub test : ℕ → Bool
  pub room : 8 ≤ e
  pub few : count_at t (e - 4) ≤ 16
  pub bound : Bound P (e - 8) (first_at t e) (pos 0) (count_at t (e - 4)) ρ test
  pub is : v ≡ pos (sets.set_of (count_at t (e - 4)) test)

unfoldable pub TermNode : Terms → Truths → Terms → List ℕ → (e : ℕ) → Values → ℤ → Type 0
TermNode T P I t e ρ v =
    pick (eqb (shape_at t e) 1) (v ≡ pos (first_at t e))
    (pick (eqb (shape_at t e) 2) ((first_at t e < 64) × (v ≡ get_or ρ (first_at t e) (pos 0)))
    (pick (eqb (shape_at t e) 3) (PrefixNode T t e ρ v)
    (pick (eqb (shape_at t e) 4) (DivisionNode T t e ρ v)
    (pick (eqb (shape_at t e) 5) (OperatorNode T t e ρ v)
    (pick (eqb (shape_at t e) 6) (SuchNode P t e ρ v)
    (I (e - 4) ρ v))))))

-- ---- the items of a brace: 9 the last one, 10 another one and those behind it; pairs likewise, 11 and 12

pub record LastItem (T : Terms) (t : List ℕ) (e : ℕ) (ρ : Values) (v : ℤ) : Type 0 where
  pub item : ℤ
  pub part : T (e - 4) ρ item
  pub takes : IsPlace item
  pub is : v ≡ pos (sets.single (natural item))

pub record MoreItems (T I : Terms) (t : List ℕ) (e : ℕ) (ρ : Values) (v : ℤ) : Type 0 where
  pub item : ℤ
  pub others : ℤ
  pub part : Part T e (end_at t e) ρ item
  pub rest : I (e - 4) ρ others
  pub takes : IsPlace item
  pub is : v ≡ pos (sets.union (sets.single (natural item)) (natural others))

pub record LastPair (T : Terms) (t : List ℕ) (e : ℕ) (ρ : Values) (v : ℤ) : Type 0 where
  pub left : ℤ
  pub right : ℤ
  pub left_part : Part T e (end_at t e) ρ left
  pub right_part : T (e - 4) ρ right
  pub takes : Pair (first_at t e) left right
  pub is : v ≡ pos (sets.single (natural (pair_code (first_at t e) left right)))

pub record MorePairs (T I : Terms) (t : List ℕ) (e : ℕ) (ρ : Values) (v : ℤ) : Type 0 where
  pub left : ℤ
  pub right : ℤ
  pub others : ℤ
  pub left_part : Part T e (end_at t e) ρ left
  pub right_part : Part T e (second_at t e) ρ right
  pub rest : I (e - 4) ρ others
  pub takes : Pair (first_at t e) left right
  pub is : v ≡ pos (sets.union (sets.single (natural (pair_code (first_at t e) left right))) (natural others))

unfoldable pub ItemsNode : Terms → Terms → List ℕ → (e : ℕ) → Values → ℤ → Type 0
ItemsNode T I t e ρ v =
    pick (eqb (shape_at t e) 9) (LastItem T t e ρ v)
    (pick (eqb (shape_at t e) 10) (MoreItems T I t e ρ v)
    (pick (eqb (shape_at t e) 11) (LastPair T t e ρ v)
    (MorePairs T I t e ρ v)))

-- ---- predicates: 16 true and false; 17 not; 18 a connective; 19 a comparison; 20, 21, 22 in, 23 notin; 24 a quantifier

pub record ConnectiveNode (P : Truths) (t : List ℕ) (e : ℕ) (ρ : Values) (b : Bool) : Type 0 where
  pub left : Bool
  pub right : Bool
  pub before : end_at t e < e
  pub left_part : P (end_at t e) ρ left
  pub right_part : P (e - 4) ρ right
  pub is : b ≡ connected (first_at t e) left right

pub record ComparisonNode (T : Terms) (t : List ℕ) (e : ℕ) (ρ : Values) (b : Bool) : Type 0 where
  pub left : ℤ
  pub right : ℤ
  pub left_part : Part T e (end_at t e) ρ left
  pub right_part : T (e - 4) ρ right
  pub is : b ≡ compared (first_at t e) left right

pub record MemberNode (T : Terms) (t : List ℕ) (e : ℕ) (ρ : Values) (b : Bool) : Type 0 where
  pub left : ℤ
  pub right : ℤ
  pub left_part : Part T e (end_at t e) ρ left
  pub right_part : T (e - 4) ρ right
  pub place : IsPlace left
  pub set : IsBits right
  pub is : b ≡ asked (eqb (first_at t e) 56) (sets.has (natural right) (natural left))

pub record RangeNode (T : Terms) (t : List ℕ) (e : ℕ) (ρ : Values) (b : Bool) : Type 0 where
  pub left : ℤ
  pub room : 8 ≤ e
  pub part : T (e - 8) ρ left
  pub is : b ≡ asked (eqb (first_at t e) 56) (in_range (low_at t (e - 4)) (count_at t (e - 4)) left)

pub record RelatedNode (T : Terms) (t : List ℕ) (e : ℕ) (ρ : Values) (b : Bool) : Type 0 where
  pub left : ℤ
  pub middle : ℤ
  pub right : ℤ
  pub left_part : Part T e (end_at t e) ρ left
  pub middle_part : Part T e (second_at t e) ρ middle
  pub right_part : T (e - 4) ρ right
  pub takes : Pair (first_at t e) left middle
  pub set : IsBits right
  pub is : b ≡ asked (eqb (shape_at t e) 22) (sets.has (natural right) (natural (pair_code (first_at t e) left middle)))

unfoldable pub AskedNode : Terms → List ℕ → (e : ℕ) → Values → Bool → Type 0
AskedNode T t e ρ b =
    pick (eqb (shape_at t e) 20) (MemberNode T t e ρ b) (pick (eqb (shape_at t e) 21) (RangeNode T t e ρ b) (RelatedNode T t e ρ b))

-- 53 forall, 54 exists, and exists1, over the n numbers from 0 on
unfoldable pub quantified : (code n : ℕ) → (ℕ → Bool) → Bool
quantified code n g =
    elim (eqb code 53) [
      | true ↦ not (sets.some_from (λ k. not (g k)) 0 n)
      | false ↦ elim (eqb code 54) [ true ↦ sets.some_from g 0 n | false ↦ eqb (sets.count_from g 0 n) 1 ]
    ]

pub record QuantifierNode (P : Truths) (t : List ℕ) (e : ℕ) (ρ : Values) (b : Bool) : Type 0 where
  pub test : ℕ → Bool
  pub room : 8 ≤ e
  pub bound : Bound P (e - 8) (first_at t e) (low_at t (e - 4)) (count_at t (e - 4)) ρ test
  pub is : b ≡ quantified (second_at t e) (count_at t (e - 4)) test

unfoldable pub TruthNode : Terms → Truths → List ℕ → (e : ℕ) → Values → Bool → Type 0
TruthNode T P t e ρ b =
    pick (eqb (shape_at t e) 16) (b ≡ eqb (first_at t e) 1)
    (pick (eqb (shape_at t e) 17) ((p : Bool) × P (e - 4) ρ p × (b ≡ not p))
    (pick (eqb (shape_at t e) 18) (ConnectiveNode P t e ρ b)
    (pick (eqb (shape_at t e) 19) (ComparisonNode T t e ρ b)
    (pick (eqb (shape_at t e) 24) (QuantifierNode P t e ρ b)
    (AskedNode T t e ρ b)))))

-- ---- the nodes up to e give v: a term, the items of a brace, a predicate

unfoldable mutual
  pub TermIs : (f : ℕ) → List ℕ → Terms
  TermIs zero t e ρ v = ⊥
  TermIs (suc f) t e ρ v =
      Inside e × Small v × TermNode (λ j σ x. TermIs f t j σ x) (λ j σ b. TruthIs f t j σ b) (λ j σ x. ItemsIs f t j σ x) t e ρ v

  pub ItemsIs : (f : ℕ) → List ℕ → Terms
  ItemsIs zero t e ρ v = ⊥
  ItemsIs (suc f) t e ρ v = Inside e × IsBits v × ItemsNode (λ j σ x. TermIs f t j σ x) (λ j σ x. ItemsIs f t j σ x) t e ρ v

  pub TruthIs : (f : ℕ) → List ℕ → Truths
  TruthIs zero t e ρ b = ⊥
  TruthIs (suc f) t e ρ b = Inside e × TruthNode (λ j σ x. TermIs f t j σ x) (λ j σ c. TruthIs f t j σ c) t e ρ b
