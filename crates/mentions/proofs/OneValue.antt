-- One value: what nodes give, with the same values in slots, is always the same. Assumes nothing.
use mathlib.Core.Path.{◌≡◌, refl, sym, ap, ap₂, ◌∙◌}
use mathlib.Core.Bool.{Bool, true, false, not}
use mathlib.Core.List.{List}
use Prim.Native.Nat.{ℕ, zero, suc, ◌+◌, ◌-◌, ◌*◌, ◌<◌, ◌≤◌}
use native.Mathlib.Omega.{arith}
use lib.Dec.{eqb}
use lib.IntN.{ℤ, pos}
use Rattle.sets.specs.Sets as sets
use Rattle.evaluator.specs.MeaningValues.{natural}
use Rattle.evaluator.specs.EvaluationOperatorsByNumber.{pick, prefixed, divided, operated, compared, connected, asked, in_range}
use Rattle.evaluator.specs.EvaluationEvaluationByNumber.{Values, Terms, Truths, Bound, pair_code, shape_at, end_at, first_at, second_at, low_at, count_at, quantified}
use Rattle.evaluator.specs.EvaluationEvaluationByNumber.{TermNode, ItemsNode, AskedNode, TruthNode, TermIs, ItemsIs, TruthIs}

-- ---- tests that agree

set_same : (f g : ℕ → Bool) (k n : ℕ) → ((i : ℕ) → k ≤ i → i < k + n → f i ≡ g i) → sets.set_from f k n ≡ sets.set_from g k n
unfolding sets.set_from
set_same f g k zero h = refl
set_same f g k (suc n) h =
    ap₂ (λ (b : Bool) (x : ℕ). sets.bit b + 2 * x) (h k (omega arith) (omega arith)) (set_same f g (suc k) n (λ i l m. h i (omega arith) (omega arith)))

count_same : (f g : ℕ → Bool) (k n : ℕ) → ((i : ℕ) → k ≤ i → i < k + n → f i ≡ g i) → sets.count_from f k n ≡ sets.count_from g k n
unfolding sets.count_from
count_same f g k zero h = refl
count_same f g k (suc n) h =
    ap₂ (λ (b : Bool) (x : ℕ). sets.bit b + x) (h k (omega arith) (omega arith)) (count_same f g (suc k) n (λ i l m. h i (omega arith) (omega arith)))

some_same : (f g : ℕ → Bool) (k n : ℕ) → ((i : ℕ) → k ≤ i → i < k + n → f i ≡ g i) → sets.some_from f k n ≡ sets.some_from g k n
unfolding sets.some_from
some_same f g k zero h = refl
some_same f g k (suc n) h =
    ap₂ (λ (b : Bool) (x : Bool). elim b [ true ↦ true | false ↦ x ]) (h k (omega arith) (omega arith)) (some_same f g (suc k) n (λ i l m. h i (omega arith) (omega arith)))

quantified-same : (code n : ℕ) (f g : ℕ → Bool) → ((i : ℕ) → i < n → f i ≡ g i) → quantified code n f ≡ quantified code n g
unfolding quantified
quantified-same code n f g h = by (eqb code 53) (eqb code 54)
  where
    by : (a b : Bool)
        → ◌≡◌ {A = Bool} (elim a [ true ↦ not (sets.some_from (λ k. not (f k)) 0 n) | false ↦ elim b [ true ↦ sets.some_from f 0 n | false ↦ eqb (sets.count_from f 0 n) 1 ] ])
        (elim a [ true ↦ not (sets.some_from (λ k. not (g k)) 0 n) | false ↦ elim b [ true ↦ sets.some_from g 0 n | false ↦ eqb (sets.count_from g 0 n) 1 ] ])
    by true b = ap not (some_same (λ k. not (f k)) (λ k. not (g k)) 0 n (λ i l m. ap not (h i (omega arith))))
    by false true = some_same f g 0 n (λ i l m. h i (omega arith))
    by false false = ap (λ (x : ℕ). eqb x 1) (count_same f g 0 n (λ i l m. h i (omega arith)))

-- ---- nodes whose parts have one value

-- either case of a test, on both sides
both : {R A A' B B' : Type 0} (b : Bool) → (A → A' → R) → (B → B' → R) → pick b A B → pick b A' B' → R
both true f g x y = f x y
both false f g x y = g x y

abbrev OneTerm : Terms → Terms → Type 0
OneTerm T T' = (j : ℕ) (σ : Values) (x y : ℤ) → T j σ x → T' j σ y → x ≡ y

abbrev OneTruth : Truths → Truths → Type 0
OneTruth P P' = (j : ℕ) (σ : Values) (x y : Bool) → P j σ x → P' j σ y → x ≡ y

module _ {T T' I I' : Terms} {P P' : Truths} (one-t : OneTerm T T') (one-i : OneTerm I I') (one-p : OneTruth P P') (t : List ℕ) (e : ℕ) (ρ : Values) where
  bound-same : {end slot : ℕ} {low : ℤ} {n : ℕ} {f g : ℕ → Bool} → Bound P end slot low n ρ f → Bound P' end slot low n ρ g → (i : ℕ) → i < n → f i ≡ g i
  bound-same b c i l = one-p _ _ _ _ (b.each i l) (c.each i l)

  term-one : (v w : ℤ) → TermNode T P I t e ρ v → TermNode T' P' I' t e ρ w → v ≡ w
  unfolding TermNode sets.set_of
  term-one v w =
      both (eqb (shape_at t e) 1) (λ m n. m ∙ sym n)
      (both (eqb (shape_at t e) 2) (λ m n. m.1 ∙ sym n.1)
      (both (eqb (shape_at t e) 3) (λ m n. m.is ∙ ap (prefixed (first_at t e) (end_at t e) (second_at t e)) (one-t _ _ _ _ m.part n.part) ∙ sym n.is)
      (both (eqb (shape_at t e) 4) (λ m n. m.is ∙ ap (divided (first_at t e) (second_at t e)) (one-t _ _ _ _ m.part n.part) ∙ sym n.is)
      (both (eqb (shape_at t e) 5)
      (λ m n. m.is ∙ ap₂ (operated (first_at t e)) (one-t _ _ _ _ m.left_part.1 n.left_part.1) (one-t _ _ _ _ m.right_part n.right_part) ∙ sym n.is)
      (both (eqb (shape_at t e) 6)
      (λ m n. m.is ∙ ap pos (set_same m.test n.test 0 (count_at t (e - 4)) (λ i l h. bound-same m.bound n.bound i (omega arith))) ∙ sym n.is)
      (λ m n. one-i _ _ _ _ m n))))))

  items-one : (v w : ℤ) → ItemsNode T I t e ρ v → ItemsNode T' I' t e ρ w → v ≡ w
  unfolding ItemsNode
  items-one v w =
      both (eqb (shape_at t e) 9) (λ m n. m.is ∙ ap (λ (x : ℤ). pos (sets.single (natural x))) (one-t _ _ _ _ m.part n.part) ∙ sym n.is)
      (both (eqb (shape_at t e) 10)
      (λ m n. m.is
      ∙ ap₂ (λ (x y : ℤ). pos (sets.union (sets.single (natural x)) (natural y))) (one-t _ _ _ _ m.part.1 n.part.1) (one-i _ _ _ _ m.rest n.rest)
      ∙ sym n.is)
      (both (eqb (shape_at t e) 11)
      (λ m n. m.is
      ∙ ap₂ (λ (x y : ℤ). pos (sets.single (natural (pair_code (first_at t e) x y)))) (one-t _ _ _ _ m.left_part.1 n.left_part.1) (one-t _ _ _ _ m.right_part n.right_part)
      ∙ sym n.is)
      (λ m n. m.is
      ∙ ap₂ (λ (x y : ℤ). pos (sets.union (sets.single (natural (pair_code (first_at t e) x y))) (natural m.others))) (one-t _ _ _ _ m.left_part.1 n.left_part.1)
      (one-t _ _ _ _ m.right_part.1 n.right_part.1)
      ∙ ap (λ (x : ℤ). pos (sets.union (sets.single (natural (pair_code (first_at t e) n.left n.right))) (natural x))) (one-i _ _ _ _ m.rest n.rest)
      ∙ sym n.is)))

  asked-one : (b c : Bool) → AskedNode T t e ρ b → AskedNode T' t e ρ c → b ≡ c
  unfolding AskedNode
  asked-one b c =
      both (eqb (shape_at t e) 20)
      (λ m n. m.is
      ∙ ap₂ (λ (x y : ℤ). asked (eqb (first_at t e) 56) (sets.has (natural y) (natural x))) (one-t _ _ _ _ m.left_part.1 n.left_part.1)
      (one-t _ _ _ _ m.right_part n.right_part)
      ∙ sym n.is)
      (both (eqb (shape_at t e) 21)
      (λ m n. m.is ∙ ap (λ (x : ℤ). asked (eqb (first_at t e) 56) (in_range (low_at t (e - 4)) (count_at t (e - 4)) x)) (one-t _ _ _ _ m.part n.part) ∙ sym n.is)
      (λ m n. m.is
      ∙ ap₂ (λ (x y : ℤ). asked (eqb (shape_at t e) 22) (sets.has (natural m.right) (natural (pair_code (first_at t e) x y)))) (one-t _ _ _ _ m.left_part.1 n.left_part.1)
      (one-t _ _ _ _ m.middle_part.1 n.middle_part.1)
      ∙ ap (λ (x : ℤ). asked (eqb (shape_at t e) 22) (sets.has (natural x) (natural (pair_code (first_at t e) n.left n.middle)))) (one-t _ _ _ _ m.right_part n.right_part)
      ∙ sym n.is))

  truth-one : (b c : Bool) → TruthNode T P t e ρ b → TruthNode T' P' t e ρ c → b ≡ c
  unfolding TruthNode
  truth-one b c =
      both (eqb (shape_at t e) 16) (λ m n. m ∙ sym n)
      (both (eqb (shape_at t e) 17) (λ m n. m.2 ∙ ap not (one-p _ _ _ _ m.1 n.1) ∙ sym n.2)
      (both (eqb (shape_at t e) 18)
      (λ m n. m.is ∙ ap₂ (connected (first_at t e)) (one-p _ _ _ _ m.left_part n.left_part) (one-p _ _ _ _ m.right_part n.right_part) ∙ sym n.is)
      (both (eqb (shape_at t e) 19)
      (λ m n. m.is ∙ ap₂ (compared (first_at t e)) (one-t _ _ _ _ m.left_part.1 n.left_part.1) (one-t _ _ _ _ m.right_part n.right_part) ∙ sym n.is)
      (both (eqb (shape_at t e) 24)
      (λ m n. m.is ∙ quantified-same (second_at t e) (count_at t (e - 4)) m.test n.test (λ i l. bound-same m.bound n.bound i l) ∙ sym n.is)
      (λ m n. asked-one b c m n)))))

-- ---- however deep

pub record One (t : List ℕ) (f g : ℕ) : Type 0 where
  pub term : OneTerm (λ j σ x. TermIs f t j σ x) (λ j σ x. TermIs g t j σ x)
  pub items : OneTerm (λ j σ x. ItemsIs f t j σ x) (λ j σ x. ItemsIs g t j σ x)
  pub truth : OneTruth (λ j σ x. TruthIs f t j σ x) (λ j σ x. TruthIs g t j σ x)

pub one_value : (t : List ℕ) (f g : ℕ) → One t f g
unfolding TermIs ItemsIs TruthIs
one_value t zero g = record { term = λ j σ x y m n. absurd m; items = λ j σ x y m n. absurd m; truth = λ j σ x y m n. absurd m }
one_value t (suc f) zero = record { term = λ j σ x y m n. absurd n; items = λ j σ x y m n. absurd n; truth = λ j σ x y m n. absurd n }
one_value t (suc f) (suc g) =
    let o : One t f g = one_value t f g in
    record {
      term = λ j σ x y m n. term-one o.term o.items o.truth t j σ x y m.2 n.2;
      items = λ j σ x y m n. items-one {P = λ j σ b. TruthIs f t j σ b} {P' = λ j σ b. TruthIs g t j σ b} o.term o.items o.truth t j σ x y m.2 n.2;
      truth = λ j σ x y m n. truth-one {I = λ j σ v. ItemsIs f t j σ v} {I' = λ j σ v. ItemsIs g t j σ v} o.term o.items o.truth t j σ x y m.1 n.1;
    }
