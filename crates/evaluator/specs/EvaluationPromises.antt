-- What the functions of the evaluator ask and promise, by numbers. Nothing here need be believed.
use Rattle.std.specs.Prelude.{◌≡◌, Bool, false, List, ℕ, ◌-◌, ◌≤◌, eqb, ℤ}
use Rattle.sets.specs.Sets as sets
use Rattle.operators.specs.EvaluationOperatorsByNumber.{asked}
use Rattle.operators.specs.EvaluationEvaluationByNumber.{Values, shape_at, first_at, low_at, count_at, Bound, TermIs, ItemsIs, TruthIs, SuchNode, QuantifierNode, AskedNode}

-- asked: the nodes up to e give some value; promised: the answer is the value that they give
pub record TermRuns (t : List ℕ) (e : ℕ) (ρ : Values) : Type 0 where
  pub fuel : ℕ
  pub value : ℤ
  pub is : TermIs fuel t e ρ value

pub record TermAnswers (t : List ℕ) (e : ℕ) (ρ : Values) (r : ℤ) : Type 0 where
  pub is : (f : ℕ) (v : ℤ) → TermIs f t e ρ v → r ≡ v

-- neither a number nor what stands in a slot
pub record IsCompound (t : List ℕ) (e : ℕ) : Type 0 where
  pub no_number : eqb (shape_at t e) 1 ≡ false
  pub no_slot : eqb (shape_at t e) 2 ≡ false

pub record ItemsRun (t : List ℕ) (e : ℕ) (ρ : Values) : Type 0 where
  pub fuel : ℕ
  pub value : ℤ
  pub is : ItemsIs fuel t e ρ value

pub record ItemsAnswer (t : List ℕ) (e : ℕ) (ρ : Values) (r : ℤ) : Type 0 where
  pub is : (f : ℕ) (v : ℤ) → ItemsIs f t e ρ v → r ≡ v

pub record TruthRuns (t : List ℕ) (e : ℕ) (ρ : Values) : Type 0 where
  pub fuel : ℕ
  pub value : Bool
  pub is : TruthIs fuel t e ρ value

pub record TruthAnswers (t : List ℕ) (e : ℕ) (ρ : Values) (r : Bool) : Type 0 where
  pub is : (f : ℕ) (b : Bool) → TruthIs f t e ρ b → r ≡ b

-- {x : G | p}, in and notin, quantifiers: the node at hand
pub record SuchRuns (t : List ℕ) (e : ℕ) (ρ : Values) : Type 0 where
  pub fuel : ℕ
  pub value : ℤ
  pub is : SuchNode (λ j σ b. TruthIs fuel t j σ b) t e ρ value

pub record SuchAnswers (t : List ℕ) (e : ℕ) (ρ : Values) (r : ℤ) : Type 0 where
  pub is : (f : ℕ) (v : ℤ) → SuchNode (λ j σ b. TruthIs f t j σ b) t e ρ v → r ≡ v

pub record AskedRuns (t : List ℕ) (e : ℕ) (ρ : Values) : Type 0 where
  pub fuel : ℕ
  pub value : Bool
  pub is : AskedNode (λ j σ x. TermIs fuel t j σ x) t e ρ value

pub record AskedAnswers (t : List ℕ) (e : ℕ) (ρ : Values) (r : Bool) : Type 0 where
  pub is : (f : ℕ) (b : Bool) → AskedNode (λ j σ x. TermIs f t j σ x) t e ρ b → r ≡ b

pub record QuantifierRuns (t : List ℕ) (e : ℕ) (ρ : Values) : Type 0 where
  pub fuel : ℕ
  pub value : Bool
  pub is : QuantifierNode (λ j σ b. TruthIs fuel t j σ b) t e ρ value

pub record QuantifierAnswers (t : List ℕ) (e : ℕ) (ρ : Values) (r : Bool) : Type 0 where
  pub is : (f : ℕ) (b : Bool) → QuantifierNode (λ j σ c. TruthIs f t j σ c) t e ρ b → r ≡ b

-- the loops over what the quantifier's node binds: what its predicate is at each value
abbrev pub Tests : (f : ℕ) (t : List ℕ) (e : ℕ) (ρ : Values) (g : ℕ → Bool) → Type 0
Tests f t e ρ g = Bound (λ j σ b. TruthIs f t j σ b) (e - 8) (first_at t e) (low_at t (e - 4)) (count_at t (e - 4)) ρ g

pub record BoundRuns (t : List ℕ) (e : ℕ) (ρ : Values) : Type 0 where
  pub fuel : ℕ
  pub test : ℕ → Bool
  pub room : 8 ≤ e
  pub bound : Tests fuel t e ρ test

-- some value at which the predicate is as wanted
pub record SomeAnswers (t : List ℕ) (e : ℕ) (ρ : Values) (wanted r : Bool) : Type 0 where
  pub is : (f : ℕ) (g : ℕ → Bool) → Tests f t e ρ g → r ≡ sets.some_from (λ k. asked wanted (g k)) 0 (count_at t (e - 4))

-- exactly one value at which it holds
pub record OnceAnswers (t : List ℕ) (e : ℕ) (ρ : Values) (r : Bool) : Type 0 where
  pub is : (f : ℕ) (g : ℕ → Bool) → Tests f t e ρ g → r ≡ eqb (sets.count_from g 0 (count_at t (e - 4))) 1
