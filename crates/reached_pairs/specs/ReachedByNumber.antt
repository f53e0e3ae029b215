-- The pairs of states that are reached, by numbers: how they begin, which entry leads from one to another, and what the marks say while the search goes on. That the numbers are the
-- pairs of document 01 is proofs/ReachedPairs. Nothing here need be believed.
use Rattle.std.specs.Prelude.{◌≡◌, Bool, true, ◌⊎◌, Option, MatchOption, List, ℕ, suc, ◌*◌, ◌/◌, ◌%◌, ◌<◌, ◌≤◌, length}
use Rattle.std.proofs.Math.Option.{some}
use Rattle.std.proofs.Math.ListN.{get_elem?}
use Rattle.form.specs.Tree.{Operation, Dossier}
use Rattle.static_rules.specs.Scope.{inputs}
use Rattle.meaning.specs.Bindings.{bindings}
use Rattle.meaning.specs.Operations.{abstract_bindings, concrete_bindings, output_bindings}
use Rattle.step_searches.specs.PartTestsPartsByNumber.{abstract_at, concrete_at, output_at, initial, initial_match, concretely, match}
use Rattle.reached_pairs.specs.declared.marks.Mark.{Mark}
use Rattle.reached_pairs.specs.Reached.{no_mark, layer_of, mark_in, layer_in}

module _ (d : Dossier) where
  abbrev pub many_abstract : ℕ
  many_abstract = length (abstract_bindings d)

  abbrev pub many_concrete : ℕ
  many_concrete = length (concrete_bindings d)

  abbrev pub many_pairs : ℕ
  many_pairs = many_abstract * many_concrete

  -- the states of a pair
  abbrev pub abstract_of : ℕ → ℕ
  abstract_of y = y / many_concrete

  abbrev pub concrete_of : ℕ → ℕ
  concrete_of y = y % many_concrete

  -- two initial states that are related
  pub record Begins (y : ℕ) : Type 0 where
    pub inside : y < many_pairs
    pub starts : initial d (concrete_of y) ≡ true
    pub matched : initial_match d (concrete_of y) (abstract_at d (abstract_of y)) ≡ true

  -- operation op with its i-th inputs leads from the pair x to the pair y
  pub record Leads (op : Operation) (i x y : ℕ) : Type 0 where
    pub inside : y < many_pairs
    pub output : ℕ
    pub produced : output < length (output_bindings d op)
    pub steps : concretely d op (concrete_of x) i (output_at d op output) (concrete_at d (concrete_of y)) ≡ true
    pub matched : match d op (abstract_of x) i output (concrete_of y) (abstract_at d (abstract_of y)) ≡ true

  -- the j-th operation
  pub record Goes (j i x y : ℕ) : Type 0 where
    pub operation : Operation
    pub listed : get_elem? d.operations j ≡ some operation
    pub taken : i < length (bindings (inputs d operation))
    pub before : x < many_pairs
    pub leads : Leads operation i x y

  -- n entries lead to y
  pub data Chain : (n y : ℕ) → Type 0 where
    begun : {y : ℕ} → Begins y → Chain 0 y
    gone : {n x y : ℕ} (j i : ℕ) → Chain n x → Goes j i x y → Chain (suc n) y

  -- the layers below n have been gone through
  pub record Layered (n : ℕ) (marks : List Mark) : Type 0 where
    pub begins : (y : ℕ) → layer_in marks y ≡ 1 → Begins y
    pub follows : (y k : ℕ) → layer_in marks y ≡ suc (suc k)
        → (layer_in marks (mark_in marks y).before ≡ suc k) × Goes (mark_in marks y).operation (mark_in marks y).input (mark_in marks y).before y
    pub begun : (y : ℕ) → Begins y → layer_in marks y ≡ 1
    pub closed : (j i x y : ℕ) → 0 < layer_in marks x → layer_in marks x < n → Goes j i x y → (0 < layer_in marks y) × (layer_in marks y ≤ suc (layer_in marks x))
    pub bounded : (y : ℕ) → layer_in marks y ≤ n

-- ---- marks that are added: `may` says which pairs may get which marks, `must` which pairs have one then

pub record Grown (may : (y : ℕ) (m : Mark) → Type 0) (must : (y : ℕ) → Type 0) (before after : List Mark) : Type 0 where
  pub long : length after ≡ length before
  pub each : (y : ℕ) → (mark_in after y ≡ mark_in before y) ⊎ ((layer_in before y ≡ 0) × may y (mark_in after y))
  pub full : (y : ℕ) → must y → 0 < layer_in after y

-- one pair gets one mark
abbrev pub Only : (y : ℕ) (m : Mark) → (z : ℕ) (v : Mark) → Type 0
Only y m z v = (z ≡ y) × (v ≡ m)

abbrev pub At : (y : ℕ) → (z : ℕ) → Type 0
At y z = z ≡ y

abbrev pub Marked : (y : ℕ) (m : Mark) → (before after : List Mark) → Type 0
Marked y m before after = Grown (Only y m) (At y) before after

-- no pair has a mark
pub record Cleared (before after : List Mark) : Type 0 where
  pub long : length after ≡ length before
  pub each : (y : ℕ) → mark_in after y ≡ no_mark

-- r counts the first pairs of layer n
pub record LayerCounted (marks : List Mark) (pairs n r : ℕ) : Type 0 where
  pub low : r ≤ pairs
  pub none : r ≡ 0 → (y : ℕ) → y < pairs → layer_in marks y ≡ n → ⊥

-- one of the numbers below `end` that pass a test leads there
pub record Hits (f : ℕ → Bool) (G : (x y : ℕ) → Type 0) (end y : ℕ) : Type 0 where
  pub number : ℕ
  pub low : number < end
  pub hit : f number ≡ true
  pub there : G number y

-- a mark of layer n + 1, made from pair x of layer n by the i-th inputs of the j-th operation
pub record MarkFrom (j i x n : ℕ) (m : Mark) : Type 0 where
  pub layer_is : layer_of m ≡ suc n
  pub pair_is : m.before ≡ x
  pub operation_is : m.operation ≡ j
  pub inputs_is : m.input ≡ i

-- a mark of this layer is of a pair to which r entries lead
pub record Entered (layer : ℕ) (r : Option ℕ) : Type 0 where
  pub is : MatchOption r (layer ≡ 0) (λ (n : ℕ). layer ≡ suc n)

-- the marks of the first layer
pub record MayBegin (d : Dossier) (y : ℕ) (m : Mark) : Type 0 where
  pub layer_is : layer_of m ≡ 1
  pub begins : Begins d y

-- what layer n of the marks may lead to, and what operation j must
pub record MayFrom (d : Dossier) (n : ℕ) (marks : List Mark) (y : ℕ) (m : Mark) : Type 0 where
  pub layer_is : layer_of m ≡ suc n
  pub before : layer_in marks m.before ≡ n
  pub goes : Goes d m.operation m.input m.before y

pub record MustFrom (d : Dossier) (j n : ℕ) (marks : List Mark) (y : ℕ) : Type 0 where
  pub pair : ℕ
  pub input : ℕ
  pub layer_is : layer_in marks pair ≡ n
  pub goes : Goes d j input pair y

-- the operations below j
pub record MustBelow (d : Dossier) (j n : ℕ) (marks : List Mark) (y : ℕ) : Type 0 where
  pub operation : ℕ
  pub low : operation < j
  pub from : MustFrom d operation n marks y
