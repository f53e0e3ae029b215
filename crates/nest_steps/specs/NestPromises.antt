-- What the steps of the nest ask and promise. Nothing here need be believed.
use Rattle.std.specs.Prelude.{◌≡◌, Bool, true, List, ◌++◌, ℕ, ◌<◌, ◌≤◌, ◌^◌, length, ℤ}
use Rattle.lexical.specs.Lists.{any, upward}
use Rattle.sets.specs.Sets.{has}
use Rattle.slot_carriers.specs.CellGroups.{Grouped}
use Rattle.points.specs.Points.{Point, span, number_of, placed, Tame, Shows, Beside, Apart}
use Rattle.points.specs.Searches.{levels_hold, Sought, SearchOf}
use Rattle.slot_carriers.specs.declared.groups.GroupSize.{GroupSize}
use Rattle.plans.specs.declared.Part.{Part}
use Rattle.plans.specs.declared.PartSearch.{PartSearch}
use Rattle.plans.specs.declared.Conclusion.{Conclusion}
use Rattle.plans.specs.declared.Conclusion.TheVariants.{OfState, OfStep}
use Rattle.nest_steps.specs.PartTests.{PartTests}

-- the slots of the groups of a part, and of the two searches for a step of the abstract operation and for what must be there
pub record Groups : Type 0 where
  pub abstracts : List ℕ
  pub concretes : List ℕ
  pub inputs : List ℕ
  pub outputs : List ℕ
  pub primes : List ℕ
  pub readying : List ℕ
  pub meeting : List ℕ

-- some binding of the variables of these slots has P, at a point
unfoldable pub some_binding : (cells : List ℕ) → List ℕ → (Point → Bool) → Point → Bool
some_binding cells ss P δ = any (λ (k : ℕ). P (placed cells ss δ k)) (upward 0 (span cells ss))

-- how many variables and bindings a group has
pub record SizedGroup (cells ss : List ℕ) (g : GroupSize) (most : ℕ) : Type 0 where
  pub many : length ss ≡ g.variables
  pub counted : g.bindings ≡ span cells ss
  pub few : g.bindings ≤ most

-- those of a part
pub record Sized (cells : List ℕ) (p : Part) (G : Groups) : Type 0 where
  pub abstracts : SizedGroup cells G.abstracts p.abstracts 4096
  pub concretes : SizedGroup cells G.concretes p.concretes 4096
  pub inputs : SizedGroup cells G.inputs p.inputs 64
  pub outputs : SizedGroup cells G.outputs p.outputs 64
  pub primes : SizedGroup cells G.primes p.primes 4096
  pub readying : SizedGroup cells G.readying p.readying (2 ^ 18)
  pub meeting : SizedGroup cells G.meeting p.meeting (2 ^ 18)
  pub some_a : 0 < p.abstracts.bindings
  pub some_c : 0 < p.concretes.bindings
  pub some_i : 0 < p.inputs.bindings
  pub some_o : 0 < p.outputs.bindings
  pub some_k : 0 < p.primes.bindings
  pub abstracts_are : G.abstracts ≡ upward 0 p.abstracts.variables
  pub concretes_are : G.concretes ≡ upward 8 p.concretes.variables
  pub inputs_are : G.inputs ≡ upward 16 p.inputs.variables
  pub inputs_few : p.inputs.variables ≤ 3
  pub grouped : Grouped cells 16 p.inputs.variables

-- on which groups what must be there depends
unfoldable pub DependsOn : Conclusion → PartTests → Type 0
DependsOn OfState T = (a b c i o q k l : ℕ) → T.met a c i o k ≡ T.met b c i q l
DependsOn OfStep T = (a c d i o k : ℕ) → T.met a c i o k ≡ T.met a d i o k

-- the searches of a part find its tests, at every point; on which groups what must be there depends; no search writes a slot of a group before it
pub record Nest (table plan cells : List ℕ) (p : Part) (G : Groups) (T : PartTests) : Type 0 where
  pub sized : Sized cells p G
  pub states : SearchOf table plan cells 0 G.abstracts (λ (δ : Point). T.state (number_of cells G.abstracts δ))
  pub related : SearchOf table plan cells 1 G.concretes (λ (δ : Point). T.related (number_of cells G.abstracts δ) (number_of cells G.concretes δ))
  pub readily : Point → Bool
  pub ready : SearchOf table plan cells 2 G.readying readily
  pub ready_is : (δ : Point) → Tame cells δ → some_binding cells G.readying readily δ ≡ T.ready (number_of cells G.abstracts δ) (number_of cells G.inputs δ)
  pub steps : SearchOf table plan cells 3 (G.outputs ++ G.primes)
      (λ (δ : Point). T.steps (number_of cells G.concretes δ) (number_of cells G.inputs δ) (number_of cells G.outputs δ) (number_of cells G.primes δ))
  pub front_is : (δ : Point) → Tame cells δ → levels_hold steps.tests 0 (length G.outputs) δ
      ≡ T.front (number_of cells G.concretes δ) (number_of cells G.inputs δ) (number_of cells G.outputs δ)
  pub meetly : Point → Bool
  pub met : SearchOf table plan cells 4 G.meeting meetly
  pub met_is : (δ : Point) → Tame cells δ → some_binding cells G.meeting meetly δ
      ≡ T.met (number_of cells G.abstracts δ) (number_of cells G.concretes δ) (number_of cells G.inputs δ) (number_of cells G.outputs δ) (number_of cells G.primes δ)
  pub depends : DependsOn p.conclusion T
  pub apart_abstracts : Apart G.abstracts (G.concretes ++ (G.inputs ++ (G.outputs ++ (G.primes ++ (G.readying ++ G.meeting)))))
  pub apart_concretes : Apart G.concretes (G.inputs ++ (G.outputs ++ (G.primes ++ G.meeting)))
  pub apart_inputs : Apart G.inputs (G.outputs ++ (G.primes ++ (G.readying ++ G.meeting)))
  pub apart_outputs : Apart G.outputs (G.primes ++ G.meeting)

-- asked by each function
pub record NestAsked (table plan cells : List ℕ) (p : Part) (before : List (List ℤ)) : Type 0 where
  pub groups : Groups
  pub tests : PartTests
  pub point : Point
  pub nest : Nest table plan cells p groups tests
  pub shows : Shows cells point before

-- of what a function is lent: the arrays of the search, and the slots
abbrev pub NestLent : PartSearch → (before : List (List ℤ)) → Type 0
NestLent s before = NestAsked s.table.now s.plan.now s.cells.now s.part before

-- the arrays behind a search of a group: what is found stands there, other groups are as they were
pub record Stepped (cells : List ℕ) (ss : List ℕ) (δ : Point) (end at : ℕ) (after : List (List ℤ)) : Type 0 where
  pub point : Point
  pub shows : Shows cells point after
  pub beside : Beside ss δ point
  pub number : at < end → number_of cells ss point ≡ at

-- for every reading of the arrays as a part, and every point that the slots show
abbrev pub ForNest : (table plan cells : List ℕ) (p : Part) (before : List (List ℤ)) → (Groups → PartTests → Point → Type 0) → Type 0
ForNest table plan cells p before X = (G : Groups) (T : PartTests) (δ : Point) → Nest table plan cells p G T → Shows cells δ before → X G T δ

pub record AbstractAnswers (table plan cells : List ℕ) (p : Part) (a : ℕ) (before after : List (List ℤ)) (r : ℕ) : Type 0 where
  pub sought : ForNest table plan cells p before (λ (G : Groups) (T : PartTests) (δ : Point). Sought T.state a p.abstracts.bindings r)
  pub left : ForNest table plan cells p before (λ (G : Groups) (T : PartTests) (δ : Point). Stepped cells G.abstracts δ p.abstracts.bindings r after)

pub record ConcreteAnswers (table plan cells : List ℕ) (p : Part) (c : ℕ) (before after : List (List ℤ)) (r : ℕ) : Type 0 where
  pub sought : ForNest table plan cells p before (λ (G : Groups) (T : PartTests) (δ : Point). Sought (T.related (number_of cells G.abstracts δ)) c p.concretes.bindings r)
  pub left : ForNest table plan cells p before (λ (G : Groups) (T : PartTests) (δ : Point). Stepped cells G.concretes δ p.concretes.bindings r after)

-- the abstract precondition at the abstract state and the inputs that the slots have
pub record AbstractPreAnswers (table plan cells : List ℕ) (p : Part) (before after : List (List ℤ)) (r : Bool) : Type 0 where
  pub is : ForNest table plan cells p before (λ (G : Groups) (T : PartTests) (δ : Point). r ≡ T.ready (number_of cells G.abstracts δ) (number_of cells G.inputs δ))
  pub left : ForNest table plan cells p before (λ (G : Groups) (T : PartTests) (δ : Point). Stepped cells G.readying δ 0 0 after)

-- at the i-th inputs
pub record PreAnswers (table plan cells : List ℕ) (p : Part) (i : ℕ) (before after : List (List ℤ)) (r : Bool) : Type 0 where
  pub is : ForNest table plan cells p before (λ (G : Groups) (T : PartTests) (δ : Point). r ≡ T.ready (number_of cells G.abstracts δ) i)
  pub left : ForNest table plan cells p before (λ (G : Groups) (T : PartTests) (δ : Point). Stepped cells (G.inputs ++ G.readying) δ 0 0 after)

-- of all inputs, as bits
pub record ReadyAnswers (table plan cells : List ℕ) (p : Part) (before after : List (List ℤ)) (r : ℕ) : Type 0 where
  pub bits : ForNest table plan cells p before (λ (G : Groups) (T : PartTests) (δ : Point). (i : ℕ) → i < p.inputs.bindings → has r i ≡ T.ready (number_of cells G.abstracts δ) i)
  pub left : ForNest table plan cells p before (λ (G : Groups) (T : PartTests) (δ : Point). Stepped cells (G.inputs ++ G.readying) δ 0 0 after)

-- asked where the inputs get values
pub record InputAsked (cells : List ℕ) (p : Part) (before : List (List ℤ)) : Type 0 where
  pub table : List ℕ
  pub plan : List ℕ
  pub asked : NestAsked table plan cells p before

-- the inputs have the values of their i-th binding; behind the last one, those that they had
abbrev pub InputsBound : (cells : List ℕ) (p : Part) (i : ℕ) (before after : List (List ℤ)) → Type 0
InputsBound cells p i before after =
    (table plan : List ℕ) → ForNest table plan cells p before (λ (G : Groups) (T : PartTests) (δ : Point). Stepped cells G.inputs δ p.inputs.bindings i after)

-- the next bit of a mask, whose inputs the slots then have
pub record InputAnswers (cells : List ℕ) (p : Part) (mask i : ℕ) (before after : List (List ℤ)) (r : ℕ) : Type 0 where
  pub sought : Sought (has mask) i p.inputs.bindings r
  pub left : InputsBound cells p r before after

pub record OutputAnswers (table plan cells : List ℕ) (p : Part) (o : ℕ) (before after : List (List ℤ)) (r : ℕ) : Type 0 where
  pub sought : ForNest table plan cells p before
      (λ (G : Groups) (T : PartTests) (δ : Point). Sought (T.front (number_of cells G.concretes δ) (number_of cells G.inputs δ)) o p.outputs.bindings r)
  pub left : ForNest table plan cells p before (λ (G : Groups) (T : PartTests) (δ : Point). Stepped cells G.outputs δ p.outputs.bindings r after)

-- after states with the outputs that the slots have, which nothing excludes
pub record AfterAnswers (table plan cells : List ℕ) (p : Part) (k : ℕ) (before after : List (List ℤ)) (r : ℕ) : Type 0 where
  pub sought : ForNest table plan cells p before
      (λ (G : Groups) (T : PartTests) (δ : Point).
      (T.front (number_of cells G.concretes δ) (number_of cells G.inputs δ) (number_of cells G.outputs δ) ≡ true)
      → Sought (T.steps (number_of cells G.concretes δ) (number_of cells G.inputs δ) (number_of cells G.outputs δ)) k p.primes.bindings r)
  pub left : ForNest table plan cells p before (λ (G : Groups) (T : PartTests) (δ : Point). Stepped cells G.primes δ p.primes.bindings r after)

-- what must be there, at the numbers that the slots have
pub record MetAnswers (table plan cells : List ℕ) (p : Part) (before after : List (List ℤ)) (r : Bool) : Type 0 where
  pub is : ForNest table plan cells p before
      (λ (G : Groups) (T : PartTests) (δ : Point).
      r ≡ T.met (number_of cells G.abstracts δ) (number_of cells G.concretes δ) (number_of cells G.inputs δ) (number_of cells G.outputs δ) (number_of cells G.primes δ))
  pub left : ForNest table plan cells p before (λ (G : Groups) (T : PartTests) (δ : Point). Stepped cells G.meeting δ 0 0 after)
