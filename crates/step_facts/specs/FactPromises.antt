-- Facts about the states and steps of a dossier's two machines, by numbers of bindings, for every dossier whose reading the arrays are: what is asked and promised. Nothing here need be
-- believed.
use Rattle.std.specs.Prelude.{◌≡◌, Bool, true, false, ◌&&◌, not, Option, None, Result, Ok, Err, MatchOption, IfSome, List, ℕ, zero, suc, ◌+◌, ◌*◌, ◌/◌, ◌%◌, ◌<◌, ◌≤◌, length, get_or}
use Rattle.std.proofs.Math.Option.{some}
use Rattle.std.proofs.Math.ListN.{get_elem?}
use Rattle.form.specs.Tree.{Operation, Dossier}
use Rattle.static_rules.specs.Scope.{inputs}
use Rattle.sets.specs.Sets.{has}
use Rattle.meaning.specs.Bindings.{bindings}
use Rattle.meaning.specs.Operations.{output_bindings}
use Rattle.points.specs.Searches.{Sought}
use Rattle.plans.specs.declared.Part.{Part}
use Rattle.state_facts.specs.ReadingsReadings.{ReadingOf}
use Rattle.state_facts.specs.PartTestsPartsByNumber.{abstract_at, concrete_at, output_at, initial, initial_match, abstract_state, related_to, abstractly, concretely, ready_at, stepping, match}
use Rattle.step_searches.specs.StepPromises.{ForSteps, First}
use Rattle.state_facts.specs.Reads.{abstract_count, concrete_count}
use Rattle.step_facts.specs.declared.Widths.{Widths}
use Rattle.step_facts.specs.declared.StepFault.{StepFault}
use Rattle.step_facts.specs.declared.StepFault.TheVariants.{Beyond}
use Rattle.step_facts.specs.declared.runs.Beginning.{Beginning}
use Rattle.step_facts.specs.declared.runs.Beginning.TheVariants.{Both, Concrete, Nowhere}
use Rattle.step_facts.specs.declared.differences.Place.{Place}
use Rattle.step_facts.specs.declared.totals.Counted.{Counted}
use Rattle.step_facts.specs.declared.totals.Counted.TheVariants.{States, Pairs, Promises}
use Rattle.state_facts.specs.declared.Pair.{Pair}
use Rattle.step_facts.specs.declared.runs.BothStep.{BothStep}

-- of every dossier whose reading they are, and of its operation j
abbrev pub ForReading : (table rows firsts groups : List ℕ) (operations : ℕ) → (Dossier → Type 0) → Type 0
ForReading table rows firsts groups operations X = (d : Dossier) → ReadingOf table rows firsts groups d → operations ≡ length d.operations → X d

abbrev pub ForOperation : (table rows firsts groups : List ℕ) (operations j : ℕ) → (Dossier → Operation → Type 0) → Type 0
ForOperation table rows firsts groups operations j X =
    (d : Dossier) (op : Operation) → ReadingOf table rows firsts groups d → operations ≡ length d.operations → get_elem? d.operations j ≡ some op → X d op

-- ---- how many bindings each group has

abbrev pub input_count : Dossier → Operation → ℕ
input_count d op = length (bindings (inputs d op))

abbrev pub output_count : Dossier → Operation → ℕ
output_count d op = length (output_bindings d op)

-- spans(d, j); where operation j is none of the dossier's, inputs and outputs have one binding
pub record SpansAre (table rows firsts groups : List ℕ) (operations j : ℕ) (r : Widths) : Type 0 where
  pub states : ForReading table rows firsts groups operations (λ (d : Dossier). (r.na ≡ abstract_count d) × (r.nc ≡ concrete_count d))
  pub parameters : ForOperation table rows firsts groups operations j (λ (d : Dossier) (op : Operation). (r.ni ≡ input_count d op) × (r.nq ≡ output_count d op))
  pub outside : operations ≤ j → (r.ni ≡ 1) × (r.nq ≡ 1)
  pub some : (0 < r.na) × (0 < r.nc) × (0 < r.ni) × (0 < r.nq)

-- ---- the steps of the abstract operation from one state

-- outputs and after state as one number
abbrev pub abstract_step_at : (d : Dossier) (op : Operation) (a i x : ℕ) → Bool
abstract_step_at d op a i x = abstractly d op a i (output_at d op (x / abstract_count d)) (abstract_at d (x % abstract_count d))

pub record InRange (d : Dossier) (op : Operation) (a i from : ℕ) : Type 0 where
  pub state : a < abstract_count d
  pub input : i < input_count d op
  pub start : from ≤ output_count d op * abstract_count d

-- the number of a step, if there is one
abbrev pub found_step : Result (Option ℕ) StepFault → Option ℕ
found_step (Ok r) = r
found_step (Err e) = None

abbrev pub IsWithin : Result (Option ℕ) StepFault → Type 0
IsWithin (Ok r) = Unit {0}
IsWithin (Err e) = ⊥

-- abstract_step(d, j, a, i, from)
pub record AbstractStepIs (table rows firsts groups : List ℕ) (operations j a i from : ℕ) (r : Result (Option ℕ) StepFault) : Type 0 where
  pub first : ForOperation table rows firsts groups operations j
      (λ (d : Dossier) (op : Operation). InRange d op a i from → First (abstract_step_at d op a i) from (output_count d op * abstract_count d) (found_step r) × IsWithin r)
  pub beyond : ForOperation table rows firsts groups operations j (λ (d : Dossier) (op : Operation). (InRange d op a i from → ⊥) → r ≡ Err Beyond)
  pub outside : operations ≤ j → r ≡ Err Beyond

-- ---- the inputs at which a side can step, as bits

-- the abstract side from its state s, or the concrete side from its own
abbrev pub able_at : (d : Dossier) (op : Operation) (side : Bool) (s i : ℕ) → Bool
able_at d op true s i = ready_at d op s i
able_at d op false s i = stepping d op s i

-- how many bindings the side's state has
abbrev pub states_of : Part → Bool → ℕ
states_of p true = p.abstracts.bindings
states_of p false = p.concretes.bindings

pub record AbleIs (table plan cells : List ℕ) (p : Part) (side : Bool) (s i : ℕ) (r : Bool) : Type 0 where
  pub is : ForSteps table plan cells p (λ (d : Dossier) (op : Operation). r ≡ able_at d op side s i)

pub record BitsAre (table plan cells : List ℕ) (p : Part) (side : Bool) (s r : ℕ) : Type 0 where
  pub bits : ForSteps table plan cells p (λ (d : Dossier) (op : Operation). (i : ℕ) → i < p.inputs.bindings → has r i ≡ able_at d op side s i)

-- the bits of the first n concrete states
pub record MasksAre (table plan cells : List ℕ) (p : Part) (n : ℕ) (masks : List ℕ) : Type 0 where
  pub long : length masks ≡ 4096
  pub each : ForSteps table plan cells p
      (λ (d : Dossier) (op : Operation). (c : ℕ) → c < n → (i : ℕ) → i < p.inputs.bindings → has (get_or masks c 0) i ≡ stepping d op c i)

-- ---- states and inputs at which one side can step and the other cannot

-- a bit of s that is none of m; which of the two is the abstract side's
abbrev pub more : (s m i : ℕ) → Bool
more s m i = has s i && not (has m i)

abbrev pub more_by : (narrowed : Bool) (s m i : ℕ) → Bool
more_by true s m i = more s m i
more_by false s m i = more m s i

pub record FirstMore (narrowed : Bool) (s m n : ℕ) (r : Option ℕ) : Type 0 where
  pub first : First (more_by narrowed s m) 0 n r

-- the abstract side can step and the concrete one cannot (narrowed), or the other way round
abbrev pub differs : (d : Dossier) (op : Operation) (narrowed : Bool) (a c i : ℕ) → Bool
differs d op true a c i = ready_at d op a i && not (stepping d op c i)
differs d op false a c i = stepping d op c i && not (ready_at d op a i)

abbrev pub differs_related : (d : Dossier) (op : Operation) (narrowed : Bool) (a c i : ℕ) → Bool
differs_related d op narrowed a c i = related_to d a c && differs d op narrowed a c i

-- at an abstract state and a concrete one that is related to it
abbrev pub differs_at : (d : Dossier) (op : Operation) (narrowed : Bool) (a c i : ℕ) → Bool
differs_at d op narrowed a c i = abstract_state d a && differs_related d op narrowed a c i

-- none is before this place in the order of abstract states, concrete states, inputs; the last two have so many bindings
pub record FirstRelated (d : Dossier) (op : Operation) (narrowed : Bool) (ni a c i : ℕ) : Type 0 where
  pub related : (l j : ℕ) → l < c → j < ni → differs_related d op narrowed a l j ≡ false
  pub inputs : (j : ℕ) → j < i → differs_related d op narrowed a c j ≡ false

pub record FirstPlace (d : Dossier) (op : Operation) (narrowed : Bool) (nc ni a c i : ℕ) : Type 0 where
  pub states : (k l j : ℕ) → k < a → l < nc → j < ni → differs_at d op narrowed k l j ≡ false
  pub related : (l j : ℕ) → l < c → j < ni → differs_at d op narrowed a l j ≡ false
  pub inputs : (j : ℕ) → j < i → differs_at d op narrowed a c j ≡ false

-- at a related concrete state, or at none
pub record PlaceHere (table plan cells : List ℕ) (p : Part) (narrowed : Bool) (a : ℕ) (x : Place) : Type 0 where
  pub low : (x.a ≡ a) × (x.c < p.concretes.bindings) × (x.i < p.inputs.bindings)
  pub here : ForSteps table plan cells p (λ (d : Dossier) (op : Operation). differs_related d op narrowed a x.c x.i ≡ true)
  pub first : ForSteps table plan cells p (λ (d : Dossier) (op : Operation). FirstRelated d op narrowed p.inputs.bindings a x.c x.i)

abbrev pub NowhereFrom : (table plan cells : List ℕ) (p : Part) (narrowed : Bool) (a : ℕ) → Type 0
NowhereFrom table plan cells p narrowed a =
    ForSteps table plan cells p (λ (d : Dossier) (op : Operation). (c i : ℕ) → c < p.concretes.bindings → i < p.inputs.bindings → differs_related d op narrowed a c i ≡ false)

pub record PlaceFrom (table plan cells : List ℕ) (p : Part) (narrowed : Bool) (a : ℕ) (r : Option Place) : Type 0 where
  pub is : MatchOption r (NowhereFrom table plan cells p narrowed a) (PlaceHere table plan cells p narrowed a)

-- at an abstract state and a concrete one, or at none
pub record PlaceThere (table plan cells : List ℕ) (p : Part) (narrowed : Bool) (x : Place) : Type 0 where
  pub low : (x.a < p.abstracts.bindings) × (x.c < p.concretes.bindings) × (x.i < p.inputs.bindings)
  pub here : ForSteps table plan cells p (λ (d : Dossier) (op : Operation). differs_at d op narrowed x.a x.c x.i ≡ true)
  pub first : ForSteps table plan cells p (λ (d : Dossier) (op : Operation). FirstPlace d op narrowed p.concretes.bindings p.inputs.bindings x.a x.c x.i)

abbrev pub NowhereAmong : (table plan cells : List ℕ) (p : Part) (narrowed : Bool) → Type 0
NowhereAmong table plan cells p narrowed =
    ForSteps table plan cells p
    (λ (d : Dossier) (op : Operation). (a c i : ℕ) → a < p.abstracts.bindings → c < p.concretes.bindings → i < p.inputs.bindings → differs_at d op narrowed a c i ≡ false)

pub record PlaceAmong (table plan cells : List ℕ) (p : Part) (narrowed : Bool) (r : Option Place) : Type 0 where
  pub is : MatchOption r (NowhereAmong table plan cells p narrowed) (PlaceThere table plan cells p narrowed)

pub record Within (d : Dossier) (op : Operation) (a c i : ℕ) : Type 0 where
  pub abstractly : a < abstract_count d
  pub concretely : c < concrete_count d
  pub input : i < input_count d op

-- narrowed(d, j), widened(d, j): the first such place
pub record PlaceIs (table rows firsts groups : List ℕ) (operations j : ℕ) (narrowed : Bool) (r : Option Place) : Type 0 where
  pub is : ForOperation table rows firsts groups operations j
      (λ (d : Dossier) (op : Operation).
      MatchOption r ((a c i : ℕ) → Within d op a c i → differs_at d op narrowed a c i ≡ false)
      (λ (x : Place).
      Within d op x.a x.c x.i × (differs_at d op narrowed x.a x.c x.i ≡ true)
      × FirstPlace d op narrowed (concrete_count d) (input_count d op) x.a x.c x.i))
  pub outside : operations ≤ j → r ≡ None

-- ---- a beginning, and a step of both sides

-- begin(d): the first concrete initial state, and the first abstract initial state that is related to it
pub record BothBegin (d : Dossier) (x : Pair) : Type 0 where
  pub first : Sought (initial d) 0 (concrete_count d) x.c
  pub matched : Sought (λ (a : ℕ). initial_match d x.c (abstract_at d a)) 0 (abstract_count d) x.a
  pub both : (x.c < concrete_count d) × (x.a < abstract_count d)

-- the first concrete initial state, that no abstract initial state is related to
pub record ConcreteBegins (d : Dossier) (c : ℕ) : Type 0 where
  pub first : Sought (initial d) 0 (concrete_count d) c
  pub inside : c < concrete_count d
  pub alone : (a : ℕ) → a < abstract_count d → initial_match d c (abstract_at d a) ≡ false

abbrev pub BeginsAs : Dossier → Beginning → Type 0
BeginsAs d (Both x) = BothBegin d x
BeginsAs d (Concrete c) = ConcreteBegins d c
BeginsAs d Nowhere = (c : ℕ) → c < concrete_count d → initial d c ≡ false

pub record BeginIs (table rows firsts groups : List ℕ) (operations : ℕ) (r : Beginning) : Type 0 where
  pub is : ForReading table rows firsts groups operations (λ (d : Dossier). BeginsAs d r)

-- a step of both sides: the abstract side is ready, the concrete side steps, and an abstract state after it is related to the concrete one
pub record StepOf (d : Dossier) (op : Operation) (a c i o k b : ℕ) : Type 0 where
  pub ready : ready_at d op a i ≡ true
  pub steps : concretely d op c i (output_at d op o) (concrete_at d k) ≡ true
  pub met : match d op a i o k (abstract_at d b) ≡ true

-- the states of a pair are some of the part's
pub record PairLow (p : Part) (x : Pair) : Type 0 where
  pub a_low : x.a < p.abstracts.bindings
  pub c_low : x.c < p.concretes.bindings

pub record StepLow (p : Part) (r : BothStep) : Type 0 where
  pub i_low : r.i < p.inputs.bindings
  pub o_low : r.o < p.outputs.bindings
  pub k_low : r.k < p.concretes.bindings
  pub b_low : r.b < p.abstracts.bindings

pub record StepHere (table plan cells : List ℕ) (p : Part) (a c : ℕ) (x : BothStep) : Type 0 where
  pub low : StepLow p x
  pub here : ForSteps table plan cells p (λ (d : Dossier) (op : Operation). StepOf d op a c x.i x.o x.k x.b)

pub record StepFound (table plan cells : List ℕ) (p : Part) (a c : ℕ) (r : Option BothStep) : Type 0 where
  pub is : IfSome r (StepHere table plan cells p a c)

pub record StepWithin (d : Dossier) (op : Operation) (r : BothStep) : Type 0 where
  pub i_low : r.i < input_count d op
  pub o_low : r.o < output_count d op
  pub k_low : r.k < concrete_count d
  pub b_low : r.b < abstract_count d

-- step(d, j, a, c): where none is found nothing is promised, since of the concrete steps with an input only the first one is tried
pub record StepIs (table rows firsts groups : List ℕ) (operations j a c : ℕ) (r : Option BothStep) : Type 0 where
  pub is : IfSome r
      (λ (x : BothStep).
      ForOperation table rows firsts groups operations j
      (λ (d : Dossier) (op : Operation). StepWithin d op x × StepOf d op a c x.i x.o x.k x.b))

-- ---- counts

abbrev pub if_so : Bool → ℕ → ℕ
if_so true x = x
if_so false x = 0

-- the sum of f over the numbers below n that pass the test
unfoldable pub weight : (ℕ → Bool) → (ℕ → ℕ) → ℕ → ℕ
weight s f zero = 0
weight s f (suc n) = if_so (s n) (f n) + weight s f n

-- how many numbers below n pass
abbrev pub tally : (ℕ → Bool) → ℕ → ℕ
tally s n = weight s (λ _. 1) n

-- the sum over the numbers below the end that pass
pub record Summed (table plan cells : List ℕ) (p : Part) (s : Dossier → Operation → ℕ → Bool) (f : Dossier → Operation → ℕ → ℕ) (end r : ℕ) : Type 0 where
  pub is : ForSteps table plan cells p (λ (d : Dossier) (op : Operation). r ≡ weight (s d op) (f d op) end)

abbrev pub one : Dossier → Operation → ℕ → ℕ
one d op k = 1

abbrev pub state_test : Dossier → Operation → ℕ → Bool
state_test d op a = abstract_state d a

abbrev pub related_test : (a : ℕ) → Dossier → Operation → ℕ → Bool
related_test a d op c = related_to d a c

abbrev pub ready_test : (a : ℕ) → Dossier → Operation → ℕ → Bool
ready_test a d op i = ready_at d op a i

-- what the abstract state a adds to a count, where there are so many concrete states and inputs
abbrev pub adds : (c : Counted) (nc ni : ℕ) → Dossier → Operation → ℕ → ℕ
adds States nc ni d op a = 1
adds Pairs nc ni d op a = tally (related_to d a) nc
adds Promises nc ni d op a = tally (ready_at d op a) ni

pub record AddedIs (table plan cells : List ℕ) (p : Part) (c : Counted) (a r : ℕ) : Type 0 where
  pub is : ForSteps table plan cells p (λ (d : Dossier) (op : Operation). r ≡ adds c p.concretes.bindings p.inputs.bindings d op a)
  pub few : r ≤ 4096

-- the count of operation j
pub record TotalIs (table rows firsts groups : List ℕ) (operations j : ℕ) (c : Counted) (r : ℕ) : Type 0 where
  pub is : ForOperation table rows firsts groups operations j
      (λ (d : Dossier) (op : Operation). r ≡ weight (abstract_state d) (λ (a : ℕ). adds c (concrete_count d) (input_count d op) d op a) (abstract_count d))

-- abstract_states(..), related_pairs(..), promises(.., j): of a dossier that has an operation, of which the first one is asked where none is given
pub record StatesCounted (table rows firsts groups : List ℕ) (operations r : ℕ) : Type 0 where
  pub is : ForOperation table rows firsts groups operations 0 (λ (d : Dossier) (op : Operation). r ≡ tally (abstract_state d) (abstract_count d))

pub record PairsCounted (table rows firsts groups : List ℕ) (operations r : ℕ) : Type 0 where
  pub is : ForOperation table rows firsts groups operations 0
      (λ (d : Dossier) (op : Operation). r ≡ weight (abstract_state d) (λ (a : ℕ). tally (related_to d a) (concrete_count d)) (abstract_count d))

pub record PromisesCounted (table rows firsts groups : List ℕ) (operations j r : ℕ) : Type 0 where
  pub is : ForOperation table rows firsts groups operations j
      (λ (d : Dossier) (op : Operation). r ≡ weight (abstract_state d) (λ (a : ℕ). tally (ready_at d op a) (input_count d op)) (abstract_count d))
