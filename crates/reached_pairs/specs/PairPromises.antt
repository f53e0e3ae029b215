-- What each function of the search for reached pairs asks and promises: which pairs may get which marks, and which must have one then. Nothing here need be believed.
use Rattle.std.specs.Prelude.{◌≡◌, Bool, true, Option, None, IfSome, List, ℕ, ◌+◌, ◌*◌, ◌/◌, ◌%◌, ◌<◌, ◌≤◌, length}
use Rattle.form.specs.Tree.{Operation, Dossier}
use Rattle.static_rules.specs.Scope.{inputs}
use Rattle.meaning.specs.Bindings.{bindings}
use Rattle.plans.specs.declared.Part.{Part}
use Rattle.step_searches.specs.ReadingsReadings.{ReadingOf}
use Rattle.step_searches.specs.PartTestsPartsByNumber.{abstract_at, concrete_at, output_at, initial, initial_match, concretely, match}
use Rattle.step_searches.specs.declared.Stepped.{Stepped}
use Rattle.step_searches.specs.StepPromises.{StepsAsked, ForSteps, OpeningAsked, ForOpening}
use Rattle.reached_pairs.specs.declared.marks.Mark.{Mark}
use Rattle.reached_pairs.specs.Reached.{layer_in, PairsReached}
use Rattle.reached_pairs.specs.ReachedByNumber.{many_pairs, abstract_of, concrete_of, Begins, Leads, Layered, Grown, Hits, MarkFrom, MayBegin, MayFrom, MustFrom, MustBelow}

-- ---- one operation

abbrev pub stepped : (a i o k : ℕ) → Stepped
stepped a i o k = record { a = a; i = i; o = o; k = k }

module _ (d : Dossier) (op : Operation) where
  -- beside a concrete step: the pairs with its state after and an abstract state that matches it
  abbrev pub match_test : Stepped → ℕ → Bool
  match_test b x = match d op b.a b.i b.o b.k (abstract_at d x)

  pub record MatchedBy (b : Stepped) (y : ℕ) : Type 0 where
    pub inside : y < many_pairs d
    pub concrete_is : concrete_of d y ≡ b.k
    pub matched : match_test b (abstract_of d y) ≡ true

  abbrev pub MatchMay : (b : Stepped) (m : Mark) → (y : ℕ) (v : Mark) → Type 0
  MatchMay b m y v = (v ≡ m) × MatchedBy b y

  -- the abstract states below x have been found; n: how many concrete bindings there are
  abbrev pub PairAt : (n k : ℕ) → (x y : ℕ) → Type 0
  PairAt n k x y = y ≡ x * n + k

  abbrev pub MatchGrown : (n : ℕ) (b : Stepped) (m : Mark) (x : ℕ) (before after : List Mark) → Type 0
  MatchGrown n b m x before after = Grown (MatchMay b m) (Hits (match_test b) (PairAt n b.k) x) before after

  -- from the pair x, with the i-th inputs: the steps below r have been found
  abbrev pub step_test : (n c i : ℕ) → ℕ → Bool
  step_test n c i r = concretely d op c i (output_at d op (r / n)) (concrete_at d (r % n))

  abbrev pub LeadMay : (i x : ℕ) (m : Mark) → (y : ℕ) (v : Mark) → Type 0
  LeadMay i x m y v = (v ≡ m) × Leads d op i x y

  abbrev pub StepTo : (n i x : ℕ) → (r y : ℕ) → Type 0
  StepTo n i x r y = MatchedBy (stepped (x / n) i (r / n) (r % n)) y

  abbrev pub StepGrown : (n i x : ℕ) (m : Mark) (r : ℕ) (before after : List Mark) → Type 0
  StepGrown n i x m r before after = Grown (LeadMay i x m) (Hits (step_test n (x % n) i) (StepTo n i x) r) before after

  -- the inputs below i, for marks of layer n + 1 by operation j
  pub record InputMay (j n x y : ℕ) (v : Mark) : Type 0 where
    pub input : ℕ
    pub low : input < length (bindings (inputs d op))
    pub from : MarkFrom j input x n v
    pub leads : Leads d op input x y

  abbrev pub InputTo : (x i y : ℕ) → Type 0
  InputTo x i y = Leads d op i x y

  abbrev pub InputMust : (x i y : ℕ) → Type 0
  InputMust x i y = Hits (λ (z : ℕ). true) (InputTo x) i y

  abbrev pub InputGrown : (j n x i : ℕ) (before after : List Mark) → Type 0
  InputGrown j n x i before after = Grown (InputMay j n x) (InputMust x i) before after

  -- the pairs below x that are of layer n; e: how many inputs there are
  pub record PairMay (j n : ℕ) (marks : List Mark) (y : ℕ) (v : Mark) : Type 0 where
    pub pair : ℕ
    pub low : pair < many_pairs d
    pub layer_is : layer_in marks pair ≡ n
    pub may : InputMay j n pair y v

  abbrev pub PairTo : (n e : ℕ) (marks : List Mark) → (x y : ℕ) → Type 0
  PairTo n e marks x y = (layer_in marks x ≡ n) × InputMust x e y

  abbrev pub PairGrown : (j n e x : ℕ) (before after : List Mark) → Type 0
  PairGrown j n e x before after = Grown (PairMay j n before) (Hits (λ (z : ℕ). true) (PairTo n e before) x) before after

-- room for all pairs
pub record PairsAsked (table plan cells : List ℕ) (p : Part) : Type 0 where
  pub steps : StepsAsked table plan cells p
  pub room : p.abstracts.bindings * p.concretes.bindings ≤ 262144

module _ (table plan cells : List ℕ) (p : Part) where
  -- spread_matches(s, b, m, memo, marks)
  pub record MatchesSpread (b : Stepped) (m : Mark) (before after : List Mark) : Type 0 where
    pub each : ForSteps table plan cells p (λ (d : Dossier) (op : Operation). Grown (MatchMay d op b m) (MatchedBy d op b) before after)

  pub record MatchesSpreading (b : Stepped) (m : Mark) (x : ℕ) (before after : List Mark) : Type 0 where
    pub found : ForSteps table plan cells p (λ (d : Dossier) (op : Operation). x < p.abstracts.bindings → match_test d op b x ≡ true)
    pub each : ForSteps table plan cells p (λ (d : Dossier) (op : Operation). MatchGrown d op p.concretes.bindings b m x before after)

  -- spread_steps(s, x, i, m, memo, marks)
  pub record StepsSpread (x i : ℕ) (m : Mark) (before after : List Mark) : Type 0 where
    pub each : ForSteps table plan cells p (λ (d : Dossier) (op : Operation). Grown (LeadMay d op i x m) (Leads d op i x) before after)

  pub record StepsSpreading (x i : ℕ) (m : Mark) (r : ℕ) (before after : List Mark) : Type 0 where
    pub found : ForSteps table plan cells p (λ (d : Dossier) (op : Operation). r < p.outputs.bindings * p.concretes.bindings → step_test d op p.concretes.bindings (x % p.concretes.bindings) i r ≡ true)
    pub each : ForSteps table plan cells p (λ (d : Dossier) (op : Operation). StepGrown d op p.concretes.bindings i x m r before after)

  -- spread_inputs(s, x, j, n, memo, marks); the inputs below i
  pub record InputsSpread (x j n i : ℕ) (before after : List Mark) : Type 0 where
    pub each : ForSteps table plan cells p (λ (d : Dossier) (op : Operation). InputGrown d op j n x i before after)

  -- spread_pair(s, x, j, n, memo, marks)
  pub record PairSpread (x j n : ℕ) (before after : List Mark) : Type 0 where
    pub each : ForSteps table plan cells p (λ (d : Dossier) (op : Operation). Grown (PairMay d op j n before) (PairTo d op n p.inputs.bindings before x) before after)

  -- spread_pairs(s, j, n, memo, marks); the pairs below x
  pub record PairsSpread (j n x : ℕ) (before after : List Mark) : Type 0 where
    pub each : ForSteps table plan cells p (λ (d : Dossier) (op : Operation). PairGrown d op j n p.inputs.bindings x before after)

-- ---- a layer

-- its pairs have room
pub record PairsAre (table rows firsts groups : List ℕ) (pairs : ℕ) : Type 0 where
  pub room : pairs ≤ 262144
  pub are : (d : Dossier) → ReadingOf table rows firsts groups d → pairs ≡ many_pairs d

-- there is room for all of them
pub record PairsFit (table rows firsts groups : List ℕ) : Type 0 where
  pub room : (d : Dossier) → ReadingOf table rows firsts groups d → many_pairs d ≤ 262144

-- spread(d, j, n, marks)
pub record OperationSpread (table rows firsts groups : List ℕ) (j n : ℕ) (before after : List Mark) : Type 0 where
  pub each : (d : Dossier) → ReadingOf table rows firsts groups d → j < length d.operations → Grown (MayFrom d n before) (MustFrom d j n before) before after

-- spread_layer(d, n, marks); the operations below j
pub record LayerSpread (table rows firsts groups : List ℕ) (j n : ℕ) (before after : List Mark) : Type 0 where
  pub each : (d : Dossier) → ReadingOf table rows firsts groups d → j ≤ length d.operations → Grown (MayFrom d n before) (MustBelow d j n before) before after

-- all layers below n are gone through
pub record Layers (table rows firsts groups : List ℕ) (operations n : ℕ) (marks : List Mark) : Type 0 where
  pub each : (d : Dossier) → ReadingOf table rows firsts groups d → operations ≡ length d.operations → Layered d n marks

-- ---- the first layer

module _ (d : Dossier) where
  -- with the concrete state c: the abstract states below x; n: how many concrete bindings there are
  abbrev pub open_test : (c x : ℕ) → Bool
  open_test c x = initial_match d c (abstract_at d x)

  pub record BegunWith (c y : ℕ) : Type 0 where
    pub inside : y < many_pairs d
    pub concrete_is : concrete_of d y ≡ c
    pub matched : open_test c (abstract_of d y) ≡ true

  abbrev pub BegunMay : (c : ℕ) (m : Mark) → (y : ℕ) (v : Mark) → Type 0
  BegunMay c m y v = (v ≡ m) × BegunWith c y

  abbrev pub OpenGrown : (n c : ℕ) (m : Mark) (x : ℕ) (before after : List Mark) → Type 0
  OpenGrown n c m x before after = Grown (BegunMay c m) (Hits (open_test c) (λ (x y : ℕ). y ≡ x * n + c) x) before after

  -- the concrete states below c
  abbrev pub StatesGrown : (c : ℕ) (before after : List Mark) → Type 0
  StatesGrown c before after = Grown (MayBegin d) (Hits (initial d) BegunWith c) before after

pub record OpenPairsAsked (table plan cells : List ℕ) (p : Part) : Type 0 where
  pub opening : OpeningAsked table plan cells p
  pub room : p.meeting.bindings * p.concretes.bindings ≤ 262144

module _ (table plan cells : List ℕ) (p : Part) where
  -- begin_with(s, c, memo, marks)
  pub record MatchesBegun (c : ℕ) (m : Mark) (before after : List Mark) : Type 0 where
    pub each : ForOpening table plan cells p (λ (d : Dossier). Grown (BegunMay d c m) (BegunWith d c) before after)

  pub record MatchesBeginning (c : ℕ) (m : Mark) (x : ℕ) (before after : List Mark) : Type 0 where
    pub found : ForOpening table plan cells p (λ (d : Dossier). x < p.meeting.bindings → open_test d c x ≡ true)
    pub each : ForOpening table plan cells p (λ (d : Dossier). OpenGrown d p.concretes.bindings c m x before after)

  -- begin_all(s, memo, marks)
  pub record StatesBegun (before after : List Mark) : Type 0 where
    pub each : ForOpening table plan cells p (λ (d : Dossier). Grown (MayBegin d) (Begins d) before after)

  pub record StatesBeginning (c : ℕ) (before after : List Mark) : Type 0 where
    pub found : ForOpening table plan cells p (λ (d : Dossier). c < p.concretes.bindings → initial d c ≡ true)
    pub each : ForOpening table plan cells p (λ (d : Dossier). StatesGrown d c before after)

-- begin(d, marks): how many pairs there are, or none where there is no room for them
pub record Begun (table rows firsts groups : List ℕ) (before after : List Mark) (r : Option ℕ) : Type 0 where
  pub none : r ≡ None → after ≡ before
  pub pairs : IfSome r (PairsAre table rows firsts groups)
  pub each : IfSome r (λ (n : ℕ). (d : Dossier) → ReadingOf table rows firsts groups d → Grown (MayBegin d) (Begins d) before after)

-- ---- the whole search

pub record ReachAnswers (table rows firsts groups : List ℕ) (operations : ℕ) (marks : List Mark) (whole : Bool) : Type 0 where
  pub each : (d : Dossier) → ReadingOf table rows firsts groups d → operations ≡ length d.operations → PairsReached d marks whole
