-- Keyed tests: two bindings of a group with the same key have the same inner tests, by the numbers of the groups. Assumes nothing.
-- Form 8: the five laws `put-` say which of the numbers of `AtNumbers` is the one put, and of which of its ten facts `Nest` each of the four others takes one.
use mathlib.Core.Path.{◌≡◌, refl, sym, ap₂, subst, ◌∙◌}
use mathlib.Core.Bool.{Bool}
use mathlib.Core.List.{List}
use Prim.Native.Nat.{ℕ, ◌<◌}
use Rattle.points.specs.Points.{Point, span, number_of, placed, Tame, Apart, Distinct}
use Rattle.points.proofs.PointNumbers.{Counts, number-apart, number-placed, beside_placed, tame-placed, distinct-upward}
use Rattle.points.proofs.SearchLevels.{planned-counts, planned-front, planned-rest}
use Rattle.plans.specs.declared.Part.{Part}
use Rattle.nest_steps.specs.PartTests.{PartTests}
use Rattle.nest_steps.specs.NestPromises.{Groups, Nest}
use Rattle.nest_steps.proofs.KeptGroups.{abstracts-concretes, abstracts-inputs, abstracts-outputs, abstracts-primes, concretes-inputs, concretes-outputs, concretes-primes}
use Rattle.nest_steps.proofs.KeptGroups.{inputs-outputs, inputs-primes, outputs-primes, distinct-left, distinct-right}
use Rattle.nest_steps.proofs.BoundInputs.{upward-counts}
use Rattle.idle_variables.specs.KeyedNumbers.{keyed, Ignores}
use Rattle.nest_steps.specs.PassedBlocks.{PairKeys, WholeKeys}
use Rattle.nest_steps.specs.IdleGroups.{related_of, ready_of, steps_of, met_of, IdlePairs, IdleWholes}
use Rattle.idle_variables.proofs.KeyedPoints.{same_key}

apart-back : {us ss : List ℕ} → Apart us ss → Apart ss us
apart-back a = record { none = λ s m n. a.none s n m }

-- a group that can be placed
pub record Placing (cells ss : List ℕ) (n : ℕ) : Type 0 where
  pub distinct : Distinct ss
  pub counts : Counts cells ss
  pub many : n ≡ span cells ss

-- a point at which the groups have given numbers
pub record AtNumbers (cells : List ℕ) (G : Groups) (a c i o k : ℕ) (δ : Point) : Type 0 where
  pub tame : Tame cells δ
  pub abstract_is : number_of cells G.abstracts δ ≡ a
  pub concrete_is : number_of cells G.concretes δ ≡ c
  pub input_is : number_of cells G.inputs δ ≡ i
  pub output_is : number_of cells G.outputs δ ≡ o
  pub prime_is : number_of cells G.primes δ ≡ k

module _ {cells ss : List ℕ} {n : ℕ} (w : Placing cells ss n) (δ : Point) (τ : Tame cells δ) (x : ℕ) (h : x < n) where
  low : x < span cells ss
  low = subst (λ (m : ℕ). x < m) w.many h

  placed-tame : Tame cells (placed cells ss δ x)
  placed-tame = tame-placed cells ss δ x τ w.counts low

  placed-is : number_of cells ss (placed cells ss δ x) ≡ x
  placed-is = number-placed cells ss δ x w.distinct w.counts low

  placed-apart : (us : List ℕ) → Apart us ss → number_of cells us (placed cells ss δ x) ≡ number_of cells us δ
  placed-apart us a = number-apart cells us ss δ _ a (beside_placed cells ss δ x)

-- the same test at two of its bindings with one key
by-key : {cells ss : List ℕ} {n : ℕ} (w : Placing cells ss n) (P : Point → Bool) (idle x y : ℕ) → x < n → y < n → Ignores cells P idle ss → keyed cells ss idle y ≡ keyed cells ss idle x
    → (ε : Point) → Tame cells ε → P (placed cells ss ε y) ≡ P (placed cells ss ε x)
by-key {cells} {ss} w P idle x y hx hy f e ε υ = same_key cells P ss idle y x ε υ w.distinct w.counts (low w ε υ y hy) (low w ε υ x hx) f e

module _ {table plan cells : List ℕ} {p : Part} {G : Groups} {T : PartTests} (N : Nest table plan cells p G T) where
  place-a : Placing cells G.abstracts p.abstracts.bindings
  place-a = record { distinct = N.states.distinct; counts = planned-counts N.states.planned; many = N.sized.abstracts.counted }

  place-c : Placing cells G.concretes p.concretes.bindings
  place-c = record { distinct = N.related.distinct; counts = planned-counts N.related.planned; many = N.sized.concretes.counted }

  pub place-i : Placing cells G.inputs p.inputs.bindings
  place-i = record {
    distinct = subst Distinct (sym N.sized.inputs_are) (distinct-upward 16 p.inputs.variables);
    counts = subst (Counts cells) (sym N.sized.inputs_are) (upward-counts cells 16 p.inputs.variables N.sized.grouped);
    many = N.sized.inputs.counted;
  }

  place-o : Placing cells G.outputs p.outputs.bindings
  place-o = record {
    distinct = distinct-left G.outputs G.primes N.steps.distinct;
    counts = planned-counts (planned-front G.outputs G.primes N.steps.planned);
    many = N.sized.outputs.counted;
  }

  place-k : Placing cells G.primes p.primes.bindings
  place-k = record {
    distinct = distinct-right G.outputs G.primes N.steps.distinct;
    counts = planned-counts (planned-rest G.outputs G.primes N.steps.planned);
    many = N.sized.primes.counted;
  }

  -- another abstract state, another concrete state
  put-abstract : {a c i o k : ℕ} (b : ℕ) → b < p.abstracts.bindings → (δ : Point) → AtNumbers cells G a c i o k δ → AtNumbers cells G b c i o k (placed cells G.abstracts δ b)
  put-abstract b h δ w = record {
    tame = placed-tame place-a δ w.tame b h;
    abstract_is = placed-is place-a δ w.tame b h;
    concrete_is = placed-apart place-a δ w.tame b h G.concretes (apart-back (abstracts-concretes N)) ∙ w.concrete_is;
    input_is = placed-apart place-a δ w.tame b h G.inputs (apart-back (abstracts-inputs N)) ∙ w.input_is;
    output_is = placed-apart place-a δ w.tame b h G.outputs (apart-back (abstracts-outputs N)) ∙ w.output_is;
    prime_is = placed-apart place-a δ w.tame b h G.primes (apart-back (abstracts-primes N)) ∙ w.prime_is;
  }

  put-concrete : {a c i o k : ℕ} (d : ℕ) → d < p.concretes.bindings → (δ : Point) → AtNumbers cells G a c i o k δ → AtNumbers cells G a d i o k (placed cells G.concretes δ d)
  put-concrete d h δ w = record {
    tame = placed-tame place-c δ w.tame d h;
    abstract_is = placed-apart place-c δ w.tame d h G.abstracts (abstracts-concretes N) ∙ w.abstract_is;
    concrete_is = placed-is place-c δ w.tame d h;
    input_is = placed-apart place-c δ w.tame d h G.inputs (apart-back (concretes-inputs N)) ∙ w.input_is;
    output_is = placed-apart place-c δ w.tame d h G.outputs (apart-back (concretes-outputs N)) ∙ w.output_is;
    prime_is = placed-apart place-c δ w.tame d h G.primes (apart-back (concretes-primes N)) ∙ w.prime_is;
  }

  put-input : {a c i o k : ℕ} (j : ℕ) → j < p.inputs.bindings → (δ : Point) → AtNumbers cells G a c i o k δ → AtNumbers cells G a c j o k (placed cells G.inputs δ j)
  put-input j h δ w = record {
    tame = placed-tame place-i δ w.tame j h;
    abstract_is = placed-apart place-i δ w.tame j h G.abstracts (abstracts-inputs N) ∙ w.abstract_is;
    concrete_is = placed-apart place-i δ w.tame j h G.concretes (concretes-inputs N) ∙ w.concrete_is;
    input_is = placed-is place-i δ w.tame j h;
    output_is = placed-apart place-i δ w.tame j h G.outputs (apart-back (inputs-outputs N)) ∙ w.output_is;
    prime_is = placed-apart place-i δ w.tame j h G.primes (apart-back (inputs-primes N)) ∙ w.prime_is;
  }

  put-output : {a c i o k : ℕ} (q : ℕ) → q < p.outputs.bindings → (δ : Point) → AtNumbers cells G a c i o k δ → AtNumbers cells G a c i q k (placed cells G.outputs δ q)
  put-output q h δ w = record {
    tame = placed-tame place-o δ w.tame q h;
    abstract_is = placed-apart place-o δ w.tame q h G.abstracts (abstracts-outputs N) ∙ w.abstract_is;
    concrete_is = placed-apart place-o δ w.tame q h G.concretes (concretes-outputs N) ∙ w.concrete_is;
    input_is = placed-apart place-o δ w.tame q h G.inputs (inputs-outputs N) ∙ w.input_is;
    output_is = placed-is place-o δ w.tame q h;
    prime_is = placed-apart place-o δ w.tame q h G.primes (apart-back (outputs-primes N)) ∙ w.prime_is;
  }

  put_prime : {a c i o k : ℕ} (l : ℕ) → l < p.primes.bindings → (δ : Point) → AtNumbers cells G a c i o k δ → AtNumbers cells G a c i o l (placed cells G.primes δ l)
  put_prime l h δ w = record {
    tame = placed-tame place-k δ w.tame l h;
    abstract_is = placed-apart place-k δ w.tame l h G.abstracts (abstracts-primes N) ∙ w.abstract_is;
    concrete_is = placed-apart place-k δ w.tame l h G.concretes (concretes-primes N) ∙ w.concrete_is;
    input_is = placed-apart place-k δ w.tame l h G.inputs (inputs-primes N) ∙ w.input_is;
    output_is = placed-apart place-k δ w.tame l h G.outputs (outputs-primes N) ∙ w.output_is;
    prime_is = placed-is place-k δ w.tame l h;
  }

  module _ (δ : Point) (τ : Tame cells δ) where
    -- some point has the numbers of these inputs, outputs and after state
    pub record Somewhere (c i o k : ℕ) : Type 0 where
      pub point : Point
      pub abstract : ℕ
      pub at : AtNumbers cells G abstract c i o k point

    somewhere : (c i o k : ℕ) → c < p.concretes.bindings → i < p.inputs.bindings → o < p.outputs.bindings → k < p.primes.bindings → Somewhere c i o k
    somewhere c i o k hc hi ho hk = record {
      point = _;
      abstract = _;
      at = put_prime k hk _ (put-output o ho _ (put-input i hi _ (put-concrete c hc δ
          (record { tame = τ; abstract_is = refl; concrete_is = refl; input_is = refl; output_is = refl; prime_is = refl }))));
    }

    -- by the numbers of a point
    ready_at : {a c i o k : ℕ} {ε : Point} → AtNumbers cells G a c i o k ε → ready_of cells G T ε ≡ T.ready a i
    ready_at w = ap₂ T.ready w.abstract_is w.input_is

    related-at : {a c i o k : ℕ} {ε : Point} → AtNumbers cells G a c i o k ε → related_of cells G T ε ≡ T.related a c
    related-at w = ap₂ T.related w.abstract_is w.concrete_is

    steps-at : {a c i o k : ℕ} {ε : Point} → AtNumbers cells G a c i o k ε → steps_of cells G T ε ≡ T.steps c i o k
    steps-at {a} {c} {i} {o} {k} w = by _ _ _ _ c i o k w.concrete_is w.input_is w.output_is w.prime_is
      where
        by : (c i o k c' i' o' k' : ℕ) → c ≡ c' → i ≡ i' → o ≡ o' → k ≡ k' → T.steps c i o k ≡ T.steps c' i' o' k'
        by c i o k c' i' o' k' h₁ h₂ h₃ h₄ = cc

    met_at : {a c i o k : ℕ} {ε : Point} → AtNumbers cells G a c i o k ε → met_of cells G T ε ≡ T.met a c i o k
    met_at {a} {c} {i} {o} {k} w = by _ _ _ _ _ a c i o k w.abstract_is w.concrete_is w.input_is w.output_is w.prime_is
      where
        by : (a c i o k a' c' i' o' k' : ℕ) → a ≡ a' → c ≡ c' → i ≡ i' → o ≡ o' → k ≡ k' → T.met a c i o k ≡ T.met a' c' i' o' k'
        by a c i o k a' c' i' o' k' h₁ h₂ h₃ h₄ h₅ = cc

    module _ (idle a b : ℕ) (ha : a < p.abstracts.bindings) (hb : b < p.abstracts.bindings) (e : keyed cells G.abstracts idle b ≡ keyed cells G.abstracts idle a) where
      ready-same : Ignores cells (ready_of cells G T) idle G.abstracts → (i : ℕ) → i < p.inputs.bindings → T.ready b i ≡ T.ready a i
      ready-same f i hi =
          let s = somewhere 0 i 0 0 N.sized.some_c hi N.sized.some_o N.sized.some_k in
          sym (ready_at (put-abstract b hb s.point s.at))
          ∙ by-key place-a (ready_of cells G T) idle a b ha hb f e s.point s.at.tame
          ∙ ready_at (put-abstract a ha s.point s.at)

      related_same : Ignores cells (related_of cells G T) idle G.abstracts → (c : ℕ) → c < p.concretes.bindings → T.related b c ≡ T.related a c
      related_same f c hc =
          let s = somewhere c 0 0 0 hc N.sized.some_i N.sized.some_o N.sized.some_k in
          sym (related-at (put-abstract b hb s.point s.at))
          ∙ by-key place-a (related_of cells G T) idle a b ha hb f e s.point s.at.tame
          ∙ related-at (put-abstract a ha s.point s.at)

      met-same : Ignores cells (met_of cells G T) idle G.abstracts → (c i o k : ℕ) → c < p.concretes.bindings → i < p.inputs.bindings → o < p.outputs.bindings → k < p.primes.bindings → T.met b c i o k ≡ T.met a c i o k
      met-same f c i o k hc hi ho hk =
          let s = somewhere c i o k hc hi ho hk in
          sym (met_at (put-abstract b hb s.point s.at))
          ∙ by-key place-a (met_of cells G T) idle a b ha hb f e s.point s.at.tame
          ∙ met_at (put-abstract a ha s.point s.at)

    module _ (idle c d : ℕ) (hc : c < p.concretes.bindings) (hd : d < p.concretes.bindings) (e : keyed cells G.concretes idle d ≡ keyed cells G.concretes idle c) where
      steps-same : Ignores cells (steps_of cells G T) idle G.concretes → (i o k : ℕ) → i < p.inputs.bindings → o < p.outputs.bindings → k < p.primes.bindings → T.steps d i o k ≡ T.steps c i o k
      steps-same f i o k hi ho hk =
          let s = somewhere c i o k hc hi ho hk in
          sym (steps-at (put-concrete d hd s.point s.at))
          ∙ by-key place-c (steps_of cells G T) idle c d hc hd f e s.point s.at.tame
          ∙ steps-at (put-concrete c hc s.point s.at)

      met_concrete : Ignores cells (met_of cells G T) idle G.concretes → (a i o k : ℕ) → a < p.abstracts.bindings → i < p.inputs.bindings → o < p.outputs.bindings → k < p.primes.bindings → T.met a d i o k ≡ T.met a c i o k
      met_concrete f a i o k ha hi ho hk =
          let s = somewhere c i o k hc hi ho hk in
          let v = put-abstract a ha s.point s.at in
          sym (met_at (put-concrete d hd _ v))
          ∙ by-key place-c (met_of cells G T) idle c d hc hd f e _ v.tame
          ∙ met_at (put-concrete c hc _ v)

    pub pair-keys : {abstractly concretely : ℕ} → IdlePairs cells G T abstractly concretely
        → PairKeys p T (keyed cells G.abstracts abstractly) (keyed cells G.concretes concretely)
    pair-keys {abstractly} {concretely} w = record {
      alike = λ a c b d ha hc hb hd e f. record {
        ready = ready-same abstractly a b ha hb e w.ready;
        steps = steps-same concretely c d hc hd f w.steps;
        met = λ i o k hi ho hk. met-same abstractly a b ha hb e w.met d i o k hd hi ho hk ∙ met_concrete concretely c d hc hd f w.met_concrete a i o k ha hi ho hk;
      };
    }

    pub whole-keys : {abstractly : ℕ} → IdleWholes cells G T abstractly → WholeKeys p T (keyed cells G.abstracts abstractly)
    whole-keys {abstractly} w = record {
      alike = λ a b ha hb e. record {
        related = related_same abstractly a b ha hb e w.related;
        pairs = λ c hc. record {
          ready = ready-same abstractly a b ha hb e w.ready;
          steps = λ i o k hi ho hk. refl;
          met = λ i o k hi ho hk. met-same abstractly a b ha hb e w.met c i o k hc hi ho hk;
        };
      };
    }
