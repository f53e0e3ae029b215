-- Idle variables: no test of the inner searches depends on them. Nothing here need be believed.
use Rattle.std.specs.Prelude.{Bool, List, ℕ}
use Rattle.points.specs.Points.{Point, number_of}
use Rattle.nest_steps.specs.PartTests.{PartTests}
use Rattle.nest_steps.specs.NestPromises.{Groups}
use Rattle.idle_variables.specs.KeyedNumbers.{Ignores}

module _ (cells : List ℕ) (G : Groups) (T : PartTests) where
  abbrev pub related_of : Point → Bool
  related_of δ = T.related (number_of cells G.abstracts δ) (number_of cells G.concretes δ)

  abbrev pub ready_of : Point → Bool
  ready_of δ = T.ready (number_of cells G.abstracts δ) (number_of cells G.inputs δ)

  abbrev pub steps_of : Point → Bool
  steps_of δ = T.steps (number_of cells G.concretes δ) (number_of cells G.inputs δ) (number_of cells G.outputs δ) (number_of cells G.primes δ)

  abbrev pub met_of : Point → Bool
  met_of δ =
      T.met (number_of cells G.abstracts δ) (number_of cells G.concretes δ) (number_of cells G.inputs δ) (number_of cells G.outputs δ) (number_of cells G.primes δ)

  -- of the abstract variables, for blocks of pairs; of the concrete ones
  pub record IdlePairs (abstractly concretely : ℕ) : Type 0 where
    pub ready : Ignores cells ready_of abstractly G.abstracts
    pub met : Ignores cells met_of abstractly G.abstracts
    pub steps : Ignores cells steps_of concretely G.concretes
    pub met_concrete : Ignores cells met_of concretely G.concretes

  -- of the abstract variables, for blocks of an abstract state
  pub record IdleWholes (abstractly : ℕ) : Type 0 where
    pub related : Ignores cells related_of abstractly G.abstracts
    pub ready : Ignores cells ready_of abstractly G.abstracts
    pub met : Ignores cells met_of abstractly G.abstracts
