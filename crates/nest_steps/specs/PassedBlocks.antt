-- Blocks that pass as a whole: all bindings with an abstract and a concrete state, or with an abstract state; and marks for them, by keys. Nothing here need be believed.
use Rattle.std.specs.Prelude.{◌≡◌, true, List, ℕ, ◌+◌, ◌<◌, get_or}
use Rattle.plans.specs.declared.Part.{Part}
use Rattle.nest_steps.specs.PartTests.{PartTests, passes_at}

pub record PairPasses (p : Part) (T : PartTests) (a c : ℕ) : Type 0 where
  pub each : (i o k : ℕ) → i < p.inputs.bindings → o < p.outputs.bindings → k < p.primes.bindings → passes_at T a c i o k ≡ true

pub record WholePasses (p : Part) (T : PartTests) (a : ℕ) : Type 0 where
  pub each : (c : ℕ) → c < p.concretes.bindings → PairPasses p T a c

-- what the inner tests come to at two pairs of states, and at two abstract states, is the same
pub record PairsAlike (p : Part) (T : PartTests) (a c b d : ℕ) : Type 0 where
  pub ready : (i : ℕ) → i < p.inputs.bindings → T.ready b i ≡ T.ready a i
  pub steps : (i o k : ℕ) → i < p.inputs.bindings → o < p.outputs.bindings → k < p.primes.bindings → T.steps d i o k ≡ T.steps c i o k
  pub met : (i o k : ℕ) → i < p.inputs.bindings → o < p.outputs.bindings → k < p.primes.bindings → T.met b d i o k ≡ T.met a c i o k

pub record WholesAlike (p : Part) (T : PartTests) (a b : ℕ) : Type 0 where
  pub related : (c : ℕ) → c < p.concretes.bindings → T.related b c ≡ T.related a c
  pub pairs : (c : ℕ) → c < p.concretes.bindings → PairsAlike p T a c b c

-- keys: the same key means alike
pub record PairKeys (p : Part) (T : PartTests) (ka kc : ℕ → ℕ) : Type 0 where
  pub alike : (a c b d : ℕ) → a < p.abstracts.bindings → c < p.concretes.bindings → b < p.abstracts.bindings → d < p.concretes.bindings → ka b ≡ ka a → kc d ≡ kc c → PairsAlike p T a c b d

pub record WholeKeys (p : Part) (T : PartTests) (ka : ℕ → ℕ) : Type 0 where
  pub alike : (a b : ℕ) → a < p.abstracts.bindings → b < p.abstracts.bindings → ka b ≡ ka a → WholesAlike p T a b

-- where the mark of a pair stands at its key, its block passes; the same of an abstract state
pub record SeenPairs (p : Part) (T : PartTests) (ka kc : ℕ → ℕ) (seen : List ℕ) : Type 0 where
  pub passes : (a c : ℕ) → a < p.abstracts.bindings → c < p.concretes.bindings → get_or seen (kc c) 0 ≡ ka a + 1 → PairPasses p T a c

pub record SeenWholes (p : Part) (T : PartTests) (ka : ℕ → ℕ) (done : List ℕ) : Type 0 where
  pub passes : (a : ℕ) → a < p.abstracts.bindings → get_or done (ka a) 0 ≡ 1 → WholePasses p T a
