-- The tests of a part by the numbers of its groups' bindings: abstract, concrete, inputs, outputs, concrete primed. Nothing here need be believed.
use Rattle.std.specs.Prelude.{◌≡◌, Option, None, Some, Bool, true, false, not, ◌&&◌, ◌||◌, ℕ, ◌*◌, ◌/◌, ◌%◌, ◌<◌, ◌≤◌}
use Rattle.plans.specs.declared.Part.{Part}

-- the premises one after the other, and what must be there where they hold; `front`: no test without a primed variable excludes these outputs
pub record PartTests : Type 0 where
  pub state : (a : ℕ) → Bool
  pub related : (a c : ℕ) → Bool
  pub ready : (a i : ℕ) → Bool
  pub front : (c i o : ℕ) → Bool
  pub steps : (c i o k : ℕ) → Bool
  pub met : (a c i o k : ℕ) → Bool

-- a binding passes
unfoldable pub passes_at : PartTests → (a c i o k : ℕ) → Bool
passes_at T a c i o k = not (T.state a && T.related a c && T.ready a i && T.steps c i o k) || T.met a c i o k

-- the same at a place, the last group fastest
unfoldable pub passes_from : PartTests → (nc ni nq nk : ℕ) → (place : ℕ) → Bool
passes_from T nc ni nq nk place =
    passes_at T (place / nk / nq / ni / nc) (place / nk / nq / ni % nc) (place / nk / nq % ni) (place / nk % nq) (place % nk)

-- how many places a part has: the bindings of its groups, one of each; what passes at a place of it
abbrev pub places : Part → ℕ
places p = p.abstracts.bindings * p.concretes.bindings * p.inputs.bindings * p.outputs.bindings * p.primes.bindings

abbrev pub passing : Part → PartTests → ℕ → Bool
passing p T = passes_from T p.concretes.bindings p.inputs.bindings p.outputs.bindings p.primes.bindings

-- where a search up to an end stopped that found the first failing place, or none
abbrev pub stopped_at : (end : ℕ) → Option ℕ → ℕ
stopped_at end None = end
stopped_at end (Some at) = at

-- from a place up to an end: all before `at` pass; it failed there, or it came to the end
pub record Looked (f : ℕ → Bool) (from end at : ℕ) (failed : Bool) : Type 0 where
  pub low : from ≤ at
  pub high : at ≤ end
  pub past : (j : ℕ) → from ≤ j → j < at → f j ≡ true
  pub whole : failed ≡ false → at ≡ end
  pub fault : failed ≡ true → (at < end) × (f at ≡ false)
