-- What the search of a part promises. Nothing here need be believed.
use Rattle.std.specs.Prelude.{Option, is_some, List, ℕ}
use Rattle.plans.specs.declared.Part.{Part}
use Rattle.nest_steps.specs.PartTests.{PartTests, passing, stopped_at, Looked}
use Rattle.nest_steps.specs.NestPromises.{Groups, Nest}

-- the whole part: the first place that fails, if one does
pub record SweepAnswers (table plan cells : List ℕ) (p : Part) (from end : ℕ) (failing : Option ℕ) : Type 0 where
  pub looked : (G : Groups) (T : PartTests) → Nest table plan cells p G T
      → Looked (passing p T) from end (stopped_at end failing) (is_some failing)
