-- Where the numbers of a state begin among the spans.
use Rattle.std.specs.Prelude.{ℕ}
use Rattle.node_spans.specs.declared.span.State.{State}
use Rattle.node_spans.specs.declared.span.State.TheVariants.{Abstract, Concrete}

abbrev pub state_first : State → ℕ
state_first Abstract = 0
state_first Concrete = 3
