-- `declared_types::given_index` meets its contract. Assumes nothing.
use mathlib.Core.Path.{ap, ◌∙◌}
use Prim.Native.Nat.{ℕ}
use Rattle.std.specs.Prelude.{Option}
use Rattle.std.specs.Option.{unwrap_or}
use Rattle.table_places.proofs.WritingTypes.{index-of}
use Rattle.table_places.proofs.declared_types.given_index.Goals as goal

pub returns : goal.returns
returns c = index-of c.args.k c.unwrap_or.result (c.unwrap_or.ensures ∙ ap (λ (o : Option ℕ). unwrap_or o 0) c.given.ensures)
