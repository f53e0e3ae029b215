-- `passes::set_state` meets its contract. Assumes nothing.
use mathlib.Core.Path.{ap, ◌∙◌}
use Prim.Native.Nat.{ℕ, ◌+◌}
use Rattle.node_spans.specs.Spans.{span}
use Rattle.table_places.proofs.WritingAll.{state-read}
use Rattle.tables.proofs.WritingContexts.{state-set}
use Rattle.tables.proofs.passes.set_state.Goals as goal

pub returns : goal.returns
returns c = state-read c.args.s.now.parts.nodes.now _ _ _ _ _ _ _ _ c.args.s.now.sizes.now _ _ (c.span-end.ensures.0 ∙ ap (λ (k : ℕ). span c.args.s.now.parts.spans.now (k + 2)) c.first.ensures.0) (state-set c.args.s.now.parts.nodes.now _ _ _ _ c.args.names.now _ _ _ c.args.places.now _ c.args.s.now.sizes.now c.args.out.now _ c.variables-variables.ensures c.show.ensures c.set_predicate.ensures c.hide.ensures)
