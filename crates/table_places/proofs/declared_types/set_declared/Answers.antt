-- `declared_types::set_declared` meets its contract. Assumes nothing.
use Rattle.table_places.proofs.WritingTypes.{declared-set}
use Rattle.table_places.proofs.declared_types.set_declared.Goals as goal

pub returns : goal.returns
returns c = declared-set c.args.s.now.nodes.now c.args.s.now.spans.now c.args.s.now.operations _ _ _ _ c.args.s.now.names.now c.args.s.now.sizes.now c.args.out.now _ _ _ c.span_at-a0.ensures.0 c.span_at-a1.ensures.0 c.span_at-c0.ensures.0 c.span_at-c1.ensures.0 c.set_types.ensures c.set_types-2.ensures c.set_parameter_types.ensures
