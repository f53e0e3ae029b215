-- `measures::measure` meets its contract. Assumes nothing.
use mathlib.Core.Path.{ap, ◌∙◌}
use Rattle.type_rules.specs.TypesByNumber.{fault_key, lesser}
use Rattle.limits.proofs.SizePassOperations.{too_many, measures-seen}
use Rattle.limits.proofs.measures.measure.Goals as goal

pub returns-then-p-gt-ROOM : goal.returns-then-p-gt-ROOM
returns-then-p-gt-ROOM c = too_many c.args.p.now.nodes.now c.args.p.now.spans.now c.args.p.now.operations _ c.args.p.now.long c.if-p-gt-ROOM.true

pub returns : goal.returns
returns c = measures-seen c.args.p.now.nodes.now c.args.p.now.spans.now c.args.p.now.operations _ _ _ _ _ (fault_key c.states-f.result) (fault_key c.conditions-g.result) (fault_key c.operations-h.result) _ c.requires (c.states-f.ensures c.args.p.now.operations) (c.conditions-g.ensures c.args.p.now.operations) c.operations-h.ensures (c.lesser_of-2.ensures ∙ ap (lesser (fault_key c.states-f.result)) c.lesser_of.ensures)
