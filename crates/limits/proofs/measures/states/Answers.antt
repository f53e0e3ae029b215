-- `measures::states` meets its contract. Assumes nothing.
use mathlib.Core.Path.{refl}
use mathlib.Core.List.{[]}
use Rattle.type_rules.specs.TypesByNumber.{fault_key}
use Rattle.limits.proofs.SizePass.{reach-as, states-seen}
use Rattle.limits.proofs.measures.states.Goals as goal

pub returns : goal.returns
returns c = let a = c.of-a.ensures in let b = c.of-c.ensures in states-seen c.args.p.now.nodes.now c.args.p.now.spans.now _ _ [] _ _ c.args.bounds.now _ _ (fault_key c.context-f.result) (fault_key c.context-g.result) _ c.states-s.ensures.abstracts c.states-s.ensures.concretes refl c.span.ensures.0 c.span-2.ensures.0 (reach-as a.0 a.1 a.2 a.3 c.context-f.ensures) (reach-as b.0 b.1 b.2 b.3 c.context-g.ensures) c.lesser_of.ensures
