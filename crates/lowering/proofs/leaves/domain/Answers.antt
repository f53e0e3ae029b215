-- `leaves::domain` meets its contract. Assumes nothing.
use mathlib.Core.List.{[]}
use mathlib.Core.Path.{refl}
use native.Mathlib.Omega.{arith}
use Rattle.lowering.proofs.TableWalk.{domain-short}
use Rattle.lowering.proofs.TableWalkPreds.{domain-given, domain-range}
use Rattle.lowering.proofs.leaves.domain.Goals as goal

pub returns-in_default : goal.returns-in_default
returns-in_default c = domain-short c.args.r.now.code.now c.args.end 0 c.requires.inside c.args.names.now [] c.args.r.now.sizes.now c.args.out.now _ c.nothing.ensures (let n = c.in_default.ensures in omega arith)

pub returns-then-r-at-eq-SET : goal.returns-then-r-at-eq-SET
returns-then-r-at-eq-SET c = domain-given c.args.r.now.code.now c.args.end 0 c.requires.inside c.in-Some.ensures.0 c.args.names.now [] c.args.r.now.sizes.now c.args.out.now c.requires.fits _ _ c.from.result c.entry-e.result c.given_size-n.result c.in-Some.ensures.1 c.if-r-at-eq-SET.true c.from.ensures c.entry-e.ensures c.given_size-n.ensures c.set_node.ensures c.element_of.ensures refl

pub returns : goal.returns
returns c = domain-range c.args.r.now.code.now c.args.end 0 c.requires.inside c.in-Some.ensures.0 c.args.names.now [] c.args.r.now.sizes.now c.args.out.now c.requires.fits _ _ _ _ c.range_count-n.result c.in-Some.ensures.1 c.if-r-at-eq-SET.false refl refl c.range_count-n.ensures c.set_node-2.ensures refl refl
