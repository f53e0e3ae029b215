-- `bindings::all_operations` meets its contract: the fault so far and that of the operations that are left make that of all of them. Assumes nothing.
use native.Mathlib.Omega.{arith}
use Rattle.type_rules.specs.TypesByNumber.{fault_key}
use Rattle.binding_counts.proofs.BindingSpans.{remains-start, remains-on, remains-end}
use Rattle.binding_counts.proofs.bindings.all_operations.Goals as goal

pub loop-k-init : goal.loop-k-init
loop-k-init c = (omega arith, remains-start c.args.p.now.nodes.now c.args.p.now.spans.now c.args.g.now.names.now c.args.g.now.sizes.now c.args.p.now.operations)

pub loop-k-preserved : goal.loop-k-preserved
loop-k-preserved c = let m = c.min-k-end.ensures in let t = c.loop-k-test.true in (omega arith, remains-on c.args.p.now.nodes.now c.args.p.now.spans.now c.args.g.now.names.now c.args.g.now.sizes.now c.args.p.now.operations c.loop-k.k (fault_key c.loop-k.f) (fault_key c.operation.result) (fault_key c.lesser_of-f.result) c.operation.ensures c.lesser_of-f.ensures (omega arith) c.loop-k.invariant.1)

pub returns : goal.returns
returns c = let m = c.min-k-end.ensures in let t = c.loop-k-test.false in remains-end c.args.p.now.nodes.now c.args.p.now.spans.now c.args.g.now.names.now c.args.g.now.sizes.now c.args.p.now.operations c.loop-k.k (fault_key c.loop-k.f) c.args.p.now.long (omega arith) c.loop-k.invariant.1
