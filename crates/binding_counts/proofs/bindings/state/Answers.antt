-- `bindings::state` meets its contract. Assumes nothing.
use mathlib.Core.Path.{ap, subst, ◌∙◌}
use mathlib.Core.Bool.{false}
use Prim.Native.Nat.{ℕ}
use lib.Dec.{leb}
use borrow.Author.Tests.{le-leb, lt-leb}
use Rattle.type_rules.specs.TypesByNumber.{fault_key}
use Rattle.node_spans.specs.Spans.{span}
use Rattle.node_spans.specs.StateSpans.{state_first}
use Rattle.binding_counts.specs.BindingsByNumber.{HeadingFaulted}
use Rattle.binding_counts.proofs.BindingSpans.{state-bound, heading-well, heading-ill}
use Rattle.binding_counts.proofs.bindings.state.Goals as goal

pub returns-then-n-le-STATE_BINDINGS : goal.returns-then-n-le-STATE_BINDINGS
returns-then-n-le-STATE_BINDINGS c = state-bound c.args.p.now.nodes.now c.args.p.now.spans.now (state_first c.args.state) c.args.g.now.names.now c.args.g.now.sizes.now _ c.group-n.result _ c.variables.ensures c.group-n.ensures (heading-well c.args.p.now.nodes.now (span c.args.p.now.spans.now (state_first c.args.state)) (leb c.group-n.result 4096) (le-leb c.group-n.result 4096 c.if-n-le-STATE_BINDINGS.true))

pub returns : goal.returns
returns c = state-bound c.args.p.now.nodes.now c.args.p.now.spans.now (state_first c.args.state) c.args.g.now.names.now c.args.g.now.sizes.now _ c.group-n.result _ c.variables.ensures c.group-n.ensures (heading-ill c.args.p.now.nodes.now (span c.args.p.now.spans.now (state_first c.args.state)) (leb c.group-n.result 4096) _ (lt-leb c.group-n.result 4096 c.if-n-le-STATE_BINDINGS.false) (subst (λ (x : ℕ). HeadingFaulted c.args.p.now.nodes.now x false (fault_key c.heading_fault.result)) (c.span.ensures.0 ∙ ap (λ (k : ℕ). span c.args.p.now.spans.now k) c.first.ensures.0) c.heading_fault.ensures))
