-- `operation_spans` meets its contract: each number is read at its place behind the first.
use Prim.Native.Nat.{ℕ, ◌+◌}
use mathlib.Core.Path.{ap, ◌∙◌}
use Rattle.node_spans.specs.Spans.{span}
use Rattle.node_spans.proofs.operation_spans.Goals as goal

pub returns-clause-first : goal.returns-clause-first
returns-clause-first c = c.span_at.ensures.0 ∙ ap (span c.args.spans.now) c.of_operation-at.ensures

pub returns-clause-last : goal.returns-clause-last
returns-clause-last c = c.span_at-2.ensures.0 ∙ ap (λ (n : ℕ). span c.args.spans.now (n + 1)) c.of_operation-at.ensures

pub returns-clause-middle : goal.returns-clause-middle
returns-clause-middle c = c.span_at-3.ensures.0 ∙ ap (λ (n : ℕ). span c.args.spans.now (n + 2)) c.of_operation-at.ensures

pub returns-clause-end : goal.returns-clause-end
returns-clause-end c = c.span_at-4.ensures.0 ∙ ap (λ (n : ℕ). span c.args.spans.now (n + 3)) c.of_operation-at.ensures

pub returns-clause-small : goal.returns-clause-small
returns-clause-small c = (c.span_at.ensures.1, c.span_at-2.ensures.1)
