-- `Parts::variables` meets its contract.
use mathlib.Core.Path.{ap, ◌∙◌}
use Prim.Native.Nat.{ℕ, ◌+◌}
use Rattle.node_spans.specs.Spans.{span}
use Rattle.node_spans.proofs.StandingParts.{part-read}
use Rattle.node_spans.proofs.Parts.variables.Goals as goal

pub returns : goal.returns
returns c =
    let from = ap (λ (k : ℕ). span c.args.self.now.spans.now k) c.first-k.ensures.0 in
    let to = ap (λ (k : ℕ). span c.args.self.now.spans.now (k + 1)) c.first-k.ensures.0 in
    part-read c.args.self.now.nodes.now _ _ _ _ _ (c.span.ensures.0 ∙ from) (c.span-2.ensures.0 ∙ to) c.between.ensures
