-- `gather_titles` meets its contract: the labels are stored one behind another.
use Prim.Native.Nat.{ℕ, ◌-◌}
use mathlib.Core.Path.{refl, ap, ◌∙◌}
use native.Mathlib.Omega.{arith}
use lib.ListN.{get_or}
use Rattle.labels.specs.LabelPromises.{name_byte}
use Rattle.labels.proofs.LabelStores.{stored-none, stored_next, titles-gathered}
use Rattle.labels.proofs.gather_titles.Goals as goal

pub loop-j-init : goal.loop-j-init
loop-j-init c = (omega arith, stored-none _ _ _)

pub loop-j-preserved : goal.loop-j-preserved
loop-j-preserved c = (omega arith, stored_next c.loop-j.invariant.1 (omega arith) (c.name_byte.ensures ∙ ap (λ (n : ℕ). name_byte c.args.x.now.nodes.numbers.now c.args.x.now.starts.now n) (c.saturating_sub.ensures ∙ ap (λ (n : ℕ). n - 4) (c.span_at-q.ensures.0 ∙ ap (λ (n : ℕ). get_or c.args.x.now.spans.now n 0) c.of_operation.ensures))) refl)

pub returns : goal.returns
returns c = titles-gathered (omega arith) c.loop-j.invariant.1
