-- `ranges::end` meets its contract.
use Prim.Native.Nat.{◌+◌}
use mathlib.Core.Path.{refl, sym, ◌∙◌}
use native.Mathlib.Omega.{arith}
use Rattle.form.specs.Computed.{compute_form}
use Rattle.form_nodes.proofs.ReadParts.{only, takes, likewise, ahead-from}
use Rattle.form_nodes.proofs.ItemSteps.{end-unsigned}
use Rattle.form_nodes.proofs.SymbolSpans.{positive-end, negative-end}
use Rattle.lexical.specs.Kinds as kind
use Rattle.form_nodes.proofs.ranges.end.Goals as goal

pub returns-then-kind_at-eq-DASH : goal.returns-then-kind_at-eq-DASH
unfolding compute_form
returns-then-kind_at-eq-DASH c = let h = (rw (c.skip.ensures.0, c.skip.ensures.1) at c.close.ensures) in (record { reads = takes (omega (arith, c.kind_at.ensures.inside)) (only _ kind.minus (sym c.kind_at.ensures.is ∙ c.if-kind_at-eq-DASH.true) (λ γ. refl)) (h.reads kind.number refl) (omega arith); ahead = ahead-from c.args.from.at (c.args.from.at + 1) c.close.result (omega arith) h.ahead }, negative-end c.args.y.now.kinds.now c.args.from.at c.args.from.count c.close.result (sym c.kind_at.ensures.is ∙ c.if-kind_at-eq-DASH.true) h.shown)

pub returns : goal.returns
unfolding compute_form
returns c = (record { reads = likewise (λ κ e γ. end-unsigned κ γ (λ q. c.if-kind_at-eq-DASH.false (c.kind_at.ensures.is ∙ sym e ∙ q))) (λ γ. refl) (c.close-2.ensures.reads kind.number refl); ahead = c.close-2.ensures.ahead }, positive-end c.args.y.now.kinds.now c.args.from.at c.args.from.count c.close-2.result c.close-2.ensures.shown)
