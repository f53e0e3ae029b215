-- `ranges::domain` meets its contract.
use mathlib.Core.List.{[]}
use mathlib.Core.Path.{refl, sym, ◌∙◌}
use native.Mathlib.Omega.{arith}
use Rattle.form.specs.Computed.{compute_form}
use Rattle.form_nodes.specs.Derivations.{RangeAt, DomainAt, over_name, over_range}
use Rattle.form_nodes.proofs.ReadParts.{here, takes, likewise}
use Rattle.form_nodes.proofs.ItemSteps.{domain-range, domain-name}
use Rattle.form_nodes.proofs.Classes.{named, no-class, some-class}
use Rattle.form_nodes.proofs.SymbolSpans.{shown-as, name-at}
use Rattle.form_nodes.proofs.ranges.domain.Goals as goal

pub returns-then-is_name : goal.returns-then-is_name
returns-then-is_name c =
    let g = (named c.kind_at.result c.is_name.ensures).name c.if-is_name.true in
    let h = some-class (named c.kind_at.result c.is_name.ensures).classes c.if-is_name.true in
    (takes {μ = []} {m = c.skip.result.count} (omega arith) (λ κ e γ. domain-name κ γ (h κ (e ∙ sym c.kind_at.ensures.is))) (rw (← c.skip.ensures.0) (here (omega arith))) (omega arith), (rw c.skip.ensures.0 (over_name (name-at c.kind_at.ensures.is (named c.kind_at.result c.is_name.ensures) c.if-is_name.true)), c.skip.ensures.1))

pub returns : goal.returns
unfolding compute_form
returns c = (likewise (λ κ e γ. domain-range κ γ (no-class (named c.kind_at.result c.is_name.ensures).classes c.if-is_name.false κ (e ∙ sym c.kind_at.ensures.is))) (λ γ. refl) c.range.ensures.0.reads, shown-as (RangeAt c.args.y.now.kinds.now c.args.from.at) (DomainAt c.args.y.now.kinds.now c.args.from.at) c.args.from.count c.range.result (λ e x. over_range x) c.range.ensures.1)
