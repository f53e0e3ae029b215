-- `ranges::close` meets its contract.
use mathlib.Core.Path.{refl, sym, ◌∙◌}
use native.Mathlib.Omega.{arith}
use Rattle.form_nodes.proofs.Classes.{positive}
use Rattle.form_nodes.proofs.ReadParts.{here, takes, stops}
use Rattle.form_nodes.proofs.ItemSteps.{exact-takes, exact-stops, exact-ends}
use Rattle.form_nodes.proofs.RightSides.{inside}
use Rattle.form_nodes.proofs.SymbolSpans.{code-found, code-missed}
use Rattle.form_nodes.proofs.ranges.close.Goals as goal

pub returns-then-eq : goal.returns-then-eq
returns-then-eq c =
    let q = code-found c.args.s.now c.args.from.at c.get.result _ c.get.ensures.lookup.0 (c.get.ensures.lookup.4 (omega arith) 0) (sym c.eq.ensures ∙ c.if-eq.true) in
    record { ahead = omega arith; within = omega (arith, q.0); shown = ((refl, q.1), refl); missed = tt; reads = λ j p. takes q.0 (λ κ e γ. exact-takes j κ γ (e ∙ q.1 ∙ sym p)) (here (omega (arith, q.0))) (omega arith) }

pub returns : goal.returns
returns c =
    let f = code-missed c.args.s.now c.args.from.at c.get.result _ c.get.ensures.lookup.0 (c.get.ensures.lookup.4 (omega arith) 0) (sym c.eq.ensures ∙ c.if-eq.false) in
    record {
      ahead = tt;
      within = rw c.no_dossier.ensures c.requires;
      shown = tt;
      missed = (λ l q. f (inside c.args.s.now c.args.from.at (omega arith)) q, c.no_dossier.ensures);
      reads = λ j q. rw c.no_dossier.ensures (stops c.requires (λ κ e γ. exact-stops j κ γ (λ p. f (inside c.args.s.now c.args.from.at (omega (arith, positive κ, e))) (sym e ∙ p ∙ q))) (λ γ. exact-ends j γ));
    }
