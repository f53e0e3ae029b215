-- `contents::title` meets its contract.
use mathlib.Core.Path.{sym, ◌∙◌}
use Rattle.declarations.specs.DossierPromises.{nameless}
use Rattle.declarations.proofs.ListItems.{as-titled}
use Rattle.declarations.proofs.contents.title.Goals as goal

pub returns-then-kind_at-ne-PLAIN : goal.returns-then-kind_at-ne-PLAIN
returns-then-kind_at-ne-PLAIN c = rw c.no_dossier.ensures (nameless (λ h. c.if-kind_at-ne-PLAIN.true (c.kind_at.ensures.is ∙ h)))

pub returns : goal.returns
returns c = as-titled (sym c.kind_at.ensures.is ∙ c.if-kind_at-ne-PLAIN.false) c.few.ensures
