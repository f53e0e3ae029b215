-- `mentions::equations::tells` meets its contract. Assumes nothing.
use mathlib.Core.Path.{sym, ◌∙◌}
use mathlib.Core.Bool.{false≢true}
use borrow.Author.Tests.{eqb-true}
use Rattle.mentions.proofs.SolvedTerms.{slot-told}
use Rattle.mentions.proofs.Mention.tells.Goals as goal
use Rattle.mentions.proofs.Mention.tells.Goals.{then-inside, else-inside, then-self-own-eq-SLOT, else-self-own-eq-SLOT}

pub returns-then-from-self : goal.returns-then-from-self
returns-then-from-self c =
    elim c.if-self-own-eq-SLOT.branch [
      | then-self-own-eq-SLOT w ↦
          elim c.if-inside.branch [
            | then-inside v ↦
                record {
                  means = λ e. slot-told (eqb-true _ _ (sym v.value-is ∙ w.if-self-own-eq-SLOT.true)) (sym w.from.ensures ∙ eqb-true _ _ (sym w.value-is ∙ c.if-from-self.true)) (c.free_term.ensures.means e);
                }
            | else-inside v ↦ absurd (false≢true (sym v.if-inside.false ∙ sym v.value-is ∙ w.if-self-own-eq-SLOT.true))
          ]
      | else-self-own-eq-SLOT w ↦ absurd (false≢true (sym w.if-self-own-eq-SLOT.false ∙ sym w.value-is ∙ c.if-from-self.true))
    ]
