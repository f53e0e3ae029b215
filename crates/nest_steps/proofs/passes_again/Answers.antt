-- `nest_steps::passes_again` meets its contract: what has its mark is true, and what is found true gets it. Assumes nothing.
use lib.ListN.{get_or}
use Prim.Native.Nat.{ℕ}
use mathlib.Core.Path.{sym, ap, ◌∙◌}
use Rattle.nest_steps.proofs.RememberedConclusions.{known-again, failed-here, noted_here}
use Rattle.nest_steps.proofs.passes_again.Goals as goal

pub key_of-key-requires : goal.key_of-key-requires
key_of-key-requires c = c.requires.binding_asked.inside

pub mark_of-mark-requires : goal.mark_of-mark-requires
mark_of-mark-requires c = c.requires.binding_asked.inside

pub returns-then-is_known : goal.returns-then-is_known
returns-then-is_known c = record { answers = known-again c.requires.binding_asked c.requires.remembered (ap (λ (t : ℕ). get_or c.args.known.now t 0) (sym c.key_of-key.ensures) ∙ c.is_known.ensures c.if-is_known.true ∙ c.mark_of-mark.ensures); remembers = c.requires.memo }

pub passes-requires : goal.passes-requires
passes-requires c = record { nest_asked = c.requires.binding_asked.asked; memo = c.requires.memo }

pub returns-then-not-passes : goal.returns-then-not-passes
returns-then-not-passes c = record { answers = failed-here c.requires.binding_asked c.requires.remembered c.passes.ensures.answers c.if-not-passes.true; remembers = c.passes.ensures.remembers }

pub returns : goal.returns
returns c = record { answers = noted_here c.requires.binding_asked c.requires.remembered c.passes.ensures.answers c.if-not-passes.false c.key_of-key.ensures c.mark_of-mark.ensures c.remember.ensures; remembers = c.passes.ensures.remembers }
