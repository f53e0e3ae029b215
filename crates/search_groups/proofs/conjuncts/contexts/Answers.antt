-- `conjuncts::contexts` meets its contract: what is written, and the contexts left, make the whole. Assumes nothing.
use mathlib.Core.Path.{refl, ◌∙◌}
use native.Mathlib.Omega.{arith}
use borrow.Author.Rules.{rules}
use Rattle.search_groups.proofs.ConjunctLists.{ahead-first, ahead-next, ahead-done}
use Rattle.search_groups.proofs.conjuncts.contexts.Goals as goal

pub loop-k-init : goal.loop-k-init
loop-k-init c = (refl, omega arith, omega arith, omega arith, λ rows fs a l. ahead-first _ _ _ rows fs _ _ a)

pub context-requires : goal.context-requires
context-requires c = let w = c.place.ensures.within (omega arith) in search rules

pub loop-k-preserved : goal.loop-k-preserved
loop-k-preserved c = (c.context.ensures.same_rows ∙ c.loop-k.invariant.0, omega arith, c.context.ensures.put.long ∙ c.loop-k.invariant.2, c.put_number.ensures.same ∙ c.loop-k.invariant.3, λ rows fs a l. ahead-next (c.loop-k.invariant.4 rows fs a l) c.put_number.ensures c.context.ensures.put c.place.ensures.right (omega arith) (omega arith) (omega arith) (omega arith))

pub returns : goal.returns
returns c = record { right = λ rows fs a l. ahead-done (c.loop-k.invariant.4 rows fs a l) c.put_number-2.ensures (omega arith) (omega arith) (omega arith) }
