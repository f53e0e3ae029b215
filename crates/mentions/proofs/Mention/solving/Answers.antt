-- `mentions::equations::solving` meets its contract: an equation with the variable on one side says it to be the other one. Assumes nothing.
use native.Mathlib.Omega.{arith}
use Rattle.mentions.proofs.SolvedTerms.{left-solves, right-solves}
use Rattle.mentions.proofs.Mention.solving.Goals as goal

pub earlier-requires : goal.earlier-requires
earlier-requires c = let w = c.inside.ensures c.if-not-inside.false in (w, omega arith, omega arith)

pub returns-then-tells : goal.returns-then-tells
returns-then-tells c = left-solves c.if-self-end-ne-COMPARED.false (omega arith) c.in_ok-left.ensures (c.tells.ensures.means c.if-tells.true)

pub returns-then-tells-2 : goal.returns-then-tells-2
returns-then-tells-2 c = right-solves c.if-self-end-ne-COMPARED.false (omega arith) c.in_ok-left.ensures (c.tells-2.ensures.means c.if-tells-2.true)
