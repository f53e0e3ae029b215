-- `memo::with_slot` meets its contract: a slot of which the conjunct is free need not be listed, and where there is room another one is. Assumes nothing.
use mathlib.Core.Path.{refl}
use native.Mathlib.Omega.{arith}
use Rattle.memo.proofs.SlotLists.{not_mentioned, mentioned}
use Rattle.memo.proofs.with_slot.Goals as goal

pub returns-then-free_pred : goal.returns-then-free_pred
returns-then-free_pred c = not_mentioned (c.free_pred.ensures.means c.if-free_pred.true) c.requires.2

pub returns : goal.returns
returns c = mentioned c.requires.1 c.requires.0 (omega (arith, c.if-list-ne-ROOM.false)) refl c.requires.2
