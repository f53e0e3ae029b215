-- `memo::listed` meets its contract: a list that is made is kept. Assumes nothing.
use lib.Seq.{get_or-set_same}
use mathlib.Core.Path.{refl, sym}
use native.Mathlib.Omega.{arith}
use Rattle.memo.proofs.Memos.{list-more}
use Rattle.memo.proofs.SlotLists.{lists-or}
use Rattle.memo.proofs.listed.Goals as goal

pub offset_bounds-memo-number : goal.offset_bounds-memo-number
offset_bounds-memo-number c = omega (arith, c.requires.0)

pub offset_bounds-memo-number-then-memo-number-ne0 : goal.offset_bounds-memo-number-then-memo-number-ne0
offset_bounds-memo-number-then-memo-number-ne0 c = omega (arith, c.requires.0)

pub returns-then-memo-number-ne0 : goal.returns-then-memo-number-ne0
returns-then-memo-number-ne0 c = record { stands = refl; remembers = c.requires.1 }

pub overflow_mul-number : goal.overflow_mul-number
overflow_mul-number c = omega (arith, c.requires.0)

pub offset_bounds-memo-number-2 : goal.offset_bounds-memo-number-2
offset_bounds-memo-number-2 c = omega (arith, c.requires.0)

pub returns : goal.returns
returns c = record { stands = sym (get_or-set_same c.args.memo.now c.args.number c.unwrap_or-list.result 0 (omega (arith, c.requires.0, c.requires.1.long))); remembers = list-more c.requires.1 c.requires.0 c.if-memo-number-ne0.false (lists-or c.described.result c.described.ensures c.unwrap_or-list.ensures) }
