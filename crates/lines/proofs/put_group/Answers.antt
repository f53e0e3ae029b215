-- `lines::put_group` meets its contract, line for line. Assumes nothing.
use Prim.Native.Nat.{◌+◌}
use lib.IntN.{ℤ, pos}
use lib.ListN.{get_or}
use mir.Syntax.{w64}
use mir.Val.{SFits, of_z, to_z}
use mir.Facts.{to_z-of_z}
use borrow.Author.Rules.{rules}
use Rattle.lexical.specs.SymbolPromises.{ending_is}
use Rattle.lines.specs.LinesByNumber.{ending_byte}
use Rattle.lines.proofs.LineLaws.{lines-start, line-added, lines-added, line-back}
use Rattle.lines.proofs.put_group.Goals as goal

pub loop-k-init : goal.loop-k-init
loop-k-init c = lines-start c.args.s.now.names.text.now c.args.s.now.names.labels.now c.args.g.first c.args.g.count c.args.g.slot (ending_byte (ending_is c.args.g.ending)) c.args.s.now.slots.now c.args.w.now

pub loop-k-preserved : goal.loop-k-preserved
loop-k-preserved c =
    let x : ℤ = get_or c.args.s.now.slots.now (c.args.g.slot + c.loop-k.k) (pos 0) in
    let fits : SFits w64 x = search rules in
    line-added c.args.s.now.names.text.now c.args.s.now.names.labels.now c.args.g.first c.args.g.count c.args.g.slot (ending_byte (ending_is c.args.g.ending)) c.args.s.now.slots.now c.args.w.now
    c.loop-k.k (to_z w64 (of_z w64 x)) c.loop-k.w c.put_line.new.w c.loop-k-test.true (to_z-of_z fits)
    (line-back c.args.s.now.names.text.now c.args.s.now.names.labels.now x fits (c.args.g.first + c.loop-k.k) (ending_byte (ending_is c.args.g.ending))) c.put_line.ensures c.loop-k.invariant

pub returns-clause-lines : goal.returns-clause-lines
returns-clause-lines c = lines-added c.args.s.now.names.text.now c.args.s.now.names.labels.now c.args.g.first c.args.g.count c.args.g.slot (ending_byte (ending_is c.args.g.ending)) c.args.s.now.slots.now c.args.w.now c.loop-k.k c.loop-k.w c.loop-k-test.false c.loop-k.invariant
