use Rattle.lexical.specs.SymbolPromises.{ending_is}
use Rattle.lines.specs.LinesByNumber.{ending_byte}
use Rattle.lines.proofs.LineLaws.{LinesLeft}
use Rattle.lines.proofs.put_group.Given as goal

abbrev pub invariant-loop-k : goal.invariant-loop-k
invariant-loop-k l = LinesLeft l.s.names.text.now l.s.names.labels.now l.g.first l.g.count l.g.slot (ending_byte (ending_is l.g.ending)) l.s.slots.now l.initial.w l.k l.w
