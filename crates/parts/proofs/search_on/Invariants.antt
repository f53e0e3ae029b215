use Rattle.parts.proofs.SearchLaws.{Gone}
use Rattle.parts.proofs.search_on.Given as goal

abbrev pub invariant-loop-k : goal.invariant-loop-k
invariant-loop-k l = Gone l.d.table.now l.d.rows.now l.d.firsts.now l.d.groups.now l.d.operations l.from l.end l.k l.begin l.at
