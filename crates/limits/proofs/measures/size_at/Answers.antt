-- `measures::size_at` meets its contract. Assumes nothing.
use mathlib.Core.Bool.{not}
use mathlib.Core.Path.{ap}
use lib.Dec.{eqb}
use native.Mathlib.Omega.{arith}
use borrow.Author.Tests.{ne_eqb}
use Rattle.limits.proofs.SizeMarks.{size-other, size-range}
use Rattle.limits.proofs.measures.size_at.Goals as goal

pub returns-in-2 : goal.returns-in-2
returns-in-2 g c = size-range (not (eqb g.row.ON 0)) c.args.t.now 0 c.absolute_of.result c.absolute_of-in-2.result c.max.result (ap not (ne_eqb g.row.ON 0 c.if-this-ne0.true)) c.in-2.is c.absolute_of.ensures c.absolute_of-in-2.ensures c.max.ensures

pub returns-in_default-2 : goal.returns-in_default-2
returns-in_default-2 g c = size-other (not (eqb g.row.ON 0)) c.args.t.now 0 (λ e. omega arith)
