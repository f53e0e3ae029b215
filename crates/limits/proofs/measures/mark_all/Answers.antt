-- `measures::mark_all` meets its contract. Assumes nothing.
use Rattle.limits.proofs.SizeMarks.{three-marked}
use Rattle.limits.proofs.measures.mark_all.Goals as goal

pub returns : goal.returns
returns g c = three-marked _ c.args.r.now.first.now c.args.r.now.second.now c.args.r.now.shift c.args.r.now.third.now c.args.bounds.now _ _ _ c.mark.ensures c.mark-2.ensures c.mark-3.ensures
