-- `lines::put_member` meets its contract. Assumes nothing.
use Rattle.lines.proofs.LineLaws.{single-written, double-written}
use Rattle.lines.proofs.put_member.Goals as goal

pub returns-in-None : goal.returns-in-None
returns-in-None c = single-written c.args.names.now.text.now c.args.names.now.labels.now c.args.t.sides c.args.k c.in-None.is c.put_element.ensures

pub returns-in-Some : goal.returns-in-Some
returns-in-Some c = double-written c.args.names.now.text.now c.args.names.now.labels.now c.args.t.sides c.args.k c.in-Some.is c.put_pair.ensures
