-- `kinds::shared_kind` meets its contract. Assumes nothing.
use mathlib.Core.Path.{sym}
use lib.Dec.{eqb}
use Rattle.type_rules.specs.TypesByNumber.{shared}
use Rattle.type_rules.proofs.TypeNumbers.{cond_yes, cond_no}
use Rattle.type_rules.proofs.kinds.shared_kind.Goals as goal

pub returns-then-eq : goal.returns-then-eq
unfolding shared
returns-then-eq c = sym (cond_yes c.eq.result (eqb c.args.k c.args.l) c.args.k 0 c.eq.ensures c.if-eq.true)

pub returns : goal.returns
unfolding shared
returns c = sym (cond_no c.eq.result (eqb c.args.k c.args.l) c.args.k 0 c.eq.ensures c.if-eq.false)
