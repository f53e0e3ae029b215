-- `step_facts::spans` meets its contract: the sizes of the part that is made are those of the groups. Assumes nothing.
use native.Mathlib.Omega.{arith}
use Rattle.step_searches.proofs.PreparedSearches.{prepare-asked}
use Rattle.step_facts.proofs.AskedFacts.{operation-spans}
use Rattle.step_facts.proofs.spans.Goals as goal

pub prepare-ready-requires : goal.prepare-ready-requires
prepare-ready-requires c = record { prepare_asked = prepare-asked c.d.invariant c.if-j-d.true; blank = c.blank-made.ensures }

pub returns-then-j-d : goal.returns-then-j-d
returns-then-j-d c = rw (← c.d.view_is) (operation-spans c.d.invariant c.prepare-ready.ensures c.if-j-d.true)

pub returns : goal.returns
returns c = rw (← c.d.view_is) ((rw (← c.d.view_is) at c.state_spans.ensures) c.args.j (omega (arith, c.if-j-d.false)))
