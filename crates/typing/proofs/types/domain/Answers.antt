-- `types::domain` meets its contract. Assumes nothing.
use mathlib.Core.List.{[]}
use mathlib.Core.Path.{refl, sym, ◌∙◌}
use native.Mathlib.Omega.{arith}
use lib.ListN.{length}
use Rattle.refusals.specs.Refusals.{number_of}
use Rattle.typing.proofs.LastNodes.{domain-short}
use Rattle.typing.proofs.FrontNodes.{shape-last}
use Rattle.typing.proofs.TypeWalkTerms.{domain-given, domain-range}
use Rattle.typing.proofs.types.domain.Goals as goal

pub returns-in_default : goal.returns-in_default
returns-in_default c = domain-short c.args.code.now (length c.args.code.now) (omega arith) c.args.names.now [] _ c.nothing.ensures (let n = c.in_default.ensures in omega arith)

pub returns-then-code-at-eq-SET : goal.returns-then-code-at-eq-SET
unfolding number_of
returns-then-code-at-eq-SET c = domain-given c.args.code.now (length c.args.code.now) (omega arith) c.args.names.now [] c.last_node-n.result _ c.from.result c.entry-e.result c.from-then-code-at-eq-SET.result c.is_given.result c.last_node-n.ensures (shape-last c.args.code.now c.in-Some.ensures ∙ c.if-code-at-eq-SET.true) c.in-Some.ensures.1 c.from.ensures c.entry-e.ensures c.from-then-code-at-eq-SET.ensures c.is_given.ensures c.element_of.ensures c.unless-fault.ensures

pub returns : goal.returns
unfolding number_of
returns c = domain-range c.args.code.now (length c.args.code.now) (omega arith) c.args.names.now [] c.last_node-n.result _ c.from-2.result c.range_fits.result c.last_node-n.ensures (λ q. c.if-code-at-eq-SET.false (sym (shape-last c.args.code.now c.in-Some.ensures) ∙ q)) c.in-Some.ensures.1 c.from-2.ensures c.range_fits.ensures refl c.unless-fault-2.ensures
