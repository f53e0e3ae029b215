-- `sizes::domain` meets its contract. Assumes nothing.
use mathlib.Core.List.{[]}
use mathlib.Core.Path.{refl, sym, ◌∙◌}
use native.Mathlib.Omega.{arith}
use lib.ListN.{length}
use Rattle.typing.proofs.FrontNodes.{shape-last}
use Rattle.term_sizes.proofs.SizeWalk.{domain-short}
use Rattle.term_sizes.proofs.SizeWalkTerms.{domain-given, domain-range}
use Rattle.term_sizes.proofs.sizes.domain.Goals as goal

pub returns-in_default : goal.returns-in_default
returns-in_default c = domain-short c.args.code.now (length c.args.code.now) (omega arith) [] _ refl (let n = c.in_default.ensures in omega arith)

pub returns-then-code-start-eq-SET : goal.returns-then-code-start-eq-SET
returns-then-code-start-eq-SET c = domain-given c.args.code.now (length c.args.code.now) (omega arith) _ (shape-last c.args.code.now c.in-Some.ensures ∙ c.if-code-start-eq-SET.true) refl c.in-Some.ensures.1

pub returns : goal.returns
returns c = domain-range c.args.code.now (length c.args.code.now) (omega arith) c.last_node-n.result _ c.absolute_of-a.result c.absolute_of-b.result c.last_node-n.ensures (λ q. c.if-code-start-eq-SET.false (sym (shape-last c.args.code.now c.in-Some.ensures) ∙ q)) c.absolute_of-a.ensures c.absolute_of-b.ensures c.max.ensures c.in-Some.ensures.1
