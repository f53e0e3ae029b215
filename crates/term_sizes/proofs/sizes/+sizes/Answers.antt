-- The walk for sizes over the nodes of terms and predicates meets its contracts. Assumes nothing.
use native.Mathlib.Omega.{arith}
use mathlib.Core.Path.{refl, sym, ◌∙◌}
use lib.ListN.{length}
use Rattle.refusals.specs.Refusals.{number_of}
use Rattle.type_rules.specs.TypesByNumber.{fault_key}
use Rattle.term_sizes.proofs.SizeWalk.{term-short, items-short, pairs-short, pred-short, term-rest, pred-rest}
use Rattle.typing.proofs.FrontNodes.{ended-in, front, front-last, shape-last, behind, before}
use Rattle.term_sizes.proofs.FrontSizes.{domain-at, bound-at, term-at, items-at, pair-at, pairs-at, pred-at, term-whole, pred-whole}
use Rattle.term_sizes.proofs.SizeWalkTerms.{term-empty, term-prefix, term-divided, term-binary, bound-sized, term-such, term-listed, term-pairs, items-only, items-also, pair-sized, pairs-only, pairs-also}
use Rattle.term_sizes.proofs.SizeWalkPreds.{pred_constant, pred-negation, pred-connected, pred-pair, pred-within, pred-related, pred-quantified}
use Rattle.term_sizes.proofs.sizes.+sizes.Goals as goal

pub bound-returns : goal.bound-returns
bound-returns t c = bound-sized c.args.front.now (length c.args.front.now) (omega arith) c.args.bounds.now _ _ _ c.args.n c.domain-d.result c.pred-p.result c.from-x.result c.look-was.result c.domain-d.ensures (pred-at front c.pred-p.ensures) c.put.ensures c.put-2.ensures c.from-x.ensures c.look-was.ensures

pub connected-returns : goal.connected-returns
connected-returns t c n = pred-connected c.args.bounds.now _ _ c.pred-p.result c.pred-q.result _ (ended-in c.args.front.now 3 n) (pred-at (before c.args.front.now _) c.pred-q.ensures) (pred-at (behind c.args.front.now _ c.pred-q.ensures.falls) c.pred-p.ensures) c.both.ensures.0 c.both.ensures.1 c.both.ensures.2

pub divided-returns : goal.divided-returns
divided-returns t c = term-divided c.args.bounds.now _ c.term-t.result _ (ended-in c.args.front.now 4 c.args.n) (term-at (before c.args.front.now _) c.term-t.ensures) c.division_bound.ensures refl refl

pub items-returns-in_default : goal.items-returns-in_default
items-returns-in_default t c = items-short c.args.code.now (length c.args.code.now) (omega arith) c.args.bounds.now _ c.bare.ensures.2 (let n = c.in_default.ensures in omega arith)

pub items-returns-then-code-at-eq-LAST : goal.items-returns-then-code-at-eq-LAST
items-returns-then-code-at-eq-LAST t c = items-only c.args.code.now (length c.args.code.now) (omega arith) c.args.bounds.now _ c.term.result _ (term-at (front-last c.in-Some.ensures) c.term.ensures) (shape-last c.args.code.now c.in-Some.ensures ∙ c.if-code-at-eq-LAST.true) refl refl refl

pub items-returns : goal.items-returns
items-returns t c = items-also c.args.code.now (length c.args.code.now) (omega arith) c.args.bounds.now _ _ c.term-t.result c.items-l.result _ (items-at (front-last c.in-Some.ensures) c.items-l.ensures) (term-at front c.term-t.ensures) (λ q. c.if-code-at-eq-LAST.false (sym (shape-last c.args.code.now c.in-Some.ensures) ∙ q)) c.both.ensures.0 c.both.ensures.1 c.both.ensures.2

pub operated-returns : goal.operated-returns
unfolding number_of
operated-returns t c = term-binary c.args.bounds.now _ _ c.term-t.result c.term-u.result _ c.operator_bound-m.result (fault_key c.lesser-parts.result) (ended-in c.args.front.now 5 c.args.n) (term-at (before c.args.front.now _) c.term-u.ensures) (term-at (behind c.args.front.now _ c.term-u.ensures.falls) c.term-t.ensures) c.operator_bound-m.ensures c.lesser-parts.ensures c.judge_least-fault.ensures c.min.ensures refl

pub pair-returns : goal.pair-returns
pair-returns t c = pair-sized c.args.code.now (length c.args.code.now) (omega arith) c.args.bounds.now _ _ c.term-t.result c.term-u.result _ c.term-u.ensures (term-at front c.term-t.ensures) c.both.ensures.0 c.both.ensures.1 c.both.ensures.2

pub pairs-returns-in_default : goal.pairs-returns-in_default
pairs-returns-in_default t c = pairs-short c.args.code.now (length c.args.code.now) (omega arith) c.args.bounds.now _ c.bare.ensures.2 (let n = c.in_default.ensures in omega arith)

pub pairs-returns-then-code-at-eq-LAST : goal.pairs-returns-then-code-at-eq-LAST
pairs-returns-then-code-at-eq-LAST t c = pairs-only c.args.code.now (length c.args.code.now) (omega arith) c.args.bounds.now _ c.pair.result (pair-at (front-last c.in-Some.ensures) c.pair.ensures) (shape-last c.args.code.now c.in-Some.ensures ∙ c.if-code-at-eq-LAST.true)

pub pairs-returns : goal.pairs-returns
pairs-returns t c = pairs-also c.args.code.now (length c.args.code.now) (omega arith) c.args.bounds.now _ _ c.pair-t.result c.pairs-l.result _ (pairs-at (front-last c.in-Some.ensures) c.pairs-l.ensures) (pair-at front c.pair-t.ensures) (λ q. c.if-code-at-eq-LAST.false (sym (shape-last c.args.code.now c.in-Some.ensures) ∙ q)) c.both.ensures.0 c.both.ensures.1 c.both.ensures.2

pub pred-returns-in_default : goal.pred-returns-in_default
pred-returns-in_default t c = pred-short c.args.code.now (length c.args.code.now) (omega arith) c.args.bounds.now _ c.bare.ensures.2 (let n = c.in_default.ensures in omega arith)

pub pred-returns-in-1 : goal.pred-returns-in-1
pred-returns-in-1 t c = pred_constant c.args.code.now (length c.args.code.now) (omega arith) c.args.bounds.now _ (shape-last c.args.code.now c.in-Some.ensures ∙ c.in-1.is) (c.bare-in-1.ensures.0, c.bare-in-1.ensures.1, c.bare-in-1.ensures.2 ∙ c.in-Some.ensures.1)

pub pred-returns-in-2 : goal.pred-returns-in-2
pred-returns-in-2 t c = pred-negation c.args.code.now (length c.args.code.now) (omega arith) c.args.bounds.now _ c.pred.result (pred-at (front-last c.in-Some.ensures) c.pred.ensures) (shape-last c.args.code.now c.in-Some.ensures ∙ c.in-2.is)

pub pred-returns-in-3 : goal.pred-returns-in-3
pred-returns-in-3 t c = pred-whole c.in-Some.ensures c.last_node-n.ensures c.in-3.is (c.connected.ensures c.last_node-n.result)

pub pred-returns-in-4 : goal.pred-returns-in-4
pred-returns-in-4 t c = pred-pair c.args.code.now (length c.args.code.now) (omega arith) c.args.bounds.now _ c.pair.result (pair-at (front-last c.in-Some.ensures) c.pair.ensures) (let q = shape-last c.args.code.now c.in-Some.ensures in omega arith) (let q = shape-last c.args.code.now c.in-Some.ensures in omega arith)

pub pred-returns-in-6 : goal.pred-returns-in-6
pred-returns-in-6 t c = pred-whole c.in-Some.ensures c.last_node-n.ensures c.in-6.is (c.within.ensures c.last_node-n.result)

pub pred-returns-in-7 : goal.pred-returns-in-7
pred-returns-in-7 t c = pred-whole c.in-Some.ensures c.last_node-n.ensures c.in-7.is (c.related.ensures c.last_node-n.result)

pub pred-returns-in-8 : goal.pred-returns-in-8
pred-returns-in-8 t c = pred-quantified c.args.code.now (length c.args.code.now) (omega arith) c.args.bounds.now _ c.last_node-n.result c.bound.result c.last_node-n.ensures (shape-last c.args.code.now c.in-Some.ensures ∙ c.in-8.is) (bound-at (front-last c.in-Some.ensures) c.bound.ensures)

pub pred-returns-in_default-code : goal.pred-returns-in_default-code
pred-returns-in_default-code t c = pred-rest c.args.code.now (length c.args.code.now) (omega arith) c.args.bounds.now _ c.bare-in_default-code.ensures.2 (let q = shape-last c.args.code.now c.in-Some.ensures in λ lo hi. omega arith)

pub prefixed-returns : goal.prefixed-returns
prefixed-returns t c = term-prefix c.args.bounds.now _ c.term-t.result _ (ended-in c.args.front.now 3 c.args.n) (term-at (before c.args.front.now _) c.term-t.ensures) c.prefix_bound.ensures refl refl

pub related-returns : goal.related-returns
related-returns t c n = pred-related c.args.bounds.now _ _ c.pair-t.result c.term-v.result _ (ended-in c.args.front.now 7 n) (term-at (before c.args.front.now _) c.term-v.ensures) (pair-at (behind c.args.front.now _ c.term-v.ensures.falls) c.pair-t.ensures) c.both.ensures.0 c.both.ensures.1 c.both.ensures.2

pub term-returns-in_default : goal.term-returns-in_default
term-returns-in_default t c = term-short c.args.code.now (length c.args.code.now) (omega arith) c.args.bounds.now _ c.bare.ensures.2 (let n = c.in_default.ensures in omega arith)

pub term-returns-in-1 : goal.term-returns-in-1
term-returns-in-1 t c = term-whole c.in-Some.ensures c.last_node-n.ensures c.in-1.is c.number.ensures

pub term-returns-in-2 : goal.term-returns-in-2
term-returns-in-2 t c = term-whole c.in-Some.ensures c.last_node-n.ensures c.in-2.is c.named.ensures

pub term-returns-in-3 : goal.term-returns-in-3
term-returns-in-3 t c = term-whole c.in-Some.ensures c.last_node-n.ensures c.in-3.is c.prefixed.ensures

pub term-returns-in-4 : goal.term-returns-in-4
term-returns-in-4 t c = term-whole c.in-Some.ensures c.last_node-n.ensures c.in-4.is c.divided.ensures

pub term-returns-in-5 : goal.term-returns-in-5
term-returns-in-5 t c = term-whole c.in-Some.ensures c.last_node-n.ensures c.in-5.is c.operated.ensures

pub term-returns-in-6 : goal.term-returns-in-6
term-returns-in-6 t c = term-such c.args.code.now (length c.args.code.now) (omega arith) c.args.bounds.now _ c.last_node-n.result c.bound.result c.last_node-n.ensures (shape-last c.args.code.now c.in-Some.ensures ∙ c.in-6.is) (bound-at (front-last c.in-Some.ensures) c.bound.ensures)

pub term-returns-in-7 : goal.term-returns-in-7
term-returns-in-7 t c = term-listed c.args.code.now (length c.args.code.now) (omega arith) c.args.bounds.now _ c.items.result (shape-last c.args.code.now c.in-Some.ensures ∙ c.in-7.is) (items-at (front-last c.in-Some.ensures) c.items.ensures)

pub term-returns-in-8 : goal.term-returns-in-8
term-returns-in-8 t c = term-pairs c.args.code.now (length c.args.code.now) (omega arith) c.args.bounds.now _ c.pairs.result (shape-last c.args.code.now c.in-Some.ensures ∙ c.in-8.is) (pairs-at (front-last c.in-Some.ensures) c.pairs.ensures)

pub term-returns-in-9 : goal.term-returns-in-9
term-returns-in-9 t c = term-empty c.args.code.now (length c.args.code.now) (omega arith) c.args.bounds.now _ (let q = shape-last c.args.code.now c.in-Some.ensures in omega arith) (let q = shape-last c.args.code.now c.in-Some.ensures in omega arith) (c.bare-in-9.ensures.0, c.bare-in-9.ensures.1, c.bare-in-9.ensures.2 ∙ c.in-Some.ensures.1)

pub term-returns-in_default-code : goal.term-returns-in_default-code
term-returns-in_default-code t c = term-rest c.args.code.now (length c.args.code.now) (omega arith) c.args.bounds.now _ c.bare-in_default-code.ensures.2 (let q = shape-last c.args.code.now c.in-Some.ensures in λ lo hi. omega arith)

pub within-returns : goal.within-returns
within-returns t c n = pred-within c.args.bounds.now _ c.domain-d.result c.term.result _ (ended-in c.args.front.now 6 n) (domain-at (before c.args.front.now _) c.domain-d.ensures) (term-at (behind c.args.front.now _ c.domain-d.ensures.falls) c.term.ensures) refl refl refl
