-- The walk over the nodes of terms and predicates meets its contracts. Assumes nothing.
use native.Mathlib.Omega.{arith}
use mathlib.Core.Path.{refl, ap, sym, ◌∙◌}
use lib.ListN.{length}
use Rattle.refusals.specs.Refusals.{number_of}
use mathlib.Core.Bool.{Bool}
use Rattle.type_rules.specs.TypesByNumber.{key, fault_key, judged_key, inside_key}
use Rattle.type_rules.proofs.FaultOrder.{first-key}
use Rattle.type_rules.proofs.FaultKeys.{below-brace}
use Rattle.typing.proofs.LastNodes.{term-short, items-short, pairs-short, pred-short, term-rest, pred-rest}
use Rattle.typing.proofs.FrontNodes.{ended-in, front, front-last, shape-last, behind, before, domain-at, bound-at, term-at, items-at, sides-at, pair-at, pairs-at, pred-at, term-whole, pred-whole}
use Rattle.typing.proofs.TypeWalkTerms.{term-number, term-prefix, term-divided, term-binary, sides-seen, bound-seen, term-such, term-listed, term-pairs, items-only, items-also, pair-seen, pairs-only, pairs-also}
use Rattle.typing.proofs.TypeWalkPreds.{pred_constant, pred-negation, pred-connected, pred-compared, pred-member, pred-within, pred-related, pred-quantified}
use Rattle.typing.proofs.types.+types.Goals as goal

pub bound-returns : goal.bound-returns
bound-returns t c = bound-seen c.args.front.now (length c.args.front.now) (omega arith) c.args.names.now c.args.sizes.now _ _ _ c.args.n c.domain-d.result c.pred-p.result _ c.from-x.result c.entry-was.result c.domain-d.ensures (pred-at front c.pred-p.ensures) c.put.ensures c.put-2.ensures c.from-x.ensures c.entry-was.ensures refl refl c.bound_least_fault-fault.ensures

pub compared-returns : goal.compared-returns
compared-returns t c = pred-compared c.args.names.now c.args.sizes.now _ c.two_terms-s.result _ c.comparison_fits-fits.result (ended-in c.args.front.now 4 c.args.n) (sides-at (before c.args.front.now _) c.two_terms-s.ensures) c.comparison_fits-fits.ensures c.whole.ensures.kind_is c.whole.ensures.start_is c.whole.ensures.fault_is

pub connected-returns : goal.connected-returns
connected-returns t c n = pred-connected c.args.names.now c.args.sizes.now _ _ c.pred-p.result c.pred-q.result _ (ended-in c.args.front.now 3 n) (pred-at (before c.args.front.now _) c.pred-q.ensures) (pred-at (behind c.args.front.now _ c.pred-q.ensures.falls) c.pred-p.ensures) refl refl c.lesser-fault.ensures

pub divided-returns : goal.divided-returns
unfolding number_of
divided-returns t c = term-divided c.args.names.now c.args.sizes.now _ c.term-t.result _ c.from.result c.from-2.result (fault_key c.unless-zero.result) (fault_key c.lesser.result) (ended-in c.args.front.now 4 c.args.n) (term-at (before c.args.front.now _) c.term-t.ensures) c.from.ensures c.from-2.ensures c.unless-zero.ensures c.lesser.ensures refl refl (c.judge_least-fault.ensures ∙ ap (λ (b : Bool). judged_key b (key c.args.n.place 10) (fault_key c.lesser.result)) c.is_number.ensures)

pub items-returns-in_default : goal.items-returns-in_default
items-returns-in_default t c = items-short c.args.code.now (length c.args.code.now) (omega arith) c.args.names.now c.args.sizes.now _ c.nothing.ensures (let n = c.in_default.ensures in omega arith)

pub items-returns-then-code-at-eq-LAST : goal.items-returns-then-code-at-eq-LAST
items-returns-then-code-at-eq-LAST t c = items-only c.args.code.now (length c.args.code.now) (omega arith) c.args.names.now c.args.sizes.now _ c.term.result (term-at (front-last c.in-Some.ensures) c.term.ensures) (shape-last c.args.code.now c.in-Some.ensures ∙ c.if-code-at-eq-LAST.true)

pub items-returns : goal.items-returns
items-returns t c = items-also c.args.code.now (length c.args.code.now) (omega arith) c.args.names.now c.args.sizes.now _ _ c.term-t.result c.items-l.result _ (items-at (front-last c.in-Some.ensures) c.items-l.ensures) (term-at front c.term-t.ensures) (λ q. c.if-code-at-eq-LAST.false (sym (shape-last c.args.code.now c.in-Some.ensures) ∙ q)) c.shared_kind.ensures refl c.lesser-fault.ensures

pub joined-returns : goal.joined-returns
joined-returns t c = term-binary c.args.names.now c.args.sizes.now _ c.two_terms-s.result _ c.operator_fits-fits.result (ended-in c.args.front.now 5 c.args.n) (sides-at (before c.args.front.now _) c.two_terms-s.ensures) c.operator_fits-fits.ensures c.whole.ensures.kind_is c.whole.ensures.start_is c.whole.ensures.fault_is

pub listed-returns : goal.listed-returns
unfolding number_of
listed-returns t c = term-listed c.args.names.now c.args.sizes.now _ c.items-t.result _ c.is_element.result (ended-in c.args.front.now 7 c.args.n) (items-at (before c.args.front.now _) c.items-t.ensures) c.is_element.ensures c.set_of.ensures refl c.judge_least-fault.ensures

pub member-returns : goal.member-returns
member-returns t c = pred-member c.args.names.now c.args.sizes.now _ c.two_terms-s.result _ c.member_fits-fits.result (ended-in c.args.front.now 5 c.args.n) (sides-at (before c.args.front.now _) c.two_terms-s.ensures) c.member_fits-fits.ensures c.whole.ensures.kind_is c.whole.ensures.start_is c.whole.ensures.fault_is

pub pair-returns : goal.pair-returns
pair-returns t c = pair-seen c.args.code.now (length c.args.code.now) (omega arith) c.args.names.now c.args.sizes.now _ c.two_terms-s.result _ c.two_terms-s.ensures c.pair_with.ensures refl refl

pub paired-of-requires : goal.paired-of-requires
paired-of-requires t c = rw c.brace_fault.ensures (below-brace _ _ _ (omega arith))

pub paired-returns : goal.paired-returns
paired-returns t c = term-pairs c.args.names.now c.args.sizes.now _ c.pairs-t.result _ (fault_key c.brace_fault.result) (ended-in c.args.front.now 8 c.args.n) (pairs-at (before c.args.front.now _) c.pairs-t.ensures) c.brace_fault.ensures refl refl (ap fault_key c.or-fault.ensures ∙ first-key c.pairs-t.result.fault c.of.result ∙ ap (inside_key (fault_key c.pairs-t.result.fault)) (ap fault_key c.of.ensures))

pub two_terms-returns : goal.two_terms-returns
two_terms-returns t c = sides-seen c.args.code.now (length c.args.code.now) (omega arith) c.args.names.now c.args.sizes.now _ _ c.term-t.result c.term-u.result _ c.term-u.ensures (term-at front c.term-t.ensures) refl refl refl c.lesser-fault.ensures

pub pairs-returns-in_default : goal.pairs-returns-in_default
pairs-returns-in_default t c = pairs-short c.args.code.now (length c.args.code.now) (omega arith) c.args.names.now c.args.sizes.now _ c.nothing.ensures (let n = c.in_default.ensures in omega arith)

pub pairs-returns-then-code-at-eq-LAST : goal.pairs-returns-then-code-at-eq-LAST
pairs-returns-then-code-at-eq-LAST t c = pairs-only c.args.code.now (length c.args.code.now) (omega arith) c.args.names.now c.args.sizes.now _ c.pair.result (pair-at (front-last c.in-Some.ensures) c.pair.ensures) (shape-last c.args.code.now c.in-Some.ensures ∙ c.if-code-at-eq-LAST.true)

pub pairs-returns : goal.pairs-returns
pairs-returns t c = pairs-also c.args.code.now (length c.args.code.now) (omega arith) c.args.names.now c.args.sizes.now _ _ c.pair-t.result c.pairs-l.result _ (pairs-at (front-last c.in-Some.ensures) c.pairs-l.ensures) (pair-at front c.pair-t.ensures) (λ q. c.if-code-at-eq-LAST.false (sym (shape-last c.args.code.now c.in-Some.ensures) ∙ q)) c.shared_kind.ensures refl c.lesser-fault.ensures

pub pred-returns-in_default : goal.pred-returns-in_default
pred-returns-in_default t c = pred-short c.args.code.now (length c.args.code.now) (omega arith) c.args.names.now c.args.sizes.now _ c.nothing.ensures (let n = c.in_default.ensures in omega arith)

pub pred-returns-in-1 : goal.pred-returns-in-1
pred-returns-in-1 t c = pred_constant c.args.code.now (length c.args.code.now) (omega arith) c.args.names.now c.args.sizes.now _ refl (ap fault_key c.none.ensures) c.in-Some.ensures.1 (shape-last c.args.code.now c.in-Some.ensures ∙ c.in-1.is)

pub pred-returns-in-2 : goal.pred-returns-in-2
pred-returns-in-2 t c = pred-negation c.args.code.now (length c.args.code.now) (omega arith) c.args.names.now c.args.sizes.now _ c.pred.result (pred-at (front-last c.in-Some.ensures) c.pred.ensures) (shape-last c.args.code.now c.in-Some.ensures ∙ c.in-2.is)

pub pred-returns-in-3 : goal.pred-returns-in-3
pred-returns-in-3 t c = pred-whole c.in-Some.ensures c.last_node-n.ensures c.in-3.is (c.connected.ensures c.last_node-n.result)

pub pred-returns-in-4 : goal.pred-returns-in-4
pred-returns-in-4 t c = pred-whole c.in-Some.ensures c.last_node-n.ensures c.in-4.is c.compared.ensures

pub pred-returns-in-5 : goal.pred-returns-in-5
pred-returns-in-5 t c = pred-whole c.in-Some.ensures c.last_node-n.ensures c.in-5.is c.member.ensures

pub pred-returns-in-6 : goal.pred-returns-in-6
pred-returns-in-6 t c = pred-whole c.in-Some.ensures c.last_node-n.ensures c.in-6.is c.within.ensures

pub pred-returns-in-7 : goal.pred-returns-in-7
pred-returns-in-7 t c = pred-whole c.in-Some.ensures c.last_node-n.ensures c.in-7.is c.related.ensures

pub pred-returns-in-8 : goal.pred-returns-in-8
pred-returns-in-8 t c = pred-whole c.in-Some.ensures c.last_node-n.ensures c.in-8.is c.quantified.ensures

pub pred-returns-in_default-code : goal.pred-returns-in_default-code
pred-returns-in_default-code t c = pred-rest c.args.code.now (length c.args.code.now) (omega arith) c.args.names.now c.args.sizes.now _ c.nothing-in_default-code.ensures (let q = shape-last c.args.code.now c.in-Some.ensures in λ lo hi. omega arith)

pub prefixed-returns : goal.prefixed-returns
unfolding number_of
prefixed-returns t c = term-prefix c.args.names.now c.args.sizes.now _ c.term-t.result _ c.prefix_fits.result (ended-in c.args.front.now 3 c.args.n) (term-at (before c.args.front.now _) c.term-t.ensures) c.prefix_fits.ensures c.prefix_type.ensures refl c.judge_least-fault.ensures

pub quantified-returns : goal.quantified-returns
quantified-returns t c = pred-quantified c.args.names.now c.args.sizes.now _ c.bound-b.result _ (ended-in c.args.front.now 8 c.args.n) (bound-at (before c.args.front.now _) c.bound-b.ensures) refl refl refl

pub related-returns : goal.related-returns
unfolding number_of
related-returns t c = pred-related c.args.names.now c.args.sizes.now _ _ c.two_terms-s.result c.term-v.result _ c.related_fits.result (fault_key c.lesser-parts.result) (ended-in c.args.front.now 7 c.args.n) (term-at (before c.args.front.now _) c.term-v.ensures) (sides-at (behind c.args.front.now _ c.term-v.ensures.falls) c.two_terms-s.ensures) c.related_fits.ensures c.lesser-parts.ensures refl refl c.judge_least-fault.ensures

pub such-returns : goal.such-returns
such-returns t c = term-such c.args.names.now c.args.sizes.now _ c.bound-b.result _ (ended-in c.args.front.now 6 c.args.n) (bound-at (before c.args.front.now _) c.bound-b.ensures) c.set_of.ensures refl refl

pub term-returns-in_default : goal.term-returns-in_default
term-returns-in_default t c = term-short c.args.code.now (length c.args.code.now) (omega arith) c.args.names.now c.args.sizes.now _ c.nothing.ensures (let n = c.in_default.ensures in omega arith)

pub term-returns-in-1 : goal.term-returns-in-1
term-returns-in-1 t c = term-number c.args.code.now (length c.args.code.now) (omega arith) c.args.names.now c.args.sizes.now _ refl (ap fault_key c.none.ensures) c.in-Some.ensures.1 (shape-last c.args.code.now c.in-Some.ensures ∙ c.in-1.is)

pub term-returns-in-2 : goal.term-returns-in-2
term-returns-in-2 t c = term-whole c.in-Some.ensures c.last_node-n.ensures c.in-2.is c.named.ensures

pub term-returns-in-3 : goal.term-returns-in-3
term-returns-in-3 t c = term-whole c.in-Some.ensures c.last_node-n.ensures c.in-3.is c.prefixed.ensures

pub term-returns-in-4 : goal.term-returns-in-4
term-returns-in-4 t c = term-whole c.in-Some.ensures c.last_node-n.ensures c.in-4.is c.divided.ensures

pub term-returns-in-5 : goal.term-returns-in-5
term-returns-in-5 t c = term-whole c.in-Some.ensures c.last_node-n.ensures c.in-5.is c.joined.ensures

pub term-returns-in-6 : goal.term-returns-in-6
term-returns-in-6 t c = term-whole c.in-Some.ensures c.last_node-n.ensures c.in-6.is c.such.ensures

pub term-returns-in-7 : goal.term-returns-in-7
term-returns-in-7 t c = term-whole c.in-Some.ensures c.last_node-n.ensures c.in-7.is c.listed.ensures

pub term-returns-in-8 : goal.term-returns-in-8
term-returns-in-8 t c = term-whole c.in-Some.ensures c.last_node-n.ensures c.in-8.is c.paired.ensures

pub term-returns-in-9 : goal.term-returns-in-9
term-returns-in-9 t c = term-whole c.in-Some.ensures c.last_node-n.ensures c.in-9.is c.empty_set.ensures

pub term-returns-in-10 : goal.term-returns-in-10
term-returns-in-10 t c = term-whole c.in-Some.ensures c.last_node-n.ensures c.in-10.is c.empty_pairs.ensures

pub term-returns-in_default-code : goal.term-returns-in_default-code
term-returns-in_default-code t c = term-rest c.args.code.now (length c.args.code.now) (omega arith) c.args.names.now c.args.sizes.now _ c.nothing-in_default-code.ensures (let q = shape-last c.args.code.now c.in-Some.ensures in λ lo hi. omega arith)

pub within-returns : goal.within-returns
unfolding number_of
within-returns t c = pred-within c.args.names.now c.args.sizes.now _ c.term-t.result c.domain-d.result _ (fault_key c.lesser-parts.result) (ended-in c.args.front.now 6 c.args.n) (domain-at (before c.args.front.now _) c.domain-d.ensures) (term-at (behind c.args.front.now _ c.domain-d.ensures.falls) c.term-t.ensures) c.lesser-parts.ensures refl refl (c.judge_least-fault.ensures ∙ ap (λ (b : Bool). judged_key b (key c.args.n.place 10) (fault_key c.lesser-parts.result)) c.is_number.ensures)
