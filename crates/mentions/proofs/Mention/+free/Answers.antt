-- The functions of `mentions` that walk down the nodes, and call each other, meet their contracts: where the parts are free, so is the node. The measure is where the nodes end. Assumes nothing.
use mathlib.Core.Path.{sym, ◌∙◌}
use mathlib.Core.Bool.{false≢true}
use native.Mathlib.Omega.{arith}
use borrow.Author.Tests.{lt-leb, not-false, ne_eqb}
use Rattle.mentions.proofs.FreeNodes as nodes
use Rattle.mentions.proofs.FreeTruths as truths
use Rattle.mentions.proofs.Mention.+free.Goals as goal
use Rattle.mentions.proofs.Mention.+free.Goals.{free_asked-then-free_part-2, free_asked-else-free_part-2}

pub free_asked-returns-else-end-ge-TWO_NODES : goal.free_asked-returns-else-end-ge-TWO_NODES
free_asked-returns-else-end-ge-TWO_NODES t c = record { means = λ e. absurd (false≢true (sym (lt-leb 8 c.args.end c.if-end-ge-TWO_NODES.false) ∙ e)) }

pub free_asked-returns-then-end-ge-TWO_NODES : goal.free_asked-returns-then-end-ge-TWO_NODES
free_asked-returns-then-end-ge-TWO_NODES t c = record { means = λ e. truths.range-free c.in-21.is (c.free_term-then-end-ge-TWO_NODES.ensures.means e) }

pub free_items-returns-then-not-inside : goal.free_items-returns-then-not-inside
free_items-returns-then-not-inside t c = record { means = λ e. absurd (false≢true e) }

pub free_items-returns-then-shape-eq-LAST_ITEM : goal.free_items-returns-then-shape-eq-LAST_ITEM
free_items-returns-then-shape-eq-LAST_ITEM t c = record { means = λ e. nodes.last-item-free c.if-shape-eq-LAST_ITEM.true (c.free_term.ensures.means e) }

pub free_pred-returns-then-not-inside : goal.free_pred-returns-then-not-inside
free_pred-returns-then-not-inside t c = record { means = λ e. absurd (false≢true e) }

pub free_pred-returns-then-from-self : goal.free_pred-returns-then-from-self
free_pred-returns-then-from-self t c = record { means = λ e. truths.quantifier-own c.in-24.is (sym c.from.ensures ∙ c.if-from-self.true) }

pub free_pred-returns-else-end-ge-TWO_NODES : goal.free_pred-returns-else-end-ge-TWO_NODES
free_pred-returns-else-end-ge-TWO_NODES t c = record { means = λ e. absurd (false≢true (sym (lt-leb 8 c.args.end c.if-end-ge-TWO_NODES.false) ∙ e)) }

pub free_pred-free_asked-requires : goal.free_pred-free_asked-requires
free_pred-free_asked-requires t c = (omega arith, c.inside.ensures c.if-not-inside.false)

pub free_pred-returns-in-16 : goal.free_pred-returns-in-16
free_pred-returns-in-16 t c = record { means = λ e. truths.told_free c.in-16.is }

pub free_pred-returns-in-17 : goal.free_pred-returns-in-17
free_pred-returns-in-17 t c = record { means = λ e. truths.not_free c.in-17.is (c.free_pred.ensures.means e) }

pub free_pred-returns-then-end-ge-TWO_NODES : goal.free_pred-returns-then-end-ge-TWO_NODES
free_pred-returns-then-end-ge-TWO_NODES t c = record { means = λ e. truths.quantifier-free c.in-24.is (c.free_pred-then-end-ge-TWO_NODES.ensures.means e) }

pub free_pred-returns-in_default : goal.free_pred-returns-in_default
free_pred-returns-in_default t c = record { means = λ e. truths.asked-free (ne_eqb _ _ c.in_default.in_default-own.rest.0.0.0.0.1) (ne_eqb _ _ c.in_default.in_default-own.rest.0.0.0.1) (ne_eqb _ _ c.in_default.in_default-own.rest.0.0.1) (ne_eqb _ _ c.in_default.in_default-own.rest.0.1) (ne_eqb _ _ c.in_default.in_default-own.rest.1) (c.free_asked.ensures.means e) }

pub free_term-returns-then-not-inside : goal.free_term-returns-then-not-inside
free_term-returns-then-not-inside t c = record { means = λ e. absurd (false≢true e) }

pub free_term-returns-then-from-self : goal.free_term-returns-then-from-self
free_term-returns-then-from-self t c = record { means = λ e. nodes.such-own c.in-6.is (sym c.from-in-6.ensures ∙ c.if-from-self.true) }

pub free_term-returns-else-end-ge-TWO_NODES : goal.free_term-returns-else-end-ge-TWO_NODES
free_term-returns-else-end-ge-TWO_NODES t c = record { means = λ e. absurd (false≢true (sym (lt-leb 8 c.args.end c.if-end-ge-TWO_NODES.false) ∙ e)) }

pub free_term-returns-in-1 : goal.free_term-returns-in-1
free_term-returns-in-1 t c = record { means = λ e. nodes.number-free c.in-1.is }

pub free_term-returns-in-2 : goal.free_term-returns-in-2
free_term-returns-in-2 t c = nodes.slot-says c.in-2.is (omega arith) c.from.ensures

pub free_term-returns-in-3 : goal.free_term-returns-in-3
free_term-returns-in-3 t c = record { means = λ e. nodes.alone-free (omega arith) (omega arith) (c.free_term-in-3.ensures.means e) }

pub free_term-returns-then-end-ge-TWO_NODES : goal.free_term-returns-then-end-ge-TWO_NODES
free_term-returns-then-end-ge-TWO_NODES t c = record { means = λ e. nodes.such-free c.in-6.is (c.free_pred.ensures.means e) }

pub free_term-returns-in_default : goal.free_term-returns-in_default
free_term-returns-in_default t c = record { means = λ e. nodes.brace-free (ne_eqb _ _ (omega arith)) (ne_eqb _ _ (omega arith)) (ne_eqb _ _ (omega arith)) (ne_eqb _ _ (omega arith)) (ne_eqb _ _ (omega arith)) (ne_eqb _ _ (omega arith)) (c.free_items.ensures.means e) }

pub free_part-free_term-requires : goal.free_part-free_term-requires
free_part-free_term-requires t c = omega (arith, c.in-Some.ensures.before)

pub free_part-returns-in-Some : goal.free_part-returns-in-Some
free_part-returns-in-Some t c = record { means = λ e. record { end = c.in-Some.p; earlier = c.in-Some.ensures; free = c.free_term.ensures.means e } }

pub free_part-returns-in-None : goal.free_part-returns-in-None
free_part-returns-in-None t c = record { means = λ e. absurd (false≢true e) }

pub free_term-free_part-requires : goal.free_term-free_part-requires
free_term-free_part-requires t c = let w = c.inside.ensures c.if-not-inside.false in (omega arith, (w, omega arith, omega arith))

pub free_term-returns-then-free_part : goal.free_term-returns-then-free_part
free_term-returns-then-free_part t c = record { means = λ e. (let w = c.free_part.ensures.means c.if-free_part.true in nodes.operator-free c.in-5.is w.earlier w.free (c.free_term.ensures.means e)) }

pub free_term-returns-else-free_part : goal.free_term-returns-else-free_part
free_term-returns-else-free_part t c = record { means = λ e. absurd (false≢true (sym c.if-free_part.false ∙ e)) }

pub free_items-free_part-requires : goal.free_items-free_part-requires
free_items-free_part-requires t c = let w = c.inside.ensures c.if-not-inside.false in (omega arith, (w, omega arith, omega arith))

pub free_items-returns-then-not-free_part : goal.free_items-returns-then-not-free_part
free_items-returns-then-not-free_part t c = record { means = λ e. absurd (false≢true e) }

pub free_items-returns-in-10 : goal.free_items-returns-in-10
free_items-returns-in-10 t c = record { means = λ e. (let w = c.free_part.ensures.means (not-false _ c.if-not-free_part.false-raw) in nodes.more-items-free c.in-10.is w.earlier w.free (c.free_items.ensures.means e)) }

pub free_items-returns-in-11 : goal.free_items-returns-in-11
free_items-returns-in-11 t c = record { means = λ e. (let w = c.free_part.ensures.means (not-false _ c.if-not-free_part.false-raw) in nodes.last-pair-free c.in-11.is w.earlier w.free (c.free_term-in-11.ensures.means e)) }

pub free_items-free_part-requires-in_default : goal.free_items-free_part-requires-in_default
free_items-free_part-requires-in_default t c = let w = c.inside.ensures c.if-not-inside.false in (omega arith, (w, omega arith, omega arith))

pub free_items-returns-then-free_part : goal.free_items-returns-then-free_part
free_items-returns-then-free_part t c = record { means = λ e. (let w = c.free_part.ensures.means (not-false _ c.if-not-free_part.false-raw) in let v = c.free_part-in_default.ensures.means c.if-free_part.true in nodes.more-pairs-free (ne_eqb _ _ c.if-shape-eq-LAST_ITEM.false) (ne_eqb _ _ c.in_default.in_default-own.rest.0.1) (ne_eqb _ _ c.in_default.in_default-own.rest.1) w.earlier w.free v.earlier v.free (c.free_items-then-free_part.ensures.means e)) }

pub free_items-returns-else-free_part : goal.free_items-returns-else-free_part
free_items-returns-else-free_part t c = record { means = λ e. absurd (false≢true (sym c.if-free_part.false ∙ e)) }

pub free_pred-earlier-requires : goal.free_pred-earlier-requires
free_pred-earlier-requires t c = let w = c.inside.ensures c.if-not-inside.false in (w, omega arith, omega arith)

pub free_pred-free_pred-requires-in-18 : goal.free_pred-free_pred-requires-in-18
free_pred-free_pred-requires-in-18 t c = omega (arith, c.in-Some.ensures.before)

pub free_pred-returns-in_default-earlier : goal.free_pred-returns-in_default-earlier
free_pred-returns-in_default-earlier t c = record { means = λ e. absurd (false≢true e) }

pub free_pred-returns-then-free_pred : goal.free_pred-returns-then-free_pred
free_pred-returns-then-free_pred t c = record { means = λ e. truths.connective-free c.in-18.is c.in-Some.ensures (c.free_pred-in-18.ensures.means c.if-free_pred.true) (c.free_pred-then-free_pred.ensures.means e) }

pub free_pred-returns-else-free_pred : goal.free_pred-returns-else-free_pred
free_pred-returns-else-free_pred t c = record { means = λ e. absurd (false≢true (sym c.if-free_pred.false ∙ e)) }

pub free_pred-free_part-requires : goal.free_pred-free_part-requires
free_pred-free_part-requires t c = let w = c.inside.ensures c.if-not-inside.false in (omega arith, (w, omega arith, omega arith))

pub free_pred-returns-then-free_part : goal.free_pred-returns-then-free_part
free_pred-returns-then-free_part t c = record { means = λ e. (let w = c.free_part.ensures.means c.if-free_part.true in truths.comparison-free c.in-19.is w.earlier w.free (c.free_term.ensures.means e)) }

pub free_pred-returns-else-free_part : goal.free_pred-returns-else-free_part
free_pred-returns-else-free_part t c = record { means = λ e. absurd (false≢true (sym c.if-free_part.false ∙ e)) }

pub free_asked-free_part-requires : goal.free_asked-free_part-requires
free_asked-free_part-requires t c = (omega arith, (c.requires, omega arith, omega arith))

pub free_asked-returns-then-free_part : goal.free_asked-returns-then-free_part
free_asked-returns-then-free_part t c = record { means = λ e. (let w = c.free_part.ensures.means c.if-free_part.true in truths.member-free c.in-20.is w.earlier w.free (c.free_term.ensures.means e)) }

pub free_asked-returns-else-free_part : goal.free_asked-returns-else-free_part
free_asked-returns-else-free_part t c = record { means = λ e. absurd (false≢true (sym c.if-free_part.false ∙ e)) }

pub free_asked-free_part-requires-in_default : goal.free_asked-free_part-requires-in_default
free_asked-free_part-requires-in_default t c = (omega arith, (c.requires, omega arith, omega arith))

pub free_asked-free_part-requires-then-free_part-2 : goal.free_asked-free_part-requires-then-free_part-2
free_asked-free_part-requires-then-free_part-2 t c = (omega arith, (c.requires, omega arith, omega arith))

pub free_asked-returns-then-free_part-3 : goal.free_asked-returns-then-free_part-3
free_asked-returns-then-free_part-3 t c =
    elim c.if-free_part-2.branch [
      | free_asked-then-free_part-2 w ↦
          record { means = λ e. (let u = c.free_part-in_default.ensures.means w.if-free_part-2.true in let v = w.free_part-then-free_part-2.ensures.means (sym w.value-is ∙ c.if-free_part-3.true) in truths.related-free (ne_eqb _ _ c.in_default.in_default-own.rest.0.1) (ne_eqb _ _ c.in_default.in_default-own.rest.1) u.earlier u.free v.earlier v.free (c.free_term-then-free_part-3.ensures.means e)) }
      | free_asked-else-free_part-2 w ↦ absurd (false≢true (sym w.if-free_part-2.false ∙ sym w.value-is ∙ c.if-free_part-3.true))
    ]

pub free_asked-returns-else-free_part-3 : goal.free_asked-returns-else-free_part-3
free_asked-returns-else-free_part-3 t c = record { means = λ e. absurd (false≢true (sym c.if-free_part-3.false ∙ e)) }
