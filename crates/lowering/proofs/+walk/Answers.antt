-- The walk that writes the table meets its contracts. Assumes nothing.
use mathlib.Core.Path.{refl, ap, ◌∙◌}
use native.Mathlib.Omega.{arith}
use Rattle.type_rules.specs.TypesByNumber.{set_of}
use Rattle.lowering.proofs.TableWalk.{term-short, items-short, pairs-short, pred-short, term-other, pred_other}
use Rattle.lowering.proofs.TableWalkTerms.{term-prefix, term-divided, term-binary, term-such, term-listed, term-pairs}
use Rattle.lowering.proofs.TableWalkBraces.{items-only, items-also, pairs-only, pairs-also}
use Rattle.lowering.proofs.TableWalkPreds.{pred-negation, pred-connected, pred-sides, pred-within, pred-related, pred-quantified}
use Rattle.lowering.proofs.+walk.Goals as goal

pub walk::sides-returns : goal.walk::sides-returns
walk::sides-returns t c = pred-sides c.args.r.now.code.now c.args.end c.args.slot c.requires.asked.inside c.requires.far c.args.names.now c.args.places.now c.args.r.now.sizes.now c.args.out.now c.requires.asked.fits _ _ _ _ _ _ _ c.term-u.result c.term-t.result _ _ _ c.args.shape c.requires.shape c.term-u.ensures c.term-t.ensures refl refl c.set_node.ensures refl refl

pub walk::bound-returns : goal.walk::bound-returns
walk::bound-returns t c = record {
  over = c.domain-d.result;
  body = record { kind = 0; start = c.pred-p.result };
  x = c.from-x.result;
  old = c.entry-old.result;
  was = c.look-was.result;
  next = c.next_slot.result;
  typed = _;
  behind = _;
  slotted = _;
  left = _;
  between = _;
  domain = c.domain-d.ensures;
  pred = c.pred-p.ensures;
  next_is = c.next_slot.ensures;
  typed_is = c.put.ensures;
  names_back = c.put-3.ensures;
  slotted_is = c.put-2.ensures;
  places_back = c.put-4.ensures;
  x_is = c.from-x.ensures;
  old_is = c.entry-old.ensures;
  was_is = c.look-was.ensures;
  kind_is = refl;
  start_is = refl;
  falls = (let f = c.pred-p.ensures.walked.falls in let g = c.domain-d.ensures.falls in omega arith);
  long = c.pred-p.ensures.walked.long ∙ c.domain-d.ensures.long;
}

pub walk::connected-returns : goal.walk::connected-returns
walk::connected-returns t c = pred-connected c.args.r.now.code.now c.args.end c.args.slot c.requires.inside c.requires.far c.args.names.now c.args.places.now c.args.r.now.sizes.now c.args.out.now c.requires.fits _ _ _ _ _ _ _ _ _ _ _ _ c.requires.shape c.pred-q.ensures c.pred-p.ensures refl refl c.set_node.ensures refl refl

pub walk::divided-returns : goal.walk::divided-returns
walk::divided-returns t c = term-divided c.args.r.now.code.now c.args.end c.args.slot c.requires.inside c.requires.far c.args.names.now c.args.places.now c.args.r.now.sizes.now c.args.out.now c.requires.fits _ _ _ _ c.term-t.result _ _ _ c.requires.shape c.term-t.ensures refl refl c.set_node.ensures refl refl

pub braces::items-returns-in_default : goal.braces::items-returns-in_default
braces::items-returns-in_default t c = items-short c.args.r.now.code.now c.args.end c.args.slot c.requires.inside c.args.names.now c.args.places.now c.args.r.now.sizes.now c.args.out.now _ c.nothing.ensures (let n = c.in_default.ensures in omega arith)

pub braces::items-returns-then-r-at-eq-LAST : goal.braces::items-returns-then-r-at-eq-LAST
braces::items-returns-then-r-at-eq-LAST t c = items-only c.args.r.now.code.now c.args.end c.args.slot c.requires.inside c.in-Some.ensures.0 c.args.names.now c.args.places.now c.args.r.now.sizes.now c.args.out.now c.requires.fits _ _ _ _ c.term-t.result _ c.in-Some.ensures.1 c.if-r-at-eq-LAST.true c.term-t.ensures c.set_node.ensures refl refl

pub braces::items-returns : goal.braces::items-returns
braces::items-returns t c = items-also c.args.r.now.code.now c.args.end c.args.slot c.requires.inside c.in-Some.ensures.0 c.args.names.now c.args.places.now c.args.r.now.sizes.now c.args.out.now c.requires.fits _ _ _ _ _ _ _ c.items-l.result c.term-t-2.result _ _ c.in-Some.ensures.1 c.if-r-at-eq-LAST.false c.items-l.ensures c.term-t-2.ensures refl c.set_node-2.ensures c.shared_kind.ensures refl

pub walk::joined-returns : goal.walk::joined-returns
walk::joined-returns t c = term-binary c.args.r.now.code.now c.args.end c.args.slot c.requires.inside c.requires.far c.args.names.now c.args.places.now c.args.r.now.sizes.now c.args.out.now c.requires.fits _ _ _ _ _ _ _ c.term-u.result c.term-t.result _ _ _ c.requires.shape c.term-u.ensures c.term-t.ensures refl refl c.set_node.ensures refl refl

pub braces::last_pair-returns : goal.braces::last_pair-returns
braces::last_pair-returns t c = pairs-only c.args.r.now.code.now c.args.end c.args.slot c.requires.inside c.requires.far c.args.names.now c.args.places.now c.args.r.now.sizes.now c.args.out.now c.requires.fits _ _ _ _ _ _ _ c.term-u.result c.term-t.result _ _ c.element_size.result c.requires.shape c.term-u.ensures c.term-t.ensures refl c.element_size.ensures c.set_node.ensures c.pair_with.ensures refl

pub braces::listed-returns : goal.braces::listed-returns
braces::listed-returns t c = term-listed c.args.r.now.code.now c.args.end c.args.slot c.requires.inside c.requires.far c.args.names.now c.args.places.now c.args.r.now.sizes.now c.args.out.now c.requires.fits _ _ _ _ c.items-t.result _ c.requires.shape c.items-t.ensures c.set_node.ensures c.set_of.ensures refl

pub walk::negated-returns : goal.walk::negated-returns
walk::negated-returns t c = pred-negation c.args.r.now.code.now c.args.end c.args.slot c.requires.inside c.requires.far c.args.names.now c.args.places.now c.args.r.now.sizes.now c.args.out.now c.requires.fits _ _ _ _ _ _ c.requires.shape c.pred-p.ensures c.set_node.ensures refl refl

pub braces::next_pair-returns : goal.braces::next_pair-returns
braces::next_pair-returns t c = pairs-also c.args.r.now.code.now c.args.end c.args.slot c.requires.0.inside c.requires.1 c.args.names.now c.args.places.now c.args.r.now.sizes.now c.args.out.now c.requires.0.fits _ _ _ _ _ _ _ _ _ _ c.pairs-l.result c.term-u.result c.term-t.result _ c.pair_with-k.result _ c.element_size-n.result _ c.requires.2 c.pairs-l.ensures c.term-u.ensures c.term-t.ensures refl c.element_size-n.ensures refl c.pair_with-k.ensures c.set_node.ensures c.shared_kind.ensures refl

pub braces::paired-returns : goal.braces::paired-returns
braces::paired-returns t c = term-pairs c.args.r.now.code.now c.args.end c.args.slot c.requires.inside c.requires.far c.args.names.now c.args.places.now c.args.r.now.sizes.now c.args.out.now c.requires.fits _ _ _ _ c.pairs-t.result _ c.requires.shape c.pairs-t.ensures c.set_node.ensures refl refl

pub braces::pairs-returns-in_default : goal.braces::pairs-returns-in_default
braces::pairs-returns-in_default t c = pairs-short c.args.r.now.code.now c.args.end c.args.slot c.requires.inside c.args.names.now c.args.places.now c.args.r.now.sizes.now c.args.out.now _ c.nothing.ensures (let n = c.in_default.ensures in omega arith)

pub walk::pred-returns-in_default : goal.walk::pred-returns-in_default
walk::pred-returns-in_default t c = pred-short c.args.r.now.code.now c.args.end c.args.slot c.requires.inside c.args.names.now c.args.places.now c.args.r.now.sizes.now c.args.out.now _ refl (let n = c.in_default.ensures in omega arith)

pub walk::pred-returns-in-1 : goal.walk::pred-returns-in-1
walk::pred-returns-in-1 t c = c.constant.ensures c.args.slot c.args.names.now c.args.places.now c.args.r.now.sizes.now

pub walk::pred-returns-in_default-code : goal.walk::pred-returns-in_default-code
walk::pred-returns-in_default-code t c = pred_other c.args.r.now.code.now c.args.end c.args.slot c.requires.inside c.args.names.now c.args.places.now c.args.r.now.sizes.now c.args.out.now _ refl c.in-Some.ensures.1 (λ lo hi. omega arith)

pub walk::prefixed-returns : goal.walk::prefixed-returns
walk::prefixed-returns t c = term-prefix c.args.r.now.code.now c.args.end c.args.slot c.requires.inside c.requires.far c.args.names.now c.args.places.now c.args.r.now.sizes.now c.args.out.now c.requires.fits _ _ _ _ c.term-t.result _ _ c.first_size-f.result c.second_size-g.result c.requires.shape c.term-t.ensures refl c.first_size-f.ensures c.second_size-g.ensures c.set_node.ensures c.prefix_type.ensures refl

pub walk::quantified-returns : goal.walk::quantified-returns
walk::quantified-returns t c = let h = c.bound-p.ensures in pred-quantified c.args.r.now.code.now c.args.end c.args.slot c.requires.inside c.requires.far c.args.names.now c.args.places.now c.args.r.now.sizes.now c.args.out.now c.requires.fits _ _ _ _ _ _ _ _ _ h.over h.body _ h.x h.old h.was h.next _ c.requires.shape h.domain h.pred h.next_is h.typed_is h.names_back h.slotted_is h.places_back h.x_is h.old_is h.was_is refl c.set_node.ensures refl h.start_is

pub walk::related-returns : goal.walk::related-returns
walk::related-returns t c = pred-related c.args.r.now.code.now c.args.end c.args.slot c.requires.inside c.requires.far c.args.names.now c.args.places.now c.args.r.now.sizes.now c.args.out.now c.requires.fits _ _ _ _ _ _ _ _ _ _ c.term-v.result c.term-u.result c.term-t.result _ _ c.related_shape.result _ c.element_size-n.result _ c.requires.shape c.term-v.ensures c.term-u.ensures c.term-t.ensures refl c.related_shape.ensures refl c.element_size-n.ensures refl c.set_node.ensures refl refl

pub walk::such-returns : goal.walk::such-returns
walk::such-returns t c = let h = c.bound-p.ensures in term-such c.args.r.now.code.now c.args.end c.args.slot c.requires.inside c.requires.far c.args.names.now c.args.places.now c.args.r.now.sizes.now c.args.out.now c.requires.fits _ _ _ _ _ _ _ _ _ h.over h.body _ h.x h.old h.was h.next c.requires.shape h.domain h.pred h.next_is h.typed_is h.names_back h.slotted_is h.places_back h.x_is h.old_is h.was_is c.set_node.ensures (c.set_of.ensures ∙ ap set_of h.kind_is) h.start_is

pub walk::term-returns-in_default : goal.walk::term-returns-in_default
walk::term-returns-in_default t c = term-short c.args.r.now.code.now c.args.end c.args.slot c.requires.inside c.args.names.now c.args.places.now c.args.r.now.sizes.now c.args.out.now _ c.nothing.ensures (let n = c.in_default.ensures in omega arith)

pub walk::term-returns-in-1 : goal.walk::term-returns-in-1
walk::term-returns-in-1 t c = c.number.ensures c.args.slot c.args.names.now c.args.places.now c.args.r.now.sizes.now

pub walk::term-returns-in-2 : goal.walk::term-returns-in-2
walk::term-returns-in-2 t c = c.named.ensures c.args.slot c.args.r.now.sizes.now

pub walk::term-returns-in-9 : goal.walk::term-returns-in-9
walk::term-returns-in-9 t c = c.empty_set.ensures c.args.slot c.args.places.now c.args.r.now.sizes.now

pub walk::term-returns-in-10 : goal.walk::term-returns-in-10
walk::term-returns-in-10 t c = c.empty_pairs.ensures c.args.slot c.args.places.now c.args.r.now.sizes.now

pub walk::term-returns-in_default-code : goal.walk::term-returns-in_default-code
walk::term-returns-in_default-code t c = term-other c.args.r.now.code.now c.args.end c.args.slot c.requires.inside c.args.names.now c.args.places.now c.args.r.now.sizes.now c.args.out.now _ c.nothing-in_default-code.ensures c.in-Some.ensures.1 (λ lo hi. omega arith)

pub walk::within-returns : goal.walk::within-returns
walk::within-returns t c = pred-within c.args.r.now.code.now c.args.end c.args.slot c.requires.inside c.requires.far c.args.names.now c.args.places.now c.args.r.now.sizes.now c.args.out.now c.requires.fits _ _ _ _ _ c.domain-d.result c.term-t.result _ _ c.requires.shape c.domain-d.ensures c.term-t.ensures refl c.set_node.ensures refl refl
