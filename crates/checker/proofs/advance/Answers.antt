-- `checker::advance` meets its contract: the search from the held place on is the look at the next bindings.
use mathlib.Core.Path.{refl, sym, ◌∙◌}
use native.Mathlib.Omega.{arith}
use Rattle.lexical.proofs.RangeTests.{ranged, inside_range}
use Rattle.held_checks.specs.declared.Mark.TheVariants.{Unfinished}
use Rattle.checker.proofs.OpenLaws.{opened_lent}
use Rattle.checker.proofs.MarkLaws.{is-mark, other-mark}
use Rattle.checker.proofs.CallLaws.{nothing-advance, opened-as, opened-not, refused-as, advance-finished}
use Rattle.checker.proofs.AdvanceLaws.{advance-outside, place-small, search-asked, stop-is, looked-least, looked-most, advance-looked}
use Rattle.checker.proofs.advance.Goals as goal

pub returns-in_err-o : goal.returns-in_err-o
returns-in_err-o c =
    rw (refused-as c.open_bytes.result c.from_residual.result c.from_residual.ensures.1 c.in_err-o.was c.ok_or.ensures.value)
    (nothing-advance (opened-not c.open_bytes.ensures c.ok_or.ensures.ok_part c.in_err-o.was) c.args.n)

pub returns-then-ne : goal.returns-then-ne
returns-then-ne c = advance-finished (opened-as c.open_bytes.ensures c.ok_or.ensures.ok_part c.in_ok-o.was) c.args.n (other-mark c.in_ok-o.o.mark Unfinished c.ne.ensures c.if-ne.true)

pub returns-then-not-contains : goal.returns-then-not-contains
returns-then-not-contains c =
    let o = opened-as c.open_bytes.ensures c.ok_or.ensures.ok_part c.in_ok-o.was in
    let m = is-mark c.in_ok-o.o.mark Unfinished c.ne.ensures c.if-ne.false in
    advance-outside o m c.args.n (sym (c.contains.ensures.value ∙ ranged c.args.n c.new.ensures.start c.new.ensures.end c.new.ensures.exhausted) ∙ c.if-not-contains.true)

pub overflow_add-end : goal.overflow_add-end
overflow_add-end c =
    let o = opened-as c.open_bytes.ensures c.ok_or.ensures.ok_part c.in_ok-o.was in
    let m = is-mark c.in_ok-o.o.mark Unfinished c.ne.ensures c.if-ne.false in
    let i = inside_range {x = c.args.n} {low = 1} {high = 1000000000} (sym (c.contains.ensures.value ∙ ranged c.args.n c.new.ensures.start c.new.ensures.end c.new.ensures.exhausted) ∙ c.if-not-contains.false) in
    omega (arith, place-small o m, i.1)

pub search-failing-requires : goal.search-failing-requires
search-failing-requires c =
    let o = opened-as c.open_bytes.ensures c.ok_or.ensures.ok_part c.in_ok-o.was in
    let m = is-mark c.in_ok-o.o.mark Unfinished c.ne.ensures c.if-ne.false in
    let i = inside_range {x = c.args.n} {low = 1} {high = 1000000000} (sym (c.contains.ensures.value ∙ ranged c.args.n c.new.ensures.start c.new.ensures.end c.new.ensures.exhausted) ∙ c.if-not-contains.false) in
    record { from_le_end = (omega arith, omega (arith, place-small o m, i.1)); search_asked = search-asked (opened_lent o c.dossier-d.ensures) m }

pub come_to-requires : goal.come_to-requires
come_to-requires c =
    let o = opened_lent (opened-as c.open_bytes.ensures c.ok_or.ensures.ok_part c.in_ok-o.was) c.dossier-d.ensures in
    let m = is-mark c.in_ok-o.o.mark Unfinished c.ne.ensures c.if-ne.false in
    let i = sym (c.contains.ensures.value ∙ ranged c.args.n c.new.ensures.start c.new.ensures.end c.new.ensures.exhausted) ∙ c.if-not-contains.false in
    let s = stop-is _ _ c.search-failing.result refl c.min.ensures in
    let low = looked-least o m c.args.n i refl c.search-failing.ensures s refl in
    let most = looked-most o m c.args.n i refl c.search-failing.ensures s refl in
    (low, omega (arith, most, place-small o m, (inside_range {x = c.args.n} {low = 1} {high = 1000000000} i).1))

pub returns : goal.returns
returns c =
    let o = opened_lent (opened-as c.open_bytes.ensures c.ok_or.ensures.ok_part c.in_ok-o.was) c.dossier-d.ensures in
    let m = is-mark c.in_ok-o.o.mark Unfinished c.ne.ensures c.if-ne.false in
    let i = sym (c.contains.ensures.value ∙ ranged c.args.n c.new.ensures.start c.new.ensures.end c.new.ensures.exhausted) ∙ c.if-not-contains.false in
    let s = stop-is _ _ c.search-failing.result refl c.min.ensures in
    advance-looked o m c.args.n i refl c.search-failing.ensures s refl c.come_to.ensures.moved c.come_to.ensures.looked
