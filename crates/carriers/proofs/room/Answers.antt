-- `carriers::room` meets its contract. Assumes nothing.
use mathlib.Core.Bool.{false≢true}
use mathlib.Core.Path.{sym, ◌∙◌}
use borrow.Author.Tests.{leb-true, leb-false}
use native.Mathlib.Omega.{arith}
use Rattle.lexical.proofs.RangeTests.{ranged, inside_range, outside_range}
use Rattle.carriers.proofs.Masks.{few-rows, bits-of_rows, least_fits}
use Rattle.carriers.proofs.room.Goals as goal

pub returns-else-contains : goal.returns-else-contains
returns-else-contains c = (
  λ e. absurd (false≢true (sym c.if-contains.false ∙ e)),
  λ e b h. few-rows c.args.n c.args.m (outside_range (sym (c.contains.ensures.value ∙ ranged c.args.m (c.new.ensures.start ∙ c.least.ensures) c.new.ensures.end c.new.ensures.exhausted) ∙ c.if-contains.false) b) h,
)

pub returns-then-contains : goal.returns-then-contains
returns-then-contains c =
    let b = bits-of_rows c.args.m c.args.n c.pair.result c.pair.ensures in
    let i = inside_range (sym (c.contains.ensures.value ∙ ranged c.args.m (c.new.ensures.start ∙ c.least.ensures) c.new.ensures.end c.new.ensures.exhausted) ∙ c.if-contains.true) in
    (λ e. record { least_bit = least_fits c.args.f; some_bit = i.0; bits_of_row = i.1; bits = omega (arith, leb-true c.pair.result 16 e) }, λ e l h. absurd (omega (arith, leb-false c.pair.result 16 e)))
