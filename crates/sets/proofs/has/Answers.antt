-- `sets::has` meets its contract: past the last bit there is no member. Assumes nothing.
use mathlib.Core.Path.{refl, sym, ◌∙◌}
use borrow.Author.Tests.{le-ltb}
use Rattle.sets.specs.Sets.{has}
use Rattle.sets.proofs.Members.{has-past}
use Rattle.sets.proofs.has.Goals as goal

pub returns-then-k-lt-PLACES : goal.returns-then-k-lt-PLACES
unfolding has
returns-then-k-lt-PLACES c = refl

pub returns-else-k-lt-PLACES : goal.returns-else-k-lt-PLACES
returns-else-k-lt-PLACES c = le-ltb c.args.k 16 c.if-k-lt-PLACES.false ∙ sym (has-past 16 c.args.s c.args.k c.ranges.s.fits c.if-k-lt-PLACES.false)
