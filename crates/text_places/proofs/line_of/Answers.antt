-- `text_places::line_of` meets its contract. The answer is written so that an edit of the number that lines begin with is refused by it. Assumes nothing.
use Rattle.std.proofs.Common.{rules, arith, ◌≡◌, take}
use Rattle.text_places.specs.PlacePromises.{newlines}
use Rattle.text_places.proofs.line_of.Goals as goal

pub returns : goal.returns
returns c = let e : c.count.result ≡ newlines (take c.args.p c.args.text.now) = search rules in omega (arith, e)
