-- `input_texts::read_front` meets its contract: where the loop ends the text is full. Assumes nothing.
use Rattle.input_texts.proofs.read_front.Goals as goal

pub returns : goal.returns
returns g c = c.loop-done.invariant.0
