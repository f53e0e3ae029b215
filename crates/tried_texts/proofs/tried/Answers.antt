-- `tried_texts::tried` meets its contract. Assumes nothing.
use mathlib.Core.Path.{refl, ◌∙◌}
use Rattle.tried_texts.proofs.Assembled.{pieces, answered-of}
use Rattle.tried_texts.proofs.tried.Goals as goal

pub returns : goal.returns
returns c = answered-of (c.as_slice.ensures.value ∙ pieces c.args.text.now c.args.words.now c.args.s.from c.args.s.to c.min-behind.ensures c.new-other.ensures c.put_all.ensures c.put_all-2.ensures c.put_all-3.ensures c.before-2.ensures refl) c.answer_of.ensures
