-- `tried_texts::tried_front` meets its contract. Assumes nothing.
use mathlib.Core.Path.{sym, ap, ◌∙◌}
use Rattle.std.proofs.lemmas.List.{take_min}
use Rattle.tried_texts.specs.TrialPromises.{instead}
use Rattle.tried_texts.proofs.Assembled.{answered-of}
use Rattle.tried_texts.proofs.tried_front.Goals as goal

pub returns : goal.returns
returns c = answered-of (ap (instead c.args.text.now c.args.s.from c.args.s.to) (c.before-2.ensures ∙ sym (take_min c.args.n c.args.words.now))) c.tried.ensures
