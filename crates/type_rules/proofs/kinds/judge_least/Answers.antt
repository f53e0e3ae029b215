-- `kinds::judge_least` meets its contract. Assumes nothing.
use mathlib.Core.Path.{ap, ◌∙◌}
use Prim.Native.Nat.{ℕ}
use Rattle.refusals.specs.Refusals.{number_of}
use Rattle.refusals.specs.RefusalNames.{refusal_is}
use Rattle.type_rules.specs.TypesByNumber.{key, fault_key, unless_key}
use Rattle.type_rules.proofs.FaultOrder.{judged-first}
use Rattle.type_rules.proofs.kinds.judge_least.Goals as goal

pub returns : goal.returns
returns c = ap fault_key c.or.ensures ∙ judged-first c.args.parts c.unless.result c.args.fits (key c.args.i (number_of (refusal_is c.args.refusal)))
    (c.unless.ensures ∙ ap (λ (j : ℕ). unless_key c.args.fits (key j (number_of (refusal_is c.args.refusal)))) c.from.ensures)
