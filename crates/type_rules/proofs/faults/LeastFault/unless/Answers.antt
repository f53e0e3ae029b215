-- `LeastFault::unless` meets its contract. Assumes nothing.
use mathlib.Core.Path.{sym, ap, ◌∙◌}
use mathlib.Core.Bool.{Bool}
use native.Mathlib.Omega.{arith}
use Rattle.refusals.specs.Refusals.{number_of}
use Rattle.refusals.specs.RefusalNames.{refusal_is}
use Rattle.refusals.proofs.RefusalNumbers.{small-number}
use Rattle.type_rules.specs.TypesByNumber.{key, fault_key, unless_key}
use Rattle.type_rules.proofs.faults.LeastFault.unless.Goals as goal

pub returns-then-ok : goal.returns-then-ok
returns-then-ok c = ap fault_key c.none.ensures ∙ sym (ap (λ (b : Bool). unless_key b (key c.args.place (number_of (refusal_is c.args.refusal)))) c.if-ok.true)

pub at-requires : goal.at-requires
at-requires c = let n = small-number (refusal_is c.args.refusal) in omega arith

pub returns : goal.returns
returns c = ap fault_key c.at.ensures ∙ sym (ap (λ (b : Bool). unless_key b (key c.args.place (number_of (refusal_is c.args.refusal)))) c.if-ok.false)
