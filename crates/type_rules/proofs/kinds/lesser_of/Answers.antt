-- `kinds::lesser_of` meets its contract. Assumes nothing.
use mathlib.Core.Path.{ap, ap₂, sym, ◌∙◌}
use Rattle.std.specs.Prelude.{Some}
use Rattle.type_rules.specs.TypesByNumber.{fault_key, lesser}
use Rattle.type_rules.proofs.FaultOrder.{lesser-faults, first-alone, second-alone}
use Rattle.type_rules.proofs.kinds.lesser_of.Goals as goal
use Rattle.type_rules.proofs.kinds.lesser_of.Goals.{in_default-via-in-Some+in_default, in_default-via-in_default}

pub returns-in-Some-Some : goal.returns-in-Some-Some
returns-in-Some-Some c =
    ap (λ f. fault_key (Some f)) c.min.ensures ∙ lesser-faults c.in-Some-Some.f c.in-Some-Some.g
    ∙ sym (ap₂ (λ a b. lesser (fault_key a) (fault_key b)) c.in-Some-Some.is-0 c.in-Some-Some.is-1)

pub returns-in_default : goal.returns-in_default
returns-in_default c =
    ap fault_key c.or.ensures
    ∙ elim c.in_default.branch [ in_default-via-in-Some+in_default w ↦ second-alone c.args.a c.args.b w.in_default.is-1 | in_default-via-in_default w ↦ first-alone c.args.a c.args.b w.in_default.is-0 ]
