-- `kinds::bound_least_fault` meets its contract. Assumes nothing.
use mathlib.Core.Path.{ap, ◌∙◌}
use mathlib.Core.Bool.{Bool}
use Prim.Native.Nat.{ℕ, ◌+◌}
use Rattle.refusals.specs.Refusals.{number_of}
use Rattle.type_rules.specs.TypesByNumber.{key, fault_key, unless_key, inside_key}
use Rattle.type_rules.proofs.FaultOrder.{first-key}
use Rattle.type_rules.proofs.TypeNumbers.{binder}
use Rattle.type_rules.proofs.kinds.bound_least_fault.Goals as goal

pub returns : goal.returns
unfolding number_of
returns c =
    ap fault_key c.or.ensures ∙ first-key c.lesser.result c.args.body
    ∙ ap (λ (k : ℕ). inside_key k (fault_key c.args.body))
    (binder c.args.i c.args.old (fault_key c.args.over) c.from.result (fault_key c.unless-here.result) (fault_key c.lesser.result) c.from.ensures (c.unless-here.ensures ∙ ap (λ (b : Bool). unless_key b (key (c.from.result + 1) 8)) c.is_free.ensures) c.lesser.ensures)
