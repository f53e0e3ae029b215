-- `conjuncts::step_false` meets its contract: a conjunct that counts does not depend on the outputs and the state after that are chosen. Assumes nothing.
use mathlib.Core.Path.{refl}
use native.Mathlib.Omega.{arith}
use Rattle.std.proofs.Common.{rules}
use Rattle.state_facts.specs.FalseConjuncts.{guard_test}
use Rattle.state_facts.proofs.GuardLaws.{guard-context-first, guard-states, guard-parameters, guard-context, step-first}
use Rattle.state_facts.proofs.conjuncts.step_false.Goals as goal

pub put_states-requires : goal.put_states-requires
put_states-requires c = guard-states c.requires

pub put_parameters-requires : goal.put_parameters-requires
put_parameters-requires c = guard-parameters c.requires

pub overflow_mul-j : goal.overflow_mul-j
overflow_mul-j c = omega (arith, c.requires.few)

pub overflow_add-j : goal.overflow_add-j
overflow_add-j c = omega (arith, c.requires.few)

pub overflow_add-j-2 : goal.overflow_add-j-2
overflow_add-j-2 c = omega (arith, c.requires.few)

pub first_false-requires : goal.first_false-requires
first_false-requires c =
    let z = c.default.ensures in
    let s = (rw (z.0, z.1.1.1.0, z.1.1.1.1.1) at c.put_states.ensures) in
    let q = (rw (z.0, z.1.1.1.0, z.1.1.1.1.1) at c.put_parameters.ensures) in
    record { counted = λ i h. search (rules, h); asked = guard-context s q refl (omega (arith, c.if-s-c.false)) (omega (arith, c.if-s-i.false)) c.requires }

pub returns : goal.returns
returns c =
    let z = c.default.ensures in
    let s = (rw (z.0, z.1.1.1.0, z.1.1.1.1.1) at c.put_states.ensures) in
    let q = (rw (z.0, z.1.1.1.0, z.1.1.1.1.1) at c.put_parameters.ensures) in
    step-first s q refl (omega (arith, c.if-s-c.false)) (omega (arith, c.if-s-i.false)) (guard-context-first (c.first_false.ensures.means (guard_test c.args.s.now.dossier.rows.now) (λ i b h q. search (rules, q))))
