-- `states::concrete_step` meets its contract: the state before, the state after, the operation's predicate. Assumes nothing.
use mathlib.Core.Path.{refl}
use native.Mathlib.Omega.{arith}
use Rattle.states.proofs.StateLaws.{first_holds, first_fails, asked-as, answers-as}
use Rattle.states.proofs.StepLaws.{concrete-step-before, concrete-step-behind, concrete-step-whole, concrete-step-inside, concrete-step-is}
use Rattle.states.proofs.concrete_step.Goals as goal

pub context_holds-requires : goal.context_holds-requires
context_holds-requires c = concrete-step-before c.requires

pub context_holds-requires-then-context_holds : goal.context_holds-requires-then-context_holds
context_holds-requires-then-context_holds c = concrete-step-behind c.requires

pub overflow_mul-k : goal.overflow_mul-k
overflow_mul-k c = let inside = concrete-step-inside c.requires in omega arith

pub overflow_add-k : goal.overflow_add-k
overflow_add-k c = let inside = concrete-step-inside c.requires in omega arith

pub overflow_add-k-then-context_holds-2 : goal.overflow_add-k-then-context_holds-2
overflow_add-k-then-context_holds-2 c = let inside = concrete-step-inside c.requires in omega arith

pub context_holds-requires-then-context_holds-2 : goal.context_holds-requires-then-context_holds-2
context_holds-requires-then-context_holds-2 c = asked-as c.context_holds.ensures.kept (concrete-step-whole c.requires)

pub returns-then-context_holds-2-clause-answers : goal.returns-then-context_holds-2-clause-answers
returns-then-context_holds-2-clause-answers c =
    concrete-step-is (first_holds c.if-context_holds.ensures.answers (first_holds c.if-context_holds-2.ensures.answers (answers-as c.context_holds.ensures.kept refl c.context_holds-then-context_holds-2.ensures.answers)))

pub returns-else-context_holds-2-clause-answers : goal.returns-else-context_holds-2-clause-answers
returns-else-context_holds-2-clause-answers c = rw c.if-context_holds-2.false (concrete-step-is (first_holds c.if-context_holds.ensures.answers (first_fails c.if-context_holds-2.ensures.answers)))

pub returns-else-context_holds-clause-answers : goal.returns-else-context_holds-clause-answers
returns-else-context_holds-clause-answers c = rw c.if-context_holds.false (concrete-step-is (first_fails c.if-context_holds.ensures.answers))
