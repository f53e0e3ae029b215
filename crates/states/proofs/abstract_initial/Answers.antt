-- `states::abstract_initial` meets its contract: the two tests, one after the other. Assumes nothing.
use mathlib.Core.Path.{refl}
use Rattle.states.proofs.StateLaws.{first_holds, first_fails, asked-as, answers-as, abstract-initial-state, abstract-initial-init, abstract-initial-is}
use Rattle.states.proofs.abstract_initial.Goals as goal

pub context_holds-requires : goal.context_holds-requires
context_holds-requires c = abstract-initial-state c.requires

pub context_holds-requires-then-context_holds : goal.context_holds-requires-then-context_holds
context_holds-requires-then-context_holds c = asked-as c.context_holds.ensures.kept (abstract-initial-init c.requires)

pub returns-then-context_holds-clause-answers : goal.returns-then-context_holds-clause-answers
returns-then-context_holds-clause-answers c = abstract-initial-is (first_holds c.if-context_holds.ensures.answers (answers-as c.context_holds.ensures.kept refl c.context_holds-then-context_holds.ensures.answers))

pub returns-else-context_holds-clause-answers : goal.returns-else-context_holds-clause-answers
returns-else-context_holds-clause-answers c = rw c.if-context_holds.false (abstract-initial-is (first_fails c.if-context_holds.ensures.answers))
