-- `states::related` meets its contract: the three tests, one after the other. Assumes nothing.
use mathlib.Core.Path.{refl, ◌∙◌}
use Rattle.states.proofs.StateLaws.{first_holds, first_fails}
use Rattle.states.proofs.StateLaws.{asked-as, answers-as, related-abstract, related-concrete, related-retrieve, related-is}
use Rattle.states.proofs.related.Goals as goal

pub context_holds-requires : goal.context_holds-requires
context_holds-requires c = related-abstract c.requires

pub context_holds-requires-then-context_holds : goal.context_holds-requires-then-context_holds
context_holds-requires-then-context_holds c = asked-as c.context_holds.ensures.kept (related-concrete c.requires)

pub context_holds-requires-then-context_holds-2 : goal.context_holds-requires-then-context_holds-2
context_holds-requires-then-context_holds-2 c = asked-as (c.context_holds-then-context_holds.ensures.kept ∙ c.context_holds.ensures.kept) (related-retrieve c.requires)

pub returns-then-context_holds-2-clause-answers : goal.returns-then-context_holds-2-clause-answers
returns-then-context_holds-2-clause-answers c =
    related-is (first_holds c.if-context_holds.ensures.answers (first_holds (answers-as c.context_holds.ensures.kept refl c.if-context_holds-2.ensures.answers)
    (answers-as (c.context_holds-then-context_holds.ensures.kept ∙ c.context_holds.ensures.kept) refl c.context_holds-then-context_holds-2.ensures.answers)))

pub returns-else-context_holds-2-clause-answers : goal.returns-else-context_holds-2-clause-answers
returns-else-context_holds-2-clause-answers c =
    rw c.if-context_holds-2.false (related-is (first_holds c.if-context_holds.ensures.answers (first_fails (answers-as c.context_holds.ensures.kept refl c.if-context_holds-2.ensures.answers))))

pub returns-else-context_holds-clause-answers : goal.returns-else-context_holds-clause-answers
returns-else-context_holds-clause-answers c = rw c.if-context_holds.false (related-is (first_fails c.if-context_holds.ensures.answers))
