-- `refusals::Refusal::number` meets its contract: each name has the number of the definition. Assumes nothing.
use borrow.Author.Rules.{rules}
use Rattle.refusals.specs.Refusals.{number_of}
use Rattle.refusals.proofs.Refusal.number.Goals as goal

pub returns : goal.returns
unfolding number_of
returns c = search rules

pub returns-2 : goal.returns-2
unfolding number_of
returns-2 c = search rules

pub returns-3 : goal.returns-3
unfolding number_of
returns-3 c = search rules

pub returns-4 : goal.returns-4
unfolding number_of
returns-4 c = search rules

pub returns-5 : goal.returns-5
unfolding number_of
returns-5 c = search rules

pub returns-6 : goal.returns-6
unfolding number_of
returns-6 c = search rules

pub returns-7 : goal.returns-7
unfolding number_of
returns-7 c = search rules

pub returns-8 : goal.returns-8
unfolding number_of
returns-8 c = search rules

pub returns-9 : goal.returns-9
unfolding number_of
returns-9 c = search rules

pub returns-10 : goal.returns-10
unfolding number_of
returns-10 c = search rules

pub returns-11 : goal.returns-11
unfolding number_of
returns-11 c = search rules

pub returns-12 : goal.returns-12
unfolding number_of
returns-12 c = search rules

pub returns-13 : goal.returns-13
unfolding number_of
returns-13 c = search rules

pub returns-14 : goal.returns-14
unfolding number_of
returns-14 c = search rules

pub returns-15 : goal.returns-15
unfolding number_of
returns-15 c = search rules

pub returns-16 : goal.returns-16
unfolding number_of
returns-16 c = search rules

pub returns-17 : goal.returns-17
unfolding number_of
returns-17 c = search rules

pub returns-18 : goal.returns-18
unfolding number_of
returns-18 c = search rules

pub returns-19 : goal.returns-19
unfolding number_of
returns-19 c = search rules

pub returns-20 : goal.returns-20
unfolding number_of
returns-20 c = search rules
