-- `bits::able` meets its contract: the search finds a step exactly if there is one. Assumes nothing.
use native.Mathlib.Omega.{arith}
use Rattle.step_facts.proofs.Masks.{low, abstract-able, concrete-able}
use mathlib.Core.Path.{ap}
use Rattle.step_facts.specs.Machines.{is_abstract}
use Rattle.step_searches.proofs.LentSearches.{asked}
use Rattle.step_facts.proofs.bits.able.Goals as goal

pub next_abstract_step-requires : goal.next_abstract_step-requires
next_abstract_step-requires c = record { a_lt_na = (low c.args.s.now.part (ap is_abstract c.in-Abstract.is) c.requires.s_bound.0, c.requires.s_bound.1, omega arith); memo = c.requires.memo }

pub returns-in-Abstract : goal.returns-in-Abstract
returns-in-Abstract c = record { found = abstract-able c.next_abstract_step.result c.is_some.ensures (ap is_abstract c.in-Abstract.is) (asked c.s.view_is c.s.invariant) c.next_abstract_step.ensures.low c.next_abstract_step.ensures.found; remembers = c.next_abstract_step.ensures.remembers }

pub next_concrete_step-requires : goal.next_concrete_step-requires
next_concrete_step-requires c = record { c_lt_nc = (low c.args.s.now.part (ap is_abstract c.in-Concrete.is) c.requires.s_bound.0, c.requires.s_bound.1, omega arith); memo = c.requires.memo }

pub returns-in-Concrete : goal.returns-in-Concrete
returns-in-Concrete c = record { found = concrete-able c.next_concrete_step.result c.is_some-in-Concrete.ensures (ap is_abstract c.in-Concrete.is) (asked c.s.view_is c.s.invariant) c.next_concrete_step.ensures.low c.next_concrete_step.ensures.found; remembers = c.next_concrete_step.ensures.remembers }
