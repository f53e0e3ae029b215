-- `step_searches::next_concrete_step` meets its contract: with the concrete state and the inputs in their slots, the search of steps finds outputs and after states by their numbers.
-- Assumes nothing.
use mathlib.Core.Path.{subst}
use Prim.Native.Nat.{ℕ, ◌<◌}
use native.Mathlib.Omega.{arith}
use Rattle.std.specs.Prelude.{IfSome}
use Rattle.slot_carriers.specs.declared.groups.GroupSize.{GroupSize}
use Rattle.step_searches.proofs.FoundSteps.{fits, put-concrete, put-inputs, ask-steps, steps-found}
use Rattle.step_searches.specs.StepPromises.{EachBindable, given_at}
use Rattle.step_searches.proofs.next_concrete_step.Goals as goal

pub with-requires : goal.with-requires
with-requires c = record { few_variables = omega (arith, (fits c.s.invariant.searches).1); few_bindings = omega (arith, (fits c.s.invariant.searches).0) }

pub next_with-requires : goal.next_with-requires
unfolding EachBindable given_at
next_with-requires c = record {
  given_asked = record { first_values = c.s.invariant.searches.first_values; groups = (put-concrete c.s.invariant.searches (rw (← c.s.view_is) at c.requires.c_lt_nc.0), (put-inputs c.s.invariant.searches (rw (← c.s.view_is) at c.requires.c_lt_nc.1), tt)); seeks = λ b σ. rw c.with.ensures (ask-steps c.s.invariant.searches σ (rw (← c.s.view_is) at c.requires.c_lt_nc.2)) };
  memo = (rw (← c.s.view_is) at c.requires.memo);
}

pub returns : goal.returns
unfolding given_at
returns c = rw (← c.s.view_is) record {
  found = record { sought = λ d op x. steps-found x (rw (← c.s.view_is) at c.requires.c_lt_nc.0) (rw (← c.s.view_is) at c.requires.c_lt_nc.1) c.next_with.ensures.answers.shows (rw c.with.ensures at c.next_with.ensures.answers.answers) };
  remembers = c.next_with.ensures.remembers;
  low = subst (λ (g : GroupSize). IfSome c.next_with.result (λ (k : ℕ). k < g.bindings)) c.with.ensures c.next_with.ensures.low;
}
