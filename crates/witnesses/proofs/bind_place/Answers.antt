-- `witnesses::bind_place` meets its contract: each group gets the binding of its digit, and a later group leaves the slots of the earlier ones.
use native.Mathlib.Nat.{mod-lt}
use native.Mathlib.Omega.{arith}
use Rattle.witnesses.proofs.BoundPlaces.{counts_of, some-bindings, abstracts-low, bound_at}
use Rattle.witnesses.proofs.bind_place.Goals as goal

pub nonzero_div-o : goal.nonzero_div-o
nonzero_div-o c = omega (arith, some-bindings c.requires.sized.primes)

pub nonzero_div-i : goal.nonzero_div-i
nonzero_div-i c = omega (arith, some-bindings c.requires.sized.outputs)

pub nonzero_div-c : goal.nonzero_div-c
nonzero_div-c c = omega (arith, some-bindings c.requires.sized.inputs)

pub nonzero_div-c-2 : goal.nonzero_div-c-2
nonzero_div-c-2 c = omega (arith, some-bindings c.requires.sized.concretes)

pub bind-requires : goal.bind-requires
bind-requires c = record { k_lt_w = abstracts-low c.requires; grouped = c.requires.sized.abstracts.grouped; counts = counts_of c.requires.sized.abstracts }

pub nonzero_rem-c : goal.nonzero_rem-c
nonzero_rem-c c = omega (arith, some-bindings c.requires.sized.concretes)

pub bind-requires-2 : goal.bind-requires-2
bind-requires-2 c = record { k_lt_w = mod-lt _ (some-bindings c.requires.sized.concretes); grouped = c.requires.sized.concretes.grouped; counts = counts_of c.requires.sized.concretes }

pub nonzero_rem-i : goal.nonzero_rem-i
nonzero_rem-i c = omega (arith, some-bindings c.requires.sized.inputs)

pub bind-requires-3 : goal.bind-requires-3
bind-requires-3 c = record { k_lt_w = mod-lt _ (some-bindings c.requires.sized.inputs); grouped = c.requires.sized.inputs.grouped; counts = counts_of c.requires.sized.inputs }

pub nonzero_rem-o : goal.nonzero_rem-o
nonzero_rem-o c = omega (arith, some-bindings c.requires.sized.outputs)

pub bind-requires-4 : goal.bind-requires-4
bind-requires-4 c = record { k_lt_w = mod-lt _ (some-bindings c.requires.sized.outputs); grouped = c.requires.sized.outputs.grouped; counts = counts_of c.requires.sized.outputs }

pub nonzero_rem-at : goal.nonzero_rem-at
nonzero_rem-at c = omega (arith, some-bindings c.requires.sized.primes)

pub bind-requires-5 : goal.bind-requires-5
bind-requires-5 c = record { k_lt_w = mod-lt _ (some-bindings c.requires.sized.primes); grouped = c.requires.sized.primes.grouped; counts = counts_of c.requires.sized.primes }

pub returns : goal.returns
returns c = bound_at c.requires c.bind.ensures.values c.bind-2.ensures.values c.bind-2.ensures.others c.bind-3.ensures.values c.bind-3.ensures.others c.bind-4.ensures.values c.bind-4.ensures.others c.bind-5.ensures.values c.bind-5.ensures.others
