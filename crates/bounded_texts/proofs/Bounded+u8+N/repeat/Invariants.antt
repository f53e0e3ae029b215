use Rattle.std.proofs.Common.{◌≡◌, ◌++◌, replicate}
use Rattle.bounded_texts.proofs.Bounded+u8+N.repeat.Given as goal

abbrev pub invariant-loop : goal.invariant-loop
invariant-loop g l = l.self-inside.items.items ≡ l.initial.self-inside.items.items ++ replicate l.counter l.b
