use Prim.Native.Nat.{◌-◌}
use mathlib.Core.Path.{◌≡◌}
use Rattle.std.specs.Prelude.{None}
use Rattle.nest.proofs.LoopStates.{InAbstracts, InConcretes, InInputs, InOutputs, InAfters}
use Rattle.memo.specs.MemoPromises.{Memo}
use Rattle.nest_steps.specs.Remembering.{Remembered}
use Rattle.nest_steps.specs.OpenBlocks.{PairsSeen, WholesSeen}
use Rattle.nest.proofs.sweep.Given as goal

abbrev pub invariant-loop-k : goal.invariant-loop-k
invariant-loop-k l = InAfters l.s.table.now l.s.plan.now l.s.cells.now l.s.part l.from l.end l.a l.mask l.c l.i l.o l.k l.slots × (l.failing ≡ None) × Remembered l.s.table.now l.s.plan.now l.s.cells.now l.s.part l.known × Memo l.s.table.now l.memo × WholesSeen l.s.table.now l.s.plan.now l.s.cells.now l.s.part l.masks l.done × PairsSeen l.s.table.now l.s.plan.now l.s.cells.now l.s.part l.masks l.seen

abbrev pub decreases-loop-k : goal.decreases-loop-k
decreases-loop-k l = l.s.part.primes.bindings - l.k

abbrev pub invariant-loop-o : goal.invariant-loop-o
invariant-loop-o l = InOutputs l.s.table.now l.s.plan.now l.s.cells.now l.s.part l.from l.end l.a l.mask l.c l.i l.o l.slots × (l.failing ≡ None) × Remembered l.s.table.now l.s.plan.now l.s.cells.now l.s.part l.known × Memo l.s.table.now l.memo × WholesSeen l.s.table.now l.s.plan.now l.s.cells.now l.s.part l.masks l.done × PairsSeen l.s.table.now l.s.plan.now l.s.cells.now l.s.part l.masks l.seen

abbrev pub decreases-loop-o : goal.decreases-loop-o
decreases-loop-o l = l.s.part.outputs.bindings - l.o

abbrev pub invariant-loop-i : goal.invariant-loop-i
invariant-loop-i l = InInputs l.s.table.now l.s.plan.now l.s.cells.now l.s.part l.from l.end l.a l.mask l.c l.i l.slots × (l.failing ≡ None) × Remembered l.s.table.now l.s.plan.now l.s.cells.now l.s.part l.known × Memo l.s.table.now l.memo × WholesSeen l.s.table.now l.s.plan.now l.s.cells.now l.s.part l.masks l.done × PairsSeen l.s.table.now l.s.plan.now l.s.cells.now l.s.part l.masks l.seen

abbrev pub decreases-loop-i : goal.decreases-loop-i
decreases-loop-i l = l.s.part.inputs.bindings - l.i

abbrev pub invariant-loop-c : goal.invariant-loop-c
invariant-loop-c l = InConcretes l.s.table.now l.s.plan.now l.s.cells.now l.s.part l.from l.end l.a l.mask l.c l.slots × (l.failing ≡ None) × Remembered l.s.table.now l.s.plan.now l.s.cells.now l.s.part l.known × Memo l.s.table.now l.memo × WholesSeen l.s.table.now l.s.plan.now l.s.cells.now l.s.part l.masks l.done × PairsSeen l.s.table.now l.s.plan.now l.s.cells.now l.s.part l.masks l.seen

abbrev pub decreases-loop-c : goal.decreases-loop-c
decreases-loop-c l = l.s.part.concretes.bindings - l.c

abbrev pub invariant-abstracts : goal.invariant-abstracts
invariant-abstracts l = InAbstracts l.s.table.now l.s.plan.now l.s.cells.now l.s.part l.from l.end l.a l.slots × (l.failing ≡ None) × Remembered l.s.table.now l.s.plan.now l.s.cells.now l.s.part l.known × Memo l.s.table.now l.memo × WholesSeen l.s.table.now l.s.plan.now l.s.cells.now l.s.part l.masks l.done × PairsSeen l.s.table.now l.s.plan.now l.s.cells.now l.s.part l.masks l.seen

abbrev pub decreases-abstracts : goal.decreases-abstracts
decreases-abstracts l = l.s.part.abstracts.bindings - l.a
