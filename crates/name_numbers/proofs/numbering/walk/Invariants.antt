use Prim.Native.Nat.{◌-◌, ◌<◌, ◌≤◌}
use mathlib.Core.Path.{◌≡◌}
use Rattle.lexical.specs.SymbolPromises.{walk_from}
use Rattle.name_numbers.proofs.numbering.walk.Given as goal

abbrev pub invariant-loop-d : goal.invariant-loop-d
invariant-loop-d l = (walk_from 128 l.letters l.tree l.a l.a 8192 ≡ walk_from (128 - l.d) l.letters l.tree l.a l.p l.slot) × (l.d ≤ 128) × (l.slot < 8193)

abbrev pub decreases-loop-d : goal.decreases-loop-d
decreases-loop-d l = 128 - l.d
