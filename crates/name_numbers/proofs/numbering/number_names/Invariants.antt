use lib.ListN.{take}
use Prim.Native.Nat.{◌-◌, ◌≤◌}
use mathlib.Core.Path.{◌≡◌}
use Rattle.lexical.specs.Symbols.{Placed, scan, symbols}
use Rattle.lexical.specs.Promises.{filled, value_in}
use Rattle.lexical.specs.SymbolPromises.{Tree}
use Rattle.name_numbers.specs.RecentNames.{Recent}
use Rattle.name_numbers.proofs.numbering.number_names.Given as goal

abbrev pub invariant-loop-i : goal.invariant-loop-i
invariant-loop-i l = Tree l.letters l.tree l.i × (l.values ≡ filled (λ (x : Placed). value_in (symbols (scan l.s)) x.symbol) (take l.i (symbols (scan l.s))) l.initial.values) × (l.i ≤ l.n) × Recent l.letters l.recent l.i

abbrev pub decreases-loop-i : goal.decreases-loop-i
decreases-loop-i l = l.n - l.i
