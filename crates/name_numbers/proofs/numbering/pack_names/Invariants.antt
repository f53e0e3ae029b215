use lib.ListN.{take}
use Prim.Native.Nat.{◌-◌, ◌≤◌}
use mathlib.Core.Path.{◌≡◌}
use Rattle.lexical.specs.Symbols.{Placed, scan, symbols}
use Rattle.lexical.specs.Promises.{filled}
use Rattle.lexical.specs.SymbolPromises.{letters_in}
use Rattle.name_numbers.proofs.numbering.pack_names.Given as goal

abbrev pub invariant-loop-i : goal.invariant-loop-i
invariant-loop-i l = (l.letters ≡ filled (λ (x : Placed). letters_in x.symbol) (take l.i (symbols (scan l.s))) l.initial.letters) × (l.i ≤ l.n)

abbrev pub decreases-loop-i : goal.decreases-loop-i
decreases-loop-i l = l.n - l.i
