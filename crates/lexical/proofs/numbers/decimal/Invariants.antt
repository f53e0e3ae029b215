use lib.ListN.{drop}
use Prim.Native.Nat.{◌≤◌}
use mathlib.Core.Path.{◌≡◌}
use Rattle.lexical.specs.SymbolPromises.{decimal_after}
use Rattle.lexical.proofs.numbers.decimal.Given as goal

abbrev pub invariant-loop-b : goal.invariant-loop-b
invariant-loop-b l = (l.v ≤ 1000) × (decimal_after 0 l.digits ≡ decimal_after l.v (drop l.b-index l.digits))
