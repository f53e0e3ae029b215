-- Nodes and one more behind them.
use mathlib.Core.List.{List, ◌++◌}
use Prim.Native.Nat.{ℕ}
use Rattle.form.specs.Codes.{node}
use Rattle.type_rules.specs.declared.Node.{Node}

-- the numbers x and those of a node of the shape k
abbrev pub ended : List ℕ → ℕ → Node → List ℕ
ended x k n = x ++ node k n.place n.a n.b
