-- The rows of conjuncts are counted by them, 8 numbers each, and each conjunct's nodes end at a place inside the table.
use mathlib.Core.Path.{◌≡◌, subst}
use mathlib.Core.List.{List}
use Prim.Native.Nat.{ℕ, zero, suc, ◌+◌, ◌*◌, ◌<◌, ◌≤◌}
use native.Mathlib.Omega.{arith}
use lib.ListN.{length, get_or}
use Rattle.form.specs.Tree.{Pred}
use Rattle.static_rules.specs.Scope.{Scope}
use Rattle.conjunct_tests.specs.TablePlacesResolvedTable.{Slots}
use Rattle.read_predicates.specs.PredicateRows.{RowsAt, no_rows, more_rows}

module _ {table rows : List ℕ} {Γ : Scope} {W : Slots} {to : ℕ} where
  pub rows-many : {at : ℕ} {ps : List Pred} → RowsAt table rows Γ W to at ps → to ≡ at + 8 * length ps
  rows-many (no_rows e) = omega arith
  rows-many (more_rows l c k r) = let e = rows-many r in omega arith

  -- the end of the j-th conjunct's nodes
  pub rows-low : {at : ℕ} {ps : List Pred} → RowsAt table rows Γ W to at ps → (j : ℕ) → j < length ps → get_or rows (at + 8 * j + 1) 0 ≤ 16384
  rows-low (no_rows e) j h = absurd (omega arith)
  rows-low {at} (more_rows l c k r) zero h = subst (λ (n : ℕ). get_or rows (n + 1) 0 ≤ 16384) (omega arith) c.low
  rows-low {at} (more_rows l c k r) (suc j) h =
      subst (λ (n : ℕ). get_or rows (n + 1) 0 ≤ 16384) (omega arith) (rows-low r j (omega arith))
