-- Where the lists of all slots stand, and which cells are kept, when one group is made and when one is copied. Assumes nothing.
use mathlib.Core.Path.{◌≡◌, sym, subst}
use mathlib.Core.Logic.{◌⊎◌, inl, inr}
use mathlib.Core.List.{List}
use Prim.Native.Nat.{ℕ, ◌+◌, ◌-◌, ◌*◌, ◌<◌, ◌≤◌}
use native.Mathlib.Omega.{arith}
use lib.ListN.{get_or, length}
use Rattle.static_rules.specs.Carriers.{Variable}
use Rattle.slot_carriers.specs.Cells.{count_in, shape_in, first_in}
use Rattle.slot_carriers.specs.CellGroups.{CellsOf}
use Rattle.slot_carriers.specs.TypeNodes.{ListBetween}
use Rattle.slot_carriers.specs.DeclaredGroups.{Declared, CellsMade, Copied}
use Rattle.std.proofs.lemmas.Bool.{cases_lt}
use Rattle.slot_carriers.proofs.KeptCells.{SameCell, same-between, cells-again, copied-cell, copied-cells, beside-made, kept-cells}
use Rattle.readings.specs.Readings.{GroupAt}
use Rattle.part_setup.specs.SetupPromises.{Blank, FirstValues}
use Rattle.part_setup.specs.SetupSteps.{ListsBelow}

-- cells that are all 0 have no lists
pub blank-lists : (cells : List ℕ) → Blank cells → ListsBelow cells 256
blank-lists cells b = record { each = λ s h. none s }
  where
    shapeless : {A : Type 0} (s : ℕ) → 5 ≤ shape_in cells s → A
    shapeless s h = absurd (let z : ⊥ = omega (arith, b.each (4 * s + 1)) in z)

    none : (s : ℕ) → ListBetween cells s 256 256
    none s = record { behind = λ h. shapeless s h; before = λ h. shapeless s h }

-- where all lists end before the array does, the first value of every slot can be read
pub first-values-below : (cells : List ℕ) (r : ℕ) → r < 9216 → ListsBelow cells r → FirstValues cells
first-values-below cells r low w = record { reached = λ s h. record { slot_low = omega arith; low = omega arith; listed = λ k. listed s h k } }
  where
    listed : (s : ℕ) → s < 38 → 5 ≤ shape_in cells s → first_in cells s + 0 < 9216
    listed s h k = let b : first_in cells s + count_in cells s ≤ r = (w.each s (omega arith)).before k in omega arith

-- a group that is declared, with room for its lists
pub declared-at : (table groups : List ℕ) (row : ℕ) (vs : List Variable) (many few from : ℕ) → GroupAt table groups row vs many few → from + few + many ≤ 9216
    → Declared table groups (row + 1) (get_or groups row 0) from
declared-at table groups row vs many few from g room =
    record { group = vs; nodes = g.nodes; long = sym g.count; room = omega (arith, g.bindings, g.short, g.count) }

-- ---- a group is made, its lists behind all others

module _ (table groups : List ℕ) (p n slot at : ℕ) (old new : List ℕ) (r : ℕ) (m : CellsMade table groups p n slot at old new r) (fit : slot + n ≤ 64) (behind : 256 ≤ at)
    (w : ListsBelow old at) where
  kept-list : (s : ℕ) → s < 64 → (s < slot) ⊎ (slot + n ≤ s) → ListBetween new s 256 r
  kept-list s h g = same-between old s new s 256 at h (beside-made m fit behind s h g) (w.each s h) 256 r (omega arith) m.onward

  list_at : (s : ℕ) → s < 64 → (s < slot) ⊎ (slot ≤ s) → (s < slot + n) ⊎ (slot + n ≤ s) → ListBetween new s 256 r
  list_at s h (inl g) k = kept-list s h (inl g)
  list_at s h (inr g) (inr k) = kept-list s h (inr k)
  list_at s h (inr g) (inl k) =
      let b : ListBetween new s at r = m.lists s g k in
      record { behind = λ q. omega (arith, b.behind q); before = b.before }

  pub made-lists : ListsBelow new r
  made-lists = record { each = λ s h. list_at s h (cases_lt s slot) (cases_lt s (slot + n)) }

  -- the cells of another group
  pub made-beside : (s : ℕ) (vs : List Variable) → s + length vs ≤ 64 → (s + length vs ≤ slot) ⊎ (slot + n ≤ s) → CellsOf old s vs → CellsOf new s vs
  made-beside s vs low side c =
      kept-cells table groups p n slot at s old new r vs m fit low side behind (λ j h k. w.each j (omega arith)) c

-- ---- a group is copied

module _ (n base to : ℕ) (old new : List ℕ) (c : Copied n base to old new) (low : base + n ≤ to) (fit : to + n ≤ 64) (r : ℕ) (w : ListsBelow old r) where
  untouched : (s : ℕ) → s < 64 → (s < to) ⊎ (to + n ≤ s) → SameCell old s new s 256 r
  untouched s h (inl g) =
      record {
        count = c.others.below _ (omega arith);
        shape = c.others.below _ (omega arith);
        first = c.others.below _ (omega arith);
        list = λ i k l. c.others.above i (omega arith);
      }
  untouched s h (inr g) =
      record {
        count = c.others.above _ (omega arith);
        shape = c.others.above _ (omega arith);
        first = c.others.above _ (omega arith);
        list = λ i k l. c.others.above i (omega arith);
      }

  copied-between : (j : ℕ) → j < n → ListBetween new (to + j) 256 r
  copied-between j h = same-between old (base + j) new (to + j) 256 r (omega arith) (copied-cell n base to r old new fit c j h) (w.each (base + j) (omega arith)) 256 r (omega arith) (omega arith)

  copy_at : (s : ℕ) → s < 64 → (s < to) ⊎ (to ≤ s) → (s < to + n) ⊎ (to + n ≤ s) → ListBetween new s 256 r
  copy_at s h (inl g) k = same-between old s new s 256 r h (untouched s h (inl g)) (w.each s h) 256 r (omega arith) (omega arith)
  copy_at s h (inr g) (inr k) = same-between old s new s 256 r h (untouched s h (inr k)) (w.each s h) 256 r (omega arith) (omega arith)
  copy_at s h (inr g) (inl k) =
      let j : ℕ = s - to in
      let e : to + j ≡ s = omega arith in
      subst (λ (i : ℕ). ListBetween new i 256 r) e (copied-between j (omega arith))

  pub copy_lists : ListsBelow new r
  copy_lists = record { each = λ s h. copy_at s h (cases_lt s to) (cases_lt s (to + n)) }

  -- the cells of another group
  pub copy-beside : (s : ℕ) (vs : List Variable) → s + length vs ≤ 64 → (s + length vs ≤ to) ⊎ (to + n ≤ s) → CellsOf old s vs → CellsOf new s vs
  copy-beside s vs low side k =
      cells-again old new 256 r vs s s low (λ j h. untouched (s + j) (omega arith) (which j h side)) (λ j h. w.each (s + j) (omega arith)) k
    where
      which : (j : ℕ) → j < length vs → (s + length vs ≤ to) ⊎ (to + n ≤ s) → (s + j < to) ⊎ (to + n ≤ s + j)
      which j h (inl g) = inl (omega arith)
      which j h (inr g) = inr (omega arith)

  -- those of the group itself, at its new slots
  pub copy-made : (vs : List Variable) → length vs ≡ n → r ≤ 9216 → CellsOf old base vs → CellsOf new to vs
  copy-made vs e l k = copied-cells n base to old new vs fit c e (λ j g h. wider (w.each j (omega arith))) k
    where
      wider : {j : ℕ} → ListBetween old j 256 r → ListBetween old j 256 9216
      wider b = record { behind = b.behind; before = λ q. omega (arith, b.before q) }
