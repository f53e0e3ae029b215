-- The values of a cell that stands for a carrier are the carrier's, in the fixed order; so they rise, and all can be read. Assumes nothing.
use mathlib.Core.Path.{◌≡◌, sym, ap, ap₂, subst, ◌∙◌}
use mathlib.Core.Bool.{true, false}
use mathlib.Core.List.{List}
use Prim.Native.Nat.{ℕ, ◌+◌, ◌<◌, ◌≤◌}
use native.Mathlib.Omega.{arith}
use lib.Dec.{eqb, ltb}
use lib.ListN.{get_or}
use lib.IntN.{ℤ, pos, ◌+ℤ◌, ◌-ℤ◌}
use lib.Signed.{lt_z}
use Rattle.std.specs.Prelude.{None}
use Rattle.form.specs.Tree.{relation, partial, total}
use Rattle.carriers.specs.StaticRulesCarriers.{Carrier, elements_of, numbers, subsets_of, pairs_in, count_of}
use Rattle.carriers.specs.MeaningValues.{Value}
use Rattle.carriers.specs.MeaningBindings.{values_of}
use Rattle.carriers.specs.ValuesByNumber.{pair_set_at, value_at}
use Rattle.carriers.proofs.Values.{values-at, values-rise}
use Rattle.slot_carriers.specs.Cells.{count_in, shape_in, first_in, value_in, Reached, Readable, Sought, PairsCell, Shaped, CellOf}

-- a cell's d-th value by its shape, its first number and what its list has
abbrev by_shape : (s a d l : ℕ) → ℤ
by_shape s a d l =
    elim (eqb s 2) [ true ↦ pos a -ℤ pos 1000 +ℤ pos d | false ↦ elim (ltb s 5) [ true ↦ pos d | false ↦ pos l ] ]

-- no shape below 5 is one from 5 on
pub low-shape : {A : Type 0} (s k : ℕ) → s ≡ k → k < 5 → 5 ≤ s → A
low-shape s k e h l = absurd (omega arith)

module _ (cells : List ℕ) (slot : ℕ) where
  by : (d k : ℕ) → shape_in cells slot ≡ k → value_in cells slot d ≡ by_shape k (first_in cells slot) d (get_or cells (first_in cells slot + d) 0)
  unfolding value_in
  by d k e = ap (λ (s : ℕ). by_shape s (first_in cells slot) d (get_or cells (first_in cells slot + d) 0)) e

  value-by : (c : Carrier) (d : ℕ) → d < count_in cells slot → Shaped cells slot c → value_in cells slot d ≡ (value_at c d).code
  unfolding Shaped PairsCell value_at pair_set_at
  value-by (elements_of g) d h e = by d 1 e
  value-by (numbers a b) d h e = by d 2 e.0 ∙ ap (λ (z : ℤ). z +ℤ pos d) e.1
  value-by (subsets_of g) d h e = by d 3 e
  value-by (pairs_in relation g k) d h e = by d 4 e
  value-by (pairs_in partial g k) d h e = by d 5 e.0 ∙ ap pos (e.1.each d h)
  value-by (pairs_in total g k) d h e = by d 6 e.0 ∙ ap pos (e.1.each d h)

  inside : (a n d : ℕ) → a + n ≤ 9216 → d < n → a + d < 9216
  inside a n d h k = omega arith

  listed_by : (c : Carrier) (d : ℕ) → d < count_in cells slot → Shaped cells slot c → 5 ≤ shape_in cells slot → first_in cells slot + d < 9216
  unfolding Shaped PairsCell
  listed_by (elements_of g) d h e l = low-shape _ 1 e (omega arith) l
  listed_by (numbers a b) d h e l = low-shape _ 2 e.0 (omega arith) l
  listed_by (subsets_of g) d h e l = low-shape _ 3 e (omega arith) l
  listed_by (pairs_in relation g k) d h e l = low-shape _ 4 e (omega arith) l
  listed_by (pairs_in partial g k) d h e l = inside (first_in cells slot) (count_in cells slot) d e.1.inside h
  listed_by (pairs_in total g k) d h e l = inside (first_in cells slot) (count_in cells slot) d e.1.inside h

  module _ (c : Carrier) (cell : CellOf cells slot c) where
    counted : {d : ℕ} → d < count_of c → d < count_in cells slot
    counted {d} h = subst (λ (n : ℕ). d < n) (sym cell.count) h

    below : {d : ℕ} → d < count_in cells slot → d < count_of c
    below {d} h = subst (λ (n : ℕ). d < n) cell.count h

    pub value_of : (d : ℕ) → d < count_of c → value_in cells slot d ≡ (value_at c d).code
    value_of d h = value-by c d (counted h) cell.shaped

    -- the d-th value of the carrier
    pub value-is : (d : ℕ) (v : Value) → d < count_of c → value_in cells slot d ≡ (get_or (values_of c) d v).code
    value-is d v h = value_of d h ∙ sym (ap (λ (w : Value). w.code) (values-at c d v h))

    pub readable : Readable cells slot
    readable = record {
      slot_low = cell.slot_low;
      count_low = subst (λ (n : ℕ). n ≤ 65536) (sym cell.count) cell.few;
      reached = λ d h. reached-at d h (below h);
      rising = λ d e l h. ap₂ lt_z (value_of d (less d e l (below h))) (value_of e (below h)) ∙ values-rise c d e l (below h);
    }
      where
        reached-at : (d : ℕ) → d < count_in cells slot → d < count_of c → Reached cells slot d
        reached-at d h k = record { slot_low = cell.slot_low; low = omega (arith, cell.few); listed = λ l. listed_by c d h cell.shaped l }

        less : (d e : ℕ) → d < e → e < count_of c → d < count_of c
        less d e l h = omega arith

    pub no_place : (d : ℕ) (x : ℤ) → Sought (λ (k : ℕ). value_in cells slot k) (count_in cells slot) x None → d < count_of c → (value_at c d).code ≡ x → ⊥
    no_place d x w h q = w d (counted h) (value_of d h ∙ q)
