-- The list of a cell's functions: as long as they are many, its numbers are the values, and rise. Assumes nothing.
use mathlib.Core.Path.{◌≡◌, refl, ap, ap₂, subst, ◌∙◌}
use mathlib.Core.List.{List}
use mathlib.Core.Logic.{◌⊎◌, inl, inr}
use Prim.Native.Nat.{ℕ, ◌+◌, ◌-◌, ◌<◌, ◌≤◌}
use native.Mathlib.Omega.{arith}
use lib.ListN.{get_or, length, take, drop}
use lib.IntN.{pos}
use lib.Signed.{lt_z}
use borrow.Author.Tests.{ltb-true}
use Rattle.std.proofs.lemmas.List.{get_or-take, get_or-drop, length-take-le, length-drop}
use Rattle.slot_carriers.specs.Cells.{count_in, shape_in, first_in, value_in, Readable}
use Rattle.slot_carriers.proofs.ShapedValues.{listed-value}
use Rattle.std.proofs.lemmas.Bool.{cases_lt}

-- n numbers of a list, from the place a on
pub part-long : (xs : List ℕ) (a n : ℕ) → a + n ≤ length xs → length (take (a + n - a) (drop a xs)) ≡ n
part-long xs a n h =
    length-take-le (a + n - a) (drop a xs) (let q : length (drop a xs) ≡ length xs - a = length-drop a xs in omega arith) ∙ (let q : a + n - a ≡ n = omega arith in q)

pub part_number : (xs : List ℕ) (a n d : ℕ) → d < n → get_or (take (a + n - a) (drop a xs)) d 0 ≡ get_or xs (a + d) 0
part_number xs a n d h = get_or-take _ (drop a xs) d 0 (omega arith) ∙ get_or-drop a xs d 0

module _ (cells : List ℕ) (slot n : ℕ) (r : Readable cells slot) (e : n ≡ count_in cells slot) (listed : 5 ≤ shape_in cells slot) (some : n ≡ 0 → ⊥) where
  pub list-room : first_in cells slot + n ≤ 9216
  list-room =
      let last = r.reached (n - 1) (omega (arith, e)) in
      let inside : first_in cells slot + (n - 1) < 9216 = last.listed listed in
      omega arith

  abbrev list : List ℕ
  list = take (first_in cells slot + n - first_in cells slot) (drop (first_in cells slot) cells)

  pub list-long : length cells ≡ 9216 → length list ≡ n
  list-long l = let room = list-room in part-long cells (first_in cells slot) n (omega arith)

  pub list-values : (d : ℕ) → d < n → pos (get_or list d 0) ≡ value_in cells slot d
  list-values d h = ap pos (part_number cells (first_in cells slot) n d h) ∙ listed-value cells slot d (shape_in cells slot) refl listed

  below : (i j : ℕ) → i < j → j < n → get_or list i 0 ≤ get_or list j 0
  below i j h k =
      let l : get_or list i 0 < get_or list j 0 = ltb-true _ _ (ap₂ lt_z (list-values i (omega arith)) (list-values j k) ∙ r.rising i j h (subst (λ (m : ℕ). j < m) e k)) in
      omega arith

  pub list_rising : (i j : ℕ) → i ≤ j → j < n → get_or list i 0 ≤ get_or list j 0
  list_rising i j h k = go (cases_lt i j)
    where
      go : (i < j) ⊎ (j ≤ i) → get_or list i 0 ≤ get_or list j 0
      go (inl g) = below i j g k
      go (inr g) = let q : i ≡ j = omega arith in subst (λ (m : ℕ). get_or list i 0 ≤ get_or list m 0) q (let z : get_or list i 0 ≤ get_or list i 0 = omega arith in z)
