-- A search among the bindings of some variables: its tests by levels, and what it finds from a number on. Nothing here need be believed.
use Rattle.std.specs.Prelude.{◌≡◌, Bool, true, false, ◌&&◌, cond, List, [], ◌∷◌, ℕ, zero, suc, ◌+◌, ◌-◌, ◌*◌, ◌/◌, ◌%◌, ◌<◌, ◌≤◌, ltb, get_or, length}
use Rattle.lexical.specs.Lists.{all}
use Rattle.slot_carriers.specs.Cells.{count_in, Readable}
use Rattle.points.specs.Points.{Point, moved, span, Tame, Distinct}
use Rattle.points.specs.PointTests.{Test}

-- the tests of a level all hold; so do those of n levels more
unfoldable pub level_holds : (ℕ → List (Point → Bool)) → ℕ → Point → Bool
level_holds tests l δ = all (λ (f : Point → Bool). f δ) (tests l)

unfoldable pub levels_hold : (ℕ → List (Point → Bool)) → (l n : ℕ) → Point → Bool
levels_hold tests l zero δ = level_holds tests l δ
levels_hold tests l (suc n) δ = level_holds tests l δ && levels_hold tests (l + 1) n δ

-- as the search asks them: those of level l as soon as l variables have their values
unfoldable pub under : (cells : List ℕ) (tests : ℕ → List (Point → Bool)) (l : ℕ) → List ℕ → Point → (k : ℕ) → Bool
under cells tests l [] δ k = level_holds tests l δ
under cells tests l (s ∷ ss) δ k = level_holds tests l δ && under cells tests (l + 1) ss (moved δ s (k / span cells ss)) (k % span cells ss)

-- from `from` the search went to `at`: the test holds at no number before it, and holds there, or it came to the end
pub record Sought (f : ℕ → Bool) (from end at : ℕ) : Type 0 where
  pub low : from ≤ at
  pub high : at ≤ end
  pub past : (k : ℕ) → from ≤ k → k < at → f k ≡ false
  pub found : at < end → f at ≡ true

-- ---- the plan of a search, by its number u: 16 numbers, of which the first 13 say where the tests of the levels 0 to 11 begin and where the last ones end;
-- then the first slot of a first group, how many variables that group has, and the first slot of a second group

abbrev pub mark_in : List ℕ → (u l : ℕ) → ℕ
mark_in plan u l = get_or plan (16 * u + l) 0

abbrev pub slot_in : List ℕ → (u j : ℕ) → ℕ
slot_in plan u j =
    cond (ltb j (get_or plan (16 * u + 14) 0)) (get_or plan (16 * u + 13) 0 + j) (get_or plan (16 * u + 15) 0 + (j - get_or plan (16 * u + 14) 0))

-- the numbers from `at` up to `to` are tests, one behind the other
pub data TestsAt (table plan cells : List ℕ) (to : ℕ) : (at : ℕ) → List (Point → Bool) → Type 0 where
  no_tests : {at : ℕ} → to ≤ at → TestsAt table plan cells to at []
  more_tests : {at : ℕ} {f : Point → Bool} {fs : List (Point → Bool)} → at < to → Test table cells (get_or plan at 0) f → TestsAt table plan cells to (at + 1) fs
      → TestsAt table plan cells to at (f ∷ fs)

-- the search's variables from number j on have these slots, and its tests of the levels from j on stand in the plan; those of a level l do not depend on the variables from
-- number l on
pub record Planned (table plan cells : List ℕ) (u j : ℕ) (ss : List ℕ) (tests : ℕ → List (Point → Bool)) : Type 0 where
  pub search_low : u < 5
  pub few : j + length ss ≤ 11
  pub levels : (l : ℕ) → j ≤ l → l ≤ j + length ss → TestsAt table plan cells (mark_in plan u (l + 1)) (mark_in plan u l) (tests l)
  pub marks : (l : ℕ) → l ≤ 12 → mark_in plan u l ≤ 20560
  pub slots : (i : ℕ) → i < length ss → slot_in plan u (j + i) ≡ get_or ss i 0
  pub slot_low : (i : ℕ) → i < length ss → get_or ss i 0 < 38
  pub readable : (i : ℕ) → i < length ss → Readable cells (get_or ss i 0)
  pub some : (i : ℕ) → i < length ss → 0 < count_in cells (get_or ss i 0)
  pub free : (l i : ℕ) → j ≤ l → l ≤ j + i → i < length ss → (δ : Point) (x : ℕ) → level_holds tests l (moved δ (get_or ss i 0) x) ≡ level_holds tests l δ

-- the whole search u finds P: all levels together are P
pub record SearchOf (table plan cells : List ℕ) (u : ℕ) (ss : List ℕ) (P : Point → Bool) : Type 0 where
  pub tests : ℕ → List (Point → Bool)
  pub planned : Planned table plan cells u 0 ss tests
  pub distinct : Distinct ss
  pub whole : (δ : Point) → Tame cells δ → levels_hold tests 0 (length ss) δ ≡ P δ
