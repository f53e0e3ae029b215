-- What the functions of the search ask and promise. Nothing here need be believed.
use Rattle.std.specs.Prelude.{◌≡◌, Bool, List, ℕ, ◌+◌, ◌<◌, ◌≤◌, ◌^◌, length, ℤ}
use Rattle.slot_carriers.specs.Cells.{count_in, Reached}
use Rattle.points.specs.Points.{Point, moved, span, placed, Shows, Beside}
use Rattle.points.specs.Searches.{level_holds, under, Sought, mark_in, TestsAt, Planned}

-- a variable gets its x-th value: the arrays then show the point with that value
pub record StoreAsked (cells : List ℕ) (slot x : ℕ) (before : List (List ℤ)) : Type 0 where
  pub point : Point
  pub shows : Shows cells point before
  pub slot_low : slot < 38
  pub reached : Reached cells slot x

pub record StoreAnswers (cells : List ℕ) (slot x : ℕ) (before after : List (List ℤ)) : Type 0 where
  pub means : (δ : Point) → Shows cells δ before → x < count_in cells slot → Shows cells (moved δ slot x) after

-- the tests of one level of the search u
pub record LevelAsked (table plan : List ℕ) (u l : ℕ) (arrays : List (List ℤ)) : Type 0 where
  pub cells : List ℕ
  pub point : Point
  pub tests : ℕ → List (Point → Bool)
  pub shows : Shows cells point arrays
  pub search_low : u < 5
  pub level_low : l ≤ 11
  pub end_low : mark_in plan u (l + 1) ≤ 20560
  pub stand : TestsAt table plan cells (mark_in plan u (l + 1)) (mark_in plan u l) (tests l)

pub record LevelAnswers (table plan : List ℕ) (u l : ℕ) (arrays : List (List ℤ)) (r : Bool) : Type 0 where
  pub means : (cells : List ℕ) (δ : Point) (tests : ℕ → List (Point → Bool)) → Shows cells δ arrays
      → TestsAt table plan cells (mark_in plan u (l + 1)) (mark_in plan u l) (tests l) → r ≡ level_holds tests l δ

-- what is left in the arrays: if something is found, its values; slots of other variables are as they were
pub record Left (cells : List ℕ) (ss : List ℕ) (δ : Point) (end at : ℕ) (after : List (List ℤ)) : Type 0 where
  pub point : Point
  pub shows : Shows cells point after
  pub beside : Beside ss δ point
  pub found : at < end → (s : ℕ) → point s ≡ placed cells ss δ at s

-- the least number from `from` on of a binding of the m variables of the search u from number j on at which all tests hold; they have w bindings
pub record SeekAsked (table plan cells : List ℕ) (u j m w from : ℕ) (before : List (List ℤ)) : Type 0 where
  pub slots : List ℕ
  pub tests : ℕ → List (Point → Bool)
  pub point : Point
  pub planned : Planned table plan cells u j slots tests
  pub shows : Shows cells point before
  pub many : length slots ≡ m
  pub counted : w ≡ span cells slots
  pub few : w ≤ 2 ^ 24
  pub inside : from ≤ w

pub record SeekAnswers (table plan cells : List ℕ) (u j m w from : ℕ) (before after : List (List ℤ)) (r : ℕ) : Type 0 where
  pub sought : (ss : List ℕ) (tests : ℕ → List (Point → Bool)) (δ : Point) → Planned table plan cells u j ss tests → Shows cells δ before → length ss ≡ m
      → Sought (under cells tests j ss δ) from w r
  pub left : (ss : List ℕ) (tests : ℕ → List (Point → Bool)) (δ : Point) → Planned table plan cells u j ss tests → Shows cells δ before → length ss ≡ m
      → Left cells ss δ w r after
