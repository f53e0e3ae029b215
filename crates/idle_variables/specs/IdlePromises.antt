-- What the functions promise that find variables which do not matter. Nothing here need be believed.
use Rattle.std.specs.Prelude.{◌≡◌, Bool, true, List, ℕ, ◌+◌, ◌<◌, ◌≤◌, ◌^◌}
use Rattle.lexical.specs.Lists.{all}
use Rattle.sets.specs.Sets.{has}
use Rattle.points.specs.Points.{Point}
use Rattle.points.specs.PointTests.{Test}
use Rattle.points.specs.Searches.{mark_in, TestsAt}
use Rattle.idle_variables.specs.KeyedNumbers.{Idle}

-- what the test e comes to does not depend on the variable of a slot
pub record TestIdle (table : List ℕ) (e slot : ℕ) : Type 0 where
  pub each : (cells : List ℕ) (f : Point → Bool) → Test table cells e f → Idle cells f slot

-- nor does what all tests of level l of the search u come to; those of all its levels; of all searches from u on
pub record LevelIdle (table plan : List ℕ) (u l slot : ℕ) : Type 0 where
  pub each : (cells : List ℕ) (fs : List (Point → Bool)) → TestsAt table plan cells (mark_in plan u (l + 1)) (mark_in plan u l) fs
      → Idle cells (λ (δ : Point). all (λ (f : Point → Bool). f δ) fs) slot

pub record SearchIdle (table plan : List ℕ) (u slot : ℕ) : Type 0 where
  pub each : (l : ℕ) → l < 12 → LevelIdle table plan u l slot

pub record SearchesIdle (table plan : List ℕ) (u slot : ℕ) : Type 0 where
  pub each : (v : ℕ) → u ≤ v → v < 5 → SearchIdle table plan v slot

-- an answer yes says so; no says nothing, since a variable that counts as one that matters only makes fewer blocks alike
pub record TestSays (table : List ℕ) (e slot : ℕ) (r : Bool) : Type 0 where
  pub means : r ≡ true → TestIdle table e slot

pub record LevelSays (table plan : List ℕ) (u l slot : ℕ) (r : Bool) : Type 0 where
  pub means : r ≡ true → LevelIdle table plan u l slot

pub record SearchSays (table plan : List ℕ) (u slot : ℕ) (r : Bool) : Type 0 where
  pub means : r ≡ true → SearchIdle table plan u slot

pub record SearchesSay (table plan : List ℕ) (u slot : ℕ) (r : Bool) : Type 0 where
  pub means : r ≡ true → SearchesIdle table plan u slot

-- asked: the tests of every search stand inside the plan
pub record PlanAsked (plan : List ℕ) : Type 0 where
  pub marks : (u l : ℕ) → u < 5 → l ≤ 12 → mark_in plan u l ≤ 20560

-- the bits of m variables from the slot s on: where one is set, no search from u on depends on its variable; where none is, nothing is said
pub record MaskSays (table plan : List ℕ) (u s m r : ℕ) : Type 0 where
  pub small : r < 2 ^ m
  pub each : (i : ℕ) → i < m → has r i ≡ true → SearchesIdle table plan u (s + i)
