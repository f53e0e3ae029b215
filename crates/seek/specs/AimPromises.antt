-- What those functions ask and promise that find which values of a variable to look at. Nothing here need be believed.
use Rattle.std.specs.Prelude.{Option, IfSome, ◌≡◌, Bool, false, ◌⊎◌, List, ℕ, ◌+◌, ◌/◌, ◌%◌, ◌<◌, ◌≤◌, get_or, ℤ}
use Rattle.slot_carriers.specs.Cells.{count_in, Readable}
use Rattle.mentions.specs.MentionPromises.{Solves}
use Rattle.points.specs.Points.{Point, moved, primed_slot, Shows}
use Rattle.points.specs.Searches.{level_holds, mark_in, TestsAt}
use Rattle.seek.specs.declared.Told.{Told}

-- the slot own is the one under which the test e reads the variable of a slot: before (0) that slot, after (1) the plain one of a primed variable
abbrev pub ReadAs : (e slot own : ℕ) → Type 0
ReadAs e slot own = ((e % 2 ≡ 0) × (own ≡ slot)) ⊎ ((e % 2 ≡ 1) × (own < 16) × (primed_slot own ≡ slot))

abbrev pub ReadAnswers : (e slot : ℕ) → Option ℕ → Type 0
ReadAnswers e slot r = IfSome r (λ (own : ℕ). ReadAs e slot own)

-- the test e says that the variable of the slot is the term up to q: before (0) its value stands under the slot, after (1) that of a primed one under its plain slot
pub record Says (table : List ℕ) (e slot q : ℕ) : Type 0 where
  pub own : ℕ
  pub side : ReadAs e slot own
  pub solves : Solves table (e / 2) own q

abbrev pub SolvedAnswers : (table : List ℕ) (e slot : ℕ) → Option ℕ → Type 0
SolvedAnswers table e slot r = IfSome r (λ (q : ℕ). Says table e slot q)

-- a test of level l of the search u says so
pub record Equates (table plan : List ℕ) (u l slot e q : ℕ) : Type 0 where
  pub place : ℕ
  pub from : mark_in plan u l ≤ place
  pub before : place < mark_in plan u (l + 1)
  pub test : e ≡ get_or plan place 0
  pub says : Says table e slot q

abbrev pub EquationAnswers : (table plan : List ℕ) (u l slot : ℕ) → Option Told → Type 0
EquationAnswers table plan u l slot r = IfSome r (λ (q : Told). Equates table plan u l slot q.test q.end)

-- the variable of the slot has n values; the tests of level l can be asked once it has one
pub record AimAsked (table plan cells : List ℕ) (u l slot n : ℕ) (arrays : List (List ℤ)) : Type 0 where
  pub point : Point
  pub tests : ℕ → List (Point → Bool)
  pub shows : Shows cells point arrays
  pub search_low : u < 5
  pub level_low : l ≤ 11
  pub end_low : mark_in plan u (l + 1) ≤ 20560
  pub stand : TestsAt table plan cells (mark_in plan u (l + 1)) (mark_in plan u l) (tests l)
  pub slot_low : slot < 38
  pub readable : Readable cells slot
  pub count : n ≡ count_in cells slot

-- at the values before low and from high on the tests of the level do not all hold
pub record AimAnswers (table plan cells : List ℕ) (u l slot n : ℕ) (arrays : List (List ℤ)) (low high : ℕ) : Type 0 where
  pub low_in : low ≤ n
  pub high_in : high ≤ n
  pub fails : (tests : ℕ → List (Point → Bool)) (δ : Point) → Shows cells δ arrays → TestsAt table plan cells (mark_in plan u (l + 1)) (mark_in plan u l) (tests l)
      → (x : ℕ) → x < n → (x < low) ⊎ (high ≤ x) → level_holds tests l (moved δ slot x) ≡ false
