-- A point has for each slot a number, which of the values of its variable's carrier it has, from 0; the two arrays of slots show it, before and after. Nothing here need be believed.
use Rattle.std.specs.Prelude.{◌≡◌, cond, List, [], ◌∷◌, ℕ, ◌+◌, ◌*◌, ◌/◌, ◌%◌, ◌<◌, eqb, ltb, get_or, length, ℤ, pos}
use Rattle.meaning.specs.Bindings.{Among}
use Rattle.slot_carriers.specs.Cells.{count_in, value_in}

abbrev pub Point : Type 0
Point = ℕ → ℕ

-- the variable of a slot has another value
unfoldable pub moved : Point → (s x : ℕ) → Point
moved δ s x t = cond (eqb t s) x (δ t)

-- the primed slot of a variable, abstract (0 to 7) or concrete (8 to 15)
unfoldable pub primed_slot : ℕ → ℕ
primed_slot t = cond (ltb t 8) (t + 30) (t + 14)

-- how many bindings the variables of these slots have
unfoldable pub span : (cells : List ℕ) → List ℕ → ℕ
span cells [] = 1
span cells (s ∷ ss) = count_in cells s * span cells ss

-- the number of the binding that a point gives them, the last variable fastest
unfoldable pub number_of : (cells : List ℕ) → List ℕ → Point → ℕ
number_of cells [] δ = 0
number_of cells (s ∷ ss) δ = δ s * span cells ss + number_of cells ss δ

-- the point at which they have the k-th binding, and all other slots are as they were
unfoldable pub placed : (cells : List ℕ) → List ℕ → Point → (k : ℕ) → Point
placed cells [] δ k = δ
placed cells (s ∷ ss) δ k = placed cells ss (moved δ s (k / span cells ss)) (k % span cells ss)

-- every variable has a value of its carrier; a slot without a variable has no values
pub record Tame (cells : List ℕ) (δ : Point) : Type 0 where
  pub low : (s : ℕ) → 0 < count_in cells s → δ s < count_in cells s

-- both arrays have the values of a point: the first by slots, the second the primed ones under the plain slots
pub record Shows (cells : List ℕ) (δ : Point) (arrays : List (List ℤ)) : Type 0 where
  pub tame : Tame cells δ
  pub two : length arrays ≡ 2
  pub before_long : length (get_or arrays 0 []) ≡ 64
  pub after_long : length (get_or arrays 1 []) ≡ 64
  pub before : (s : ℕ) → s < 38 → get_or (get_or arrays 0 []) s (pos 0) ≡ value_in cells s (δ s)
  pub after : (t : ℕ) → t < 16 → get_or (get_or arrays 1 []) t (pos 0) ≡ value_in cells (primed_slot t) (δ (primed_slot t))

-- two points are the same but for these slots
pub record Beside (ss : List ℕ) (δ ε : Point) : Type 0 where
  pub same : (s : ℕ) → (Among s ss → ⊥) → ε s ≡ δ s

-- slots with no slot in common; slots that are all different
pub record Apart (ss ts : List ℕ) : Type 0 where
  pub none : (s : ℕ) → Among s ss → Among s ts → ⊥

pub data Distinct : List ℕ → Type 0 where
  no_slots : Distinct []
  more_slots : {s : ℕ} {ss : List ℕ} → (Among s ss → ⊥) → Distinct ss → Distinct (s ∷ ss)
