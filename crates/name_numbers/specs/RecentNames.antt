-- Names that were looked for before, so that most are found without a walk down the tree. Nothing here need be believed.
use Rattle.std.specs.Prelude.{◌≡◌, List, ℕ, ◌<◌, get_or, Option, Some, None}
use Rattle.lexical.specs.SymbolPromises.{IsFirst}

-- each number is that of a symbol before i that is the first with its letters
pub record Recent (letters : List ℕ) (recent : List (Option ℕ)) (i : ℕ) : Type 0 where
  pub before : (k v : ℕ) → get_or recent k None ≡ Some v → v < i
  pub firsts : (k v : ℕ) → get_or recent k None ≡ Some v → IsFirst letters v v

-- m is before symbol i, has its letters, and is the first that has them
pub record Earlier (letters : List ℕ) (i m : ℕ) : Type 0 where
  pub before : m < i
  pub first : IsFirst letters m m
  pub same : get_or letters m 0 ≡ get_or letters i 0

-- what is recalled of symbol i
abbrev pub Recalls : (letters : List ℕ) → ℕ → Option ℕ → Type 0
Recalls letters i (Some m) = Earlier letters i m
Recalls letters i None = Unit {0}

-- the number of symbol i, where it is a name: that of the first symbol with its letters
abbrev pub NumberOf : (letters : List ℕ) → ℕ → Option ℕ → Type 0
NumberOf letters i (Some m) = (get_or letters i 0 ≡ 0 → ⊥) × IsFirst letters i m
NumberOf letters i None = get_or letters i 0 ≡ 0
