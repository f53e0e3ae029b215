-- What the functions ask and promise that find keys, and marks by keys. Nothing here need be believed.
use Rattle.std.specs.Prelude.{◌≡◌, Bool, true, List, ℕ, ◌+◌, ◌<◌, ◌≤◌, get_or, set}
use Rattle.lexical.specs.Lists.{upward}
use Rattle.meaning.specs.Bindings.{Among}
use Rattle.slot_carriers.specs.Cells.{count_in}
use Rattle.points.specs.Points.{span}
use Rattle.idle_variables.specs.declared.keys.KeyGroup.{KeyGroup}
use Rattle.idle_variables.specs.KeyedNumbers.{keyed}

-- the key of the x-th binding of a group
abbrev pub key_in : List ℕ → KeyGroup → (x : ℕ) → ℕ
key_in cells g x = keyed cells (upward g.first g.size.variables) g.idle x

-- asked: the variables of the group have values, and few bindings
pub record KeyAsked (cells : List ℕ) (g : KeyGroup) : Type 0 where
  pub low : g.first + g.size.variables ≤ 64
  pub count : g.size.bindings ≡ span cells (upward g.first g.size.variables)
  pub some : (s : ℕ) → Among s (upward g.first g.size.variables) → 0 < count_in cells s
  pub few : g.size.bindings ≤ 4096

-- yes: the mark of the x-th binding stands at its key; no says nothing
pub record MarkSays (cells : List ℕ) (g : KeyGroup) (x mark : ℕ) (marks : List ℕ) (r : Bool) : Type 0 where
  pub low : r ≡ true → x < g.size.bindings
  pub stands : r ≡ true → get_or marks (key_in cells g x) 0 ≡ mark

-- no mark is made unless it may be, and no other place changes. That one is made is left open: to forget is always right, it only has a block looked at again
pub data Marked (may : Bool) (key mark : ℕ) (before : List ℕ) : List ℕ → Type 0 where
  no_mark : Marked may key mark before before
  mark_made : may ≡ true → Marked may key mark before (set before key mark)

-- yes: the block of so many places from `first` on lies between two places; no says nothing, the block is then not marked
pub record Within (from end first size : ℕ) (r : Bool) : Type 0 where
  pub low : r ≡ true → from ≤ first
  pub high : r ≡ true → first + size ≤ end
