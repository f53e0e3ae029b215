-- The cells of a group of declared variables, made of the nodes of their types one behind the other. Nothing here need be believed.
use Rattle.std.specs.Prelude.{◌≡◌, List, [], ◌∷◌, ℕ, suc, ◌+◌, ◌*◌, ◌<◌, ◌≤◌, get_or, length}
use Rattle.carriers.specs.StaticRulesCarriers.{Variable}
use Rattle.carriers.specs.StaticRulesLimits.{binding_count}
use Rattle.slot_carriers.specs.CellGroups.{CellsOf, Others}
use Rattle.slot_carriers.specs.TypeNodes.{TypeNode, ListBetween}

-- from p on the groups have the places of the variables' nodes; the node of the type is the next one
unfoldable pub NodesOf : (table groups : List ℕ) (p : ℕ) → List Variable → Type 0
NodesOf table groups p [] = Unit {0}
NodesOf table groups p (v ∷ vs) = (get_or groups p 0 + 8 ≤ 16384) × TypeNode table (get_or groups p 0 + 4) v.carrier × NodesOf table groups (suc p) vs

-- asked: n variables stand there, and there is room for their lists from `at` on. No list is longer than the count, and no count is 0.
pub record Declared (table groups : List ℕ) (p n at : ℕ) : Type 0 where
  pub group : List Variable
  pub nodes : NodesOf table groups p group
  pub long : length group ≡ n
  pub room : at + binding_count group + n ≤ 9216

-- promised: their cells are made from a slot on, with lists from `at` to r
pub record CellsMade (table groups : List ℕ) (p n slot at : ℕ) (old new : List ℕ) (r : ℕ) : Type 0 where
  pub made : (vs : List Variable) → NodesOf table groups p vs → length vs ≡ n → CellsOf new slot vs
  pub lists : (j : ℕ) → slot ≤ j → j < slot + n → ListBetween new j at r
  pub onward : at ≤ r
  pub end : (vs : List Variable) → NodesOf table groups p vs → length vs ≡ n → r ≤ at + binding_count vs + n
  pub below : (i : ℕ) → i < 4 * slot → get_or new i 0 ≡ get_or old i 0
  pub above : (i : ℕ) → 4 * (slot + n) ≤ i → i < at → get_or new i 0 ≡ get_or old i 0
  pub same_length : length new ≡ length old

-- n numbers are again at another place
abbrev pub Again : (from to n : ℕ) (old new : List ℕ) → Type 0
Again from to n old new = (k : ℕ) → k < n → get_or new (to + k) 0 ≡ get_or old (from + k) 0

-- the cells of n slots are again at others, and all else is as it was
pub record Copied (n base to : ℕ) (old new : List ℕ) : Type 0 where
  pub each : Again (4 * base) (4 * to) (4 * n) old new
  pub others : Others 0 old (4 * to) (4 * n) new
