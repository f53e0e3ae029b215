-- The cells of a group of variables, one behind the other, and the slots that have the values of one of its bindings. Nothing here need be believed.
use Rattle.std.specs.Prelude.{◌≡◌, List, [], ◌∷◌, ℕ, suc, ◌+◌, ◌<◌, ◌≤◌, get_or, length, ℤ, pos}
use Rattle.carriers.specs.StaticRulesCarriers.{Variable}
use Rattle.carriers.specs.StaticRulesLimits.{binding_count}
use Rattle.carriers.specs.MeaningMeaning.{Binding}
use Rattle.carriers.specs.MeaningBindings.{bindings}
use Rattle.carriers.specs.ValuesByNumber.{binding_at}
use Rattle.slot_carriers.specs.Cells.{CellOf}

-- from the slot s on the cells stand for the carriers of the variables
unfoldable pub CellsOf : List ℕ → (s : ℕ) → List Variable → Type 0
CellsOf cells s [] = Unit {0}
CellsOf cells s (v ∷ vs) = CellOf cells s v.carrier × CellsOf cells (suc s) vs

-- asked: n variables stand there, with few bindings
pub record Grouped (cells : List ℕ) (s n : ℕ) : Type 0 where
  pub group : List Variable
  pub each : CellsOf cells s group
  pub long : length group ≡ n
  pub few : binding_count group ≤ 4096

-- w is how many bindings the n variables from s on have
abbrev pub Counts : (cells : List ℕ) (s n w : ℕ) → Type 0
Counts cells s n w = (vs : List Variable) → CellsOf cells s vs → length vs ≡ n → w ≡ binding_count vs

-- the slots from s on have the values of a binding
unfoldable pub Holding : List ℤ → (s : ℕ) → Binding → Type 0
Holding σ s [] = Unit {0}
Holding σ s (b ∷ bs) = (get_or σ s (pos 0) ≡ b.1.code) × Holding σ (suc s) bs

-- those of the k-th binding, by the digits of k, and in the fixed order
abbrev pub HoldsAt : (cells : List ℕ) (s n k : ℕ) → List ℤ → Type 0
HoldsAt cells s n k σ = (vs : List Variable) → CellsOf cells s vs → length vs ≡ n → Holding σ s (binding_at vs k)

abbrev pub HoldsBinding : (cells : List ℕ) (s n k : ℕ) → List ℤ → Type 0
HoldsBinding cells s n k σ = (vs : List Variable) → CellsOf cells s vs → length vs ≡ n → Holding σ s (get_or (bindings vs) k [])

-- all slots but the n from s on are as they were
pub record Others {A : Type 0} (none : A) (old : List A) (s n : ℕ) (new : List A) : Type 0 where
  pub below : (i : ℕ) → i < s → get_or new i none ≡ get_or old i none
  pub above : (i : ℕ) → s + n ≤ i → get_or new i none ≡ get_or old i none
  pub same_length : length new ≡ length old
