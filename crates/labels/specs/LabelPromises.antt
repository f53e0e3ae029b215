-- What the functions that gather labels promise, by numbers: which number of which array each label is. Nothing here need be believed.
use Rattle.std.specs.Prelude.{◌≡◌, List, [], ◌∷◌, ℕ, zero, suc, ◌+◌, ◌-◌, ◌*◌, ◌/◌, ◌<◌, ◌≤◌, length, take, get_or}
use Rattle.std.proofs.Math.Option.{some}
use Rattle.std.proofs.Math.ListN.{get_elem?}
use Rattle.form.specs.Tree.{Letters, Given, elements, Dossier}
use Rattle.form.specs.Codes.{Numbering, dossier_codes}

-- the first byte of the name whose node stands at q: a name's number is 4 times that of the first symbol with its letters, and more for its ending
abbrev pub name_byte : (nodes starts : List ℕ) (q : ℕ) → ℕ
name_byte nodes starts q = get_or starts (get_or nodes (q + 1) 0 / 4) 0

-- the labels between two places are written; the others are as they were
pub record Between (from to : ℕ) (old new : List ℕ) : Type 0 where
  pub below : (i : ℕ) → i < from → get_or new i 0 ≡ get_or old i 0
  pub above : (i : ℕ) → to ≤ i → get_or new i 0 ≡ get_or old i 0
  pub same_length : length new ≡ length old

-- n labels from a place on are the numbers f 0, f 1, ..
pub record Stored (n at : ℕ) (f : ℕ → ℕ) (old new : List ℕ) : Type 0 where
  pub others : Between at (at + n) old new
  pub each : (k : ℕ) → k < n → get_or new (at + k) 0 ≡ f k

-- of nodes one behind another, from q on
abbrev pub names_from : (nodes starts : List ℕ) (q : ℕ) → ℕ → ℕ
names_from nodes starts q k = name_byte nodes starts (q + 4 * k)

abbrev pub titles_of : (nodes starts spans : List ℕ) → ℕ → ℕ
titles_of nodes starts spans j = name_byte nodes starts (get_or spans (9 + 4 * j) 0 - 4)

abbrev pub variable_of : (nodes starts table : List ℕ) (q : ℕ) → ℕ → ℕ
variable_of nodes starts table q zero = name_byte nodes starts q
variable_of nodes starts table q (suc zero) = get_or table (q + 7) 0
variable_of nodes starts table q (suc (suc zero)) = get_or table (q + 6) 0
variable_of nodes starts table q (suc (suc (suc k))) = get_or table (q + 4) 0

-- four numbers one behind another
abbrev pub four_of : (ℕ → ℕ) → List ℕ
four_of f = f 0 ∷ f 1 ∷ f 2 ∷ f 3 ∷ []

-- of the elements, where the first m nodes are those of a dossier
pub record ElementsGathered (nodes starts : List ℕ) (m : ℕ) (old new : List ℕ) : Type 0 where
  pub others : Between 0 64 old new
  pub each : (d : Dossier) (ρ : Numbering) → m ≤ length nodes → take m nodes ≡ dossier_codes d ρ → length d.givens ≤ 8
      → ((n : ℕ) (g : Given) → get_elem? d.givens n ≡ some g → length (elements g) ≤ 8)
      → (n : ℕ) (g : Given) → get_elem? d.givens n ≡ some g → (k : ℕ) (x : Letters) → get_elem? (elements g) k ≡ some x
      → get_or new (8 * n + k) 0 ≡ get_or starts (ρ x) 0

-- of the operations' names: the node in front of the parameters
pub record TitlesGathered (nodes starts spans old new : List ℕ) : Type 0 where
  pub others : Between 64 80 old new
  pub each : (j : ℕ) → j < 16 → get_or new (64 + j) 0 ≡ name_byte nodes starts (get_or spans (9 + 4 * j) 0 - 4)

-- of the variables: their names, and the three numbers of their types
pub record VariableGathered (nodes starts table groups new : List ℕ) (i : ℕ) : Type 0 where
  pub name : get_or new (80 + 4 * i + 0) 0 ≡ name_byte nodes starts (get_or groups i 0)
  pub shape : get_or new (80 + 4 * i + 1) 0 ≡ get_or table (get_or groups i 0 + 7) 0
  pub sides : get_or new (80 + 4 * i + 2) 0 ≡ get_or table (get_or groups i 0 + 6) 0
  pub size : get_or new (80 + 4 * i + 3) 0 ≡ get_or table (get_or groups i 0 + 4) 0

pub record VariablesGathered (nodes starts table groups old new : List ℕ) : Type 0 where
  pub others : Between 80 720 old new
  pub each : (i : ℕ) → i < 160 → VariableGathered nodes starts table groups new i
