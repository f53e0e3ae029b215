-- What is known of the symbols of every text, and the dossier of a text.
use mathlib.Core.Path.{◌≡◌}
use mathlib.Core.List.{List, map}
use Prim.Native.Nat.{ℕ, ◌≤◌}
use lib.ListN.{get_or}
use Rattle.lexical.specs.Kinds as kind
use Rattle.lexical.specs.Symbols.{Symbol, fixed, numeral, name}
use Rattle.form.specs.Tree.{Dossier}
use Rattle.form.specs.Form.{Whole}
use Rattle.form.specs.Codes.{Numbering, dossier_codes}
use Rattle.form.proofs.Table.{AllSpelled}

-- the value of a symbol, where ρ numbers letters
abbrev pub value_by : Numbering → Symbol → ℕ
value_by ρ (fixed k) = 0
value_by ρ (numeral n) = n
value_by ρ (name x) = ρ x.letters

abbrev pub values : Numbering → List Symbol → List ℕ
values ρ w = map (value_by ρ) w

abbrev pub Small : Numbering → Symbol → Type 0
Small ρ (fixed k) = Unit {0}
Small ρ (numeral n) = n ≤ 1000
Small ρ (name x) = ρ x.letters ≤ 4095

-- what is known of the symbols of every text
pub record Text (w : List Symbol) (ρ : Numbering) : Type 0 where
  pub spelled : AllSpelled w
  pub small : (i : ℕ) → Small ρ (get_or w i (fixed kind.END))

-- the dossier of a text, and its nodes
pub record DossierAt (w : List Symbol) (ρ : Numbering) (n : List ℕ) : Type 0 where
  pub tree : Dossier
  pub whole : Whole w tree
  pub nodes : n ≡ dossier_codes tree ρ
