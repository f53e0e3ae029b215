-- What the lines of a witness need of a text: where in it the letters of each name begin, and of each variable its type. Nothing here need be believed.
-- The labels: from 0 on the first byte of each element, 8 for each given set; from 64 on that of each operation's name; from 80 on four numbers for each of the 160 places of the groups:
-- the first byte of the variable's name, the shape of its type, its given sets (the second plus 8 times the first of an arrow), how many elements the second one has.
use Rattle.std.specs.Prelude.{◌≡◌, List, [], ◌∷◌, ℕ, suc, ◌+◌, ◌*◌, ◌/◌, ◌%◌, ◌≤◌, length, drop, get_or}
use Rattle.std.proofs.Math.Option.{some}
use Rattle.std.proofs.Math.ListN.{get_elem?}
use Rattle.lexical.specs.Symbols.{run}
use Rattle.form.specs.Tree.{Letters, Given, elements, Operation, Dossier}
use Rattle.static_rules.specs.Carriers.{Carrier, elements_of, numbers, subsets_of, pairs_in, Variable, size_of}
use Rattle.static_rules.specs.Scope.{unprimed, inputs, outputs}

-- the letters x stand from the place p on, and no other letter or digit behind them
pub record SpeltAt (text : List ℕ) (p : ℕ) (x : Letters) : Type 0 where
  pub letters : run (drop p text) ≡ x
  pub short : length x ≤ 16

-- the shape, the given sets by their places and the size of the second are those of a carrier
unfoldable pub Typed : List Given → (shape sides size : ℕ) → Carrier → Type 0
Typed gs s n m (elements_of g) = (s ≡ 1) × (get_elem? gs n ≡ some g)
Typed gs s n m (numbers a b) = s ≡ 2
Typed gs s n m (subsets_of g) = (s ≡ 3) × (get_elem? gs n ≡ some g)
Typed gs s n m (pairs_in a g h) = (4 ≤ s) × (get_elem? gs (n / 8) ≡ some g) × (get_elem? gs (n % 8) ≡ some h) × (m ≡ size_of h)

-- the label of a place of the groups
abbrev pub label_of : (labels : List ℕ) (i k : ℕ) → ℕ
label_of labels i k = get_or labels (80 + 4 * i + k) 0

pub record LabelAt (text labels : List ℕ) (gs : List Given) (i : ℕ) (v : Variable) : Type 0 where
  pub spelt : SpeltAt text (label_of labels i 0) v.called.letters
  pub typed : Typed gs (label_of labels i 1) (label_of labels i 2) (label_of labels i 3) v.carrier

-- those of a group's variables, from the place i on
unfoldable pub LabelsFrom : (text labels : List ℕ) → List Given → (i : ℕ) → List Variable → Type 0
LabelsFrom text labels gs i [] = Unit {0}
LabelsFrom text labels gs i (v ∷ vs) = LabelAt text labels gs i v × LabelsFrom text labels gs (suc i) vs

pub record LabelsOf (text labels : List ℕ) (d : Dossier) : Type 0 where
  pub few : length d.givens ≤ 8
  pub elements_at : (n : ℕ) (g : Given) → get_elem? d.givens n ≡ some g → (k : ℕ) (x : Letters) → get_elem? (elements g) k ≡ some x → SpeltAt text (get_or labels (8 * n + k) 0) x
  pub titles_at : (j : ℕ) (op : Operation) → get_elem? d.operations j ≡ some op → SpeltAt text (get_or labels (64 + j) 0) op.title
  pub abstracts : LabelsFrom text labels d.givens 1 (unprimed d d.abstract)
  pub concretes : LabelsFrom text labels d.givens 10 (unprimed d d.concrete)
  pub inputs_at : (j : ℕ) (op : Operation) → get_elem? d.operations j ≡ some op → LabelsFrom text labels d.givens (18 + 8 * j + 1) (inputs d op)
  pub outputs_at : (j : ℕ) (op : Operation) → get_elem? d.operations j ≡ some op → LabelsFrom text labels d.givens (18 + 8 * j + 5) (outputs d op)
