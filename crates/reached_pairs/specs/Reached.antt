-- Document 01, "Runs": the pairs of states that both machines reach side by side, and by which lists of operations with inputs. What the marks of the search say of them.
use Rattle.std.specs.Prelude.{◌≡◌, Bool, true, List, [], ◌∷◌, ◌++◌, ℕ, zero, suc, ◌+◌, ◌*◌, ◌<◌, ◌≤◌, get_or, length}
use Rattle.form.specs.Tree.{Dossier}
use Rattle.meaning.specs.Meaning.{Binding}
use Rattle.meaning.specs.Bindings.{bindings}
use Rattle.meaning.specs.Operations.{abstract_bindings, concrete_bindings, related}
use Rattle.obligations.specs.Machines.{Machine, Relation, abstract_side, concrete_side}
use Rattle.obligations.specs.Runs.{Entry, Entries, Outcome, Run, Beside, last}
use Rattle.step_searches.specs.PartTestsPartsByNumber.{nth, abstract_at, concrete_at}
use Rattle.reached_pairs.specs.declared.marks.Mark.{Mark}

-- "Two runs on one list stand beside each other": an abstract and a concrete run on the list, beside each other, end in these two states
pub record ReachedBy (A C : Machine) (R : Relation) (es : List Entry) (a c : Binding) : Type 0 where
  pub entries : Entries A es
  pub first_a : Binding
  pub first_c : Binding
  pub gs : List Outcome
  pub hs : List Outcome
  pub abstract_run : Run A es first_a gs
  pub concrete_run : Run C es first_c hs
  pub beside : Beside R first_a gs first_c hs
  pub ends_a : last first_a gs ≡ a
  pub ends_c : last first_c hs ≡ c

-- both sides of a dossier
abbrev pub Reached : Dossier → List Entry → (a c : Binding) → Type 0
Reached d es a c = ReachedBy (abstract_side d) (concrete_side d) (related d) es a c

-- ---- the marks: one for each pair; that of the a-th abstract and the c-th concrete binding of the fixed order stands at a * (how many concrete ones there are) + c

-- A mark has a layer, and the entry and the pair before that led there. The layer 0 says that none stands there.
abbrev pub no_mark : Mark
no_mark = record { layer = 0; operation = 0; input = 0; before = 0 }

-- layer 1: the pairs that the list without entries reaches
abbrev pub first_mark : Mark
first_mark = record { layer = 1; operation = 0; input = 0; before = 0 }

abbrev pub layer_of : Mark → ℕ
layer_of m = m.layer

abbrev pub mark_in : List Mark → ℕ → Mark
mark_in marks y = get_or marks y no_mark

abbrev pub layer_in : List Mark → ℕ → ℕ
layer_in marks y = layer_of (mark_in marks y)

-- the entry of a mark, by the numbers of the operation and of its inputs
abbrev pub entry_at : Machine → Mark → Entry
entry_at m k = record { operation = k.operation; input = nth (bindings (m.taken k.operation)) k.input }

-- the n entries that the marks spell, from the pair y backwards
unfoldable pub spelled : Machine → (marks : List Mark) (n y : ℕ) → List Entry
spelled m marks zero y = []
spelled m marks (suc n) y = spelled m marks n (mark_in marks y).before ++ (entry_at m (mark_in marks y) ∷ [])

-- what the search over a dossier's pairs of states promises
pub record PairsReached (d : Dossier) (marks : List Mark) (whole : Bool) : Type 0 where
  -- a marked pair is reached by the list that the marks spell,
  pub reached : (a c n : ℕ) → a < length (abstract_bindings d) → c < length (concrete_bindings d) → layer_in marks (a * length (concrete_bindings d) + c) ≡ suc n
      → Reached d (spelled (abstract_side d) marks n (a * length (concrete_bindings d) + c)) (abstract_at d a) (concrete_at d c)
  -- which has n entries, and by none that is shorter
  pub shortest : (a c n : ℕ) → a < length (abstract_bindings d) → c < length (concrete_bindings d) → layer_in marks (a * length (concrete_bindings d) + c) ≡ suc n
      → (es : List Entry) → Reached d es (abstract_at d a) (concrete_at d c) → n ≤ length es
  -- a pair that is reached is marked, if the search says that it is whole
  pub all : whole ≡ true → (a c : ℕ) → a < length (abstract_bindings d) → c < length (concrete_bindings d)
      → (es : List Entry) → Reached d es (abstract_at d a) (concrete_at d c) → 0 < layer_in marks (a * length (concrete_bindings d) + c)
