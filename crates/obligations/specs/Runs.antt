-- Document 01, "Runs": the runs of two machines, and what stands beside what.
use Rattle.std.specs.Prelude.{◌≡◌, true, List, [], ◌∷◌, ◌++◌, ℕ, ◌<◌}
use Rattle.form.specs.Tree.{Dossier}
use Rattle.meaning.specs.Meaning.{Binding}
use Rattle.meaning.specs.Bindings.{Over}
use Rattle.meaning.specs.Operations.{related}
use Rattle.obligations.specs.Machines.{Machine, Relation, abstract_side, concrete_side}

-- "an operation and a carrier value for each of its inputs"
pub record Entry : Type 0 where
  pub operation : ℕ
  pub input : Binding

pub record IsEntry (m : Machine) (e : Entry) : Type 0 where
  pub listed : e.operation < m.operations
  pub carried : Over (m.taken e.operation) e.input

unfoldable pub Entries : Machine → List Entry → Type 0
Entries m [] = Unit {0}
Entries m (e ∷ es) = IsEntry m e × Entries m es

-- what one step gives: outputs, and the state after
pub record Outcome : Type 0 where
  pub output : Binding
  pub state : Binding

-- "Each begins in any initial state of its side."
pub record Initial (m : Machine) (s : Binding) : Type 0 where
  pub carried : Over m.variables s
  pub passes : m.initial s ≡ true

-- "By an entry it steps to any after state, with any outputs, that its side of the operation allows"
pub record Step (m : Machine) (e : Entry) (s : Binding) (r : Outcome) : Type 0 where
  pub output_carried : Over (m.produced e.operation) r.output
  pub carried : Over m.variables r.state
  pub allowed : m.allows e.operation s e.input r.output r.state ≡ true

-- "where there are none, the precondition fails"
abbrev pub Pre : Machine → Entry → Binding → Type 0
Pre m e s = (r : Outcome) × Step m e s r

-- one step per entry, from s on
unfoldable pub Path : Machine → Binding → List Entry → List Outcome → Type 0
Path m s [] [] = Unit {0}
Path m s [] (r ∷ rs) = ⊥
Path m s (e ∷ es) [] = ⊥
Path m s (e ∷ es) (r ∷ rs) = Step m e s r × Path m r.state es rs

unfoldable pub last : Binding → List Outcome → Binding
last s [] = s
last s (r ∷ rs) = last r.state rs

-- "A run on a list: a beginning and one step per entry."
pub record Run (m : Machine) (es : List Entry) (s : Binding) (rs : List Outcome) : Type 0 where
  pub begins : Initial m s
  pub goes : Path m s es rs

-- "The abstract machine meets a list's preconditions if every abstract run on its first entries, from none to all but one, ends where the next one's holds."
abbrev pub Meets : Machine → List Entry → Type 0
Meets m es = (done : List Entry) (e : Entry) (rest : List Entry) → es ≡ done ++ (e ∷ rest)
    → (s : Binding) (rs : List Outcome) → Run m done s rs → Pre m e (last s rs)

-- "Related: the two states meet retrieve."
abbrev pub Related : Relation → (a c : Binding) → Type 0
Related R a c = R a c ≡ true

-- "at every step their outputs are equal, and their states are related ... after each step"
unfoldable pub Alike : Relation → (gs hs : List Outcome) → Type 0
Alike R [] [] = Unit {0}
Alike R [] (h ∷ hs) = ⊥
Alike R (g ∷ gs) [] = ⊥
Alike R (g ∷ gs) (h ∷ hs) = (g.output ≡ h.output) × Related R g.state h.state × Alike R gs hs

-- "Two runs on one list stand beside each other"
pub record Beside (R : Relation) (a : Binding) (gs : List Outcome) (c : Binding) (hs : List Outcome) : Type 0 where
  pub first : Related R a c
  pub after : Alike R gs hs

-- what demand 3 says of two machines, related so, and one list of entries
pub record Matched (A C : Machine) (R : Relation) (es : List Entry) : Type 0 where
  -- "the concrete side can step at every point of the list, from each of its initial states and whichever way it went before"
  pub steps : Meets C es
  -- "each step open to it, whichever abstract run stands beside it so far, is met by an abstract step from there with equal outputs to a related state"
  pub met : (done : List Entry) (e : Entry) (rest : List Entry) → es ≡ done ++ (e ∷ rest)
      → (a : Binding) (gs : List Outcome) → Run A done a gs
      → (c : Binding) (hs : List Outcome) → Run C done c hs → Beside R a gs c hs
      → (h : Outcome) → Step C e (last c hs) h
      → (g : Outcome) × Step A e (last a gs) g × (g.output ≡ h.output) × Related R g.state h.state
  -- "a whole abstract run, begun in an abstract initial state, stands beside every concrete one"
  pub stands : (c : Binding) (hs : List Outcome) → Run C es c hs
      → (a : Binding) × ((gs : List Outcome) × (Run A es a gs × Beside R a gs c hs))

-- "for every list of operations with inputs, of any length, the empty one too. Suppose that the abstract machine ... meets every precondition of the list; then ..."
abbrev pub MachinesMatch : (A C : Machine) → Relation → Type 0
MachinesMatch A C R = (es : List Entry) → Entries A es → Meets A es → Matched A C R es

-- both sides of a dossier
abbrev pub RunsMatch : Dossier → Type 0
RunsMatch d = MachinesMatch (abstract_side d) (concrete_side d) (related d)
