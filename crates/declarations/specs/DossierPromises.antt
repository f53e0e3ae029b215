-- What the functions that read contents, bodies and declarations promise each other, and what a dossier that was read is. Nothing here need be believed.
use Rattle.std.specs.Prelude.{◌≡◌, List, [], ◌∷◌, ◌++◌, ℕ, ◌+◌, ◌*◌, ◌≤◌, ◌<◌, length, take, get_or, Result, Ok, Err, Option, Some, None}
use Rattle.lexical.specs.Kinds as kind
use Rattle.lexical.specs.Kinds.{Kind}
use Rattle.lexical.specs.Symbols.{Symbol}
use Rattle.form.specs.Written.{Mark, a_given, a_variable, an_input, an_output, an_operation}
use Rattle.form.specs.Machine.{Item, exact, a_declared, a_type, a_unary, a_pred_rest, some_entries, some_op_entries, some_bodies, some_declarations, Run, complete, failed, run}
use Rattle.form_nodes.specs.FormPromises.{codes, Answer, Reads, Classes}
use Rattle.declarations.specs.declared.contents.Direction.{Direction}
use Rattle.declarations.specs.declared.contents.Direction.TheVariants.{Input, Output}
use Rattle.declarations.specs.declared.contents.Taken.{Taken}
use Rattle.refusals.specs.declared.Fault.{Fault}
use Rattle.refusals.specs.declared.Refusal.TheVariants.{NoDossier, ManyDeclared}
use Rattle.form_nodes.specs.Derivations as part
use Rattle.form_nodes.specs.Derivations.{Part, Derives, Made}
use Rattle.refusals.specs.RefusalNames.{refusal_is}

-- the five words of the contents
abbrev pub five_words : List Item
five_words = exact kind.ABSTRACT ∷ exact kind.CONCRETE ∷ exact kind.AINIT ∷ exact kind.CINIT ∷ exact kind.RETRIEVE ∷ []

-- : type ;
abbrev pub a_typed : List Item
a_typed = exact kind.colon ∷ a_type ∷ exact kind.semicolon ∷ []

-- a predicate, and the word behind it
abbrev pub a_condition_to : Kind → List Item
a_condition_to κ = a_unary 0 0 ∷ a_pred_rest 0 0 0 ∷ exact κ ∷ []

-- the bodies that begin with a word
abbrev pub a_state_of : Kind → List Item
a_state_of κ = exact κ ∷ a_declared (a_variable 1) ∷ exact kind.colon ∷ a_type ∷ exact kind.semicolon ∷ some_declarations 1 ∷ a_condition_to kind.END

abbrev pub a_where_of : Kind → List Item
a_where_of κ = exact κ ∷ exact kind.WHERE ∷ a_condition_to kind.END

abbrev pub two_states : List Item
two_states = a_state_of kind.ABSTRACT ++ a_state_of kind.CONCRETE

abbrev pub three_conditions : List Item
three_conditions = a_where_of kind.AINIT ++ (a_where_of kind.CINIT ++ a_where_of kind.RETRIEVE)

-- one more than k read ones is within a limit
pub data Few (p k limit : ℕ) : Result Unit Fault → Type 0 where
  few : {u : Unit {0}} → k < limit → Few p k limit (Ok u)
  over : limit ≤ k → Few p k limit (Err (record { place = p; refusal = ManyDeclared }))

-- a name is declared at a place, behind k others
pub data Titled (s : List ℕ) (at k limit : ℕ) : Result Unit Fault → Type 0 where
  titled : {u : Unit {0}} → get_or s at 0 ≡ 2 → k < limit → Titled s at k limit (Ok u)
  nameless : (get_or s at 0 ≡ 2 → ⊥) → Titled s at k limit (Err (record { place = at; refusal = NoDossier }))
  too_many : get_or s at 0 ≡ 2 → limit ≤ k → Titled s at k limit (Err (record { place = at; refusal = ManyDeclared }))

-- entries of the contents: their word, how many there may be, what is expected before one and behind all, and the mark of one
pub data EntriesOf : (word limit : ℕ) → (ℕ → Item) → List Item → (ℕ → Mark) → Type 0 where
  of_givens : EntriesOf 37 8 some_entries (five_words ++ (some_op_entries 0 ∷ [])) a_given
  of_operations : EntriesOf 43 16 some_op_entries (exact kind.END ∷ some_bodies 0 ∷ []) an_operation

abbrev pub EntriesRead : (s : List ℕ) (at n word limit : ℕ) → Answer → Type 0
EntriesRead s at n word limit r = (f : ℕ → Item) (ο : List Item) (x : ℕ → Mark) → EntriesOf word limit f ο x → Reads s at n (f 0 ∷ []) ο r

-- where something was read, this holds
abbrev pub When : Type 0 → Answer → Type 0
When P (Ok e) = P
When P (Err f) = Unit {0}

-- the words between the entries
pub record WordsAt (s : List ℕ) (i j : ℕ) : Type 0 where
  pub abstract : get_or s i 0 ≡ 38
  pub concrete : get_or s (i + 1) 0 ≡ 39
  pub ainit : get_or s (i + 1 + 1) 0 ≡ 40
  pub cinit : get_or s (i + 1 + 1 + 1) 0 ≡ 41
  pub retrieve : get_or s (i + 1 + 1 + 1 + 1) 0 ≡ 42
  pub place : j ≡ i + 1 + 1 + 1 + 1 + 1

-- the contents, and their nodes
pub record ContentsAt (s ν code : List ℕ) (e m : ℕ) : Type 0 where
  pub words : ℕ
  pub last : ℕ
  pub given_nodes : List ℕ
  pub operation_nodes : List ℕ
  pub first : get_or s 0 0 ≡ 36
  pub givens : Derives s ν (part.some_entries 37 1) 1 words given_nodes
  pub five : WordsAt s words (words + 1 + 1 + 1 + 1 + 1)
  pub operations : Derives s ν (part.some_entries 43 2) (words + 1 + 1 + 1 + 1 + 1) last operation_nodes
  pub end : get_or s last 0 ≡ 44
  pub place : e ≡ last + 1
  pub written : take m code ≡ given_nodes ++ operation_nodes

abbrev pub ContentsMade : (s ν code : List ℕ) → Answer → Type 0
ContentsMade s ν code (Ok e) = ContentsAt s ν code e.at e.count
ContentsMade s ν code (Err f) = Unit {0}

-- parts one behind another
pub data Sequence (s ν : List ℕ) : List Part → ℕ → ℕ → List ℕ → Type 0 where
  nothing : {i : ℕ} → Sequence s ν [] i i []
  behind : {x : Part} {xs : List Part} {i j k : ℕ} {m n : List ℕ} → Derives s ν x i j m → Sequence s ν xs j k n → Sequence s ν (x ∷ xs) i k (m ++ n)

pub record SequenceAt (s ν : List ℕ) (xs : List Part) (i n : ℕ) (a b : List ℕ) (j m : ℕ) : Type 0 where
  pub nodes : List ℕ
  pub parts : Sequence s ν xs i j nodes
  pub written : take m b ≡ take n a ++ nodes

abbrev pub Sequenced : (s ν : List ℕ) → List Part → (i n : ℕ) → (a b : List ℕ) → Answer → Type 0
Sequenced s ν xs i n a b (Ok e) = SequenceAt s ν xs i n a b e.at e.count
Sequenced s ν xs i n a b (Err f) = Unit {0}

-- the arrows between given sets
abbrev pub arrows : List (Kind × ℕ)
arrows = (kind.relation, 1) ∷ (kind.partial, 1) ∷ (kind.total, 1) ∷ []

abbrev pub arrow_class : Option ℕ → ℕ
arrow_class None = 0
arrow_class (Some shape) = 1

pub record Arrows (k : ℕ) (r : Option ℕ) : Type 0 where
  pub classes : Classes arrows k (arrow_class r)
  pub arrow : (shape : ℕ) → r ≡ Some shape → (33 ≤ k) × (k ≤ 35) × (k ≡ shape + 29)

-- 1 an input, 2 an output
abbrev pub directions : List (Kind × ℕ)
directions = (kind.input, 1) ∷ (kind.output, 2) ∷ []

abbrev pub direction_class : Option Direction → ℕ
direction_class None = 0
direction_class (Some Input) = 1
direction_class (Some Output) = 2

pub record Directs (k : ℕ) (r : Option Direction) : Type 0 where
  pub classes : Classes directions k (direction_class r)
  pub parameter : (c : Direction) → r ≡ Some c → (4 ≤ k) × (k ≤ 5)

-- a dossier is read to the text's end, and its nodes stand in front; or the machine stops at the fault
abbrev pub Ended : (length : ℕ) → Answer → Type 0
Ended l (Ok e) = (e.at ≡ l) × (e.count ≤ 4 * l)
Ended l (Err f) = f.place ≤ l

abbrev pub outcome : Answer → Run
outcome (Ok e) = complete
outcome (Err f) = failed f.place (refusal_is f.refusal)

pub record Formed (s ν a b : List ℕ) (r : Answer) : Type 0 where
  pub exact : (w : List Symbol) → codes w ≡ s → run w ≡ outcome r
  pub ended : Ended (length s) r
  pub made : Made s ν part.a_dossier 0 0 a b r

-- how many parameters of a direction there are, after i inputs and o outputs; how many inputs, and outputs, there are with one more; and the mark of the n-th
abbrev pub counted_by : Direction → (i o : ℕ) → ℕ
counted_by Input i o = i
counted_by Output i o = o

abbrev pub inputs_by : Direction → (i : ℕ) → ℕ
inputs_by Input i = i + 1
inputs_by Output i = i

abbrev pub outputs_by : Direction → (o : ℕ) → ℕ
outputs_by Input o = o
outputs_by Output o = o + 1

abbrev pub more_by : Direction → Taken → Taken
more_by c t = record { inputs = inputs_by c t.inputs; outputs = outputs_by c t.outputs }

abbrev pub mark_of : Direction → ℕ → Mark
mark_of Input = an_input
mark_of Output = an_output
