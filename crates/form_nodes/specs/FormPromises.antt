-- What the functions of the form pass promise each other, against the machine and the nodes of a tree. Nothing here need be believed.
use Rattle.std.specs.Prelude.{◌≡◌, Bool, true, false, ◌&&◌, List, [], ◌∷◌, ◌++◌, map, ℕ, zero, suc, ◌+◌, ◌-◌, ◌*◌, ◌≤◌, ◌<◌, eqb, leb, length, take, drop, get_or, Result, Ok, Err, Option, Some, None}
use Rattle.lexical.specs.Kinds as kind
use Rattle.lexical.specs.Kinds.{Kind, code_of, lookup}
use Rattle.lexical.specs.Symbols.{Symbol, kind_of}
use Rattle.lexical.specs.Promises.{Scans}
use Rattle.form.specs.Machine as machine
use Rattle.form.specs.Machine.{kind_before, Item, a_term_rest, a_pred_rest, Run, failed, run_from, starts}
use Rattle.form_nodes.specs.declared.kinds.Start.{Start}
use Rattle.form_nodes.specs.declared.kinds.Start.TheVariants.{Leaf, Prefix, Bracket, Brace, Empty}
use Rattle.form_nodes.specs.declared.kinds.PredStart.{PredStart}
use Rattle.form_nodes.specs.declared.kinds.PredStart.TheVariants.{Truth, Negation, Paren, Term}
use Rattle.form_nodes.specs.declared.kinds.Relation.{Relation}
use Rattle.form_nodes.specs.declared.kinds.Relation.TheVariants.{Comparison, Membership, Pairing}
use Rattle.form_nodes.specs.declared.kinds.Operator.{Operator}
use Rattle.form_nodes.specs.declared.kinds.Operator.TheVariants.{Loose, Tight, Division}
use Rattle.form_nodes.specs.declared.Read.{Read}
use Rattle.refusals.specs.declared.Fault.{Fault}
use Rattle.refusals.specs.declared.Refusal.TheVariants.{NoDossier}
use Rattle.refusals.specs.RefusalNames.{refusal_is}

-- the kinds' numbers, which the code reads
unfoldable pub codes : List Symbol → List ℕ
codes w = map (λ (x : Symbol). code_of (kind_of x)) w

-- the machine, from the symbol at on
unfoldable pub run_at : List Symbol → (at : ℕ) → List Item → Run
run_at w at γ = run_from (drop at w) (kind_before kind.END w at) at γ

-- what a function answers: what was read, or a fault
abbrev pub Answer : Type 0
Answer = Result Read Fault

-- how the machine ends, where a part was read and γ is expected behind it
abbrev pub after : Answer → List Symbol → List Item → Run
after (Ok e) w γ = run_at w e.at γ
after (Err f) w γ = failed f.place (refusal_is f.refusal)

abbrev pub place_of : Answer → ℕ
place_of (Ok e) = e.at
place_of (Err f) = f.place

-- at most four numbers are written for each symbol read
abbrev pub Counted : (at n : ℕ) → Answer → Type 0
Counted at n (Ok e) = e.count + 4 * at ≤ n + 4 * e.at
Counted at n (Err f) = Unit {0}

-- Faults are exact: where ι is expected at the symbol at, and n numbers are written, the machine goes on behind the part that was read, where ο is expected,
-- or stops at the fault.
pub record Reads (s : List ℕ) (at n : ℕ) (ι ο : List Item) (r : Answer) : Type 0 where
  pub from : at ≤ place_of r
  pub within : place_of r ≤ length s
  pub count : Counted at n r
  pub same : (w : List Symbol) → codes w ≡ s → (γ : List Item) → run_at w at (ι ++ γ) ≡ after r w (ο ++ γ)

-- what a function that writes may count on
pub record Room (s code : List ℕ) (at n : ℕ) : Type 0 where
  pub inside : at ≤ length s
  pub written : n ≤ 4 * at
  pub long : 4 * length s ≤ length code

-- the code at a place; 0, which is no kind's, behind the end
pub record KindAt (s : List ℕ) (at r : ℕ) : Type 0 where
  pub is : r ≡ get_or s at 0
  pub inside : r ≤ 255 * (length s - at)

-- what a kind is looked up as, by its code
pub record Classes (table : List (Kind × ℕ)) (k r : ℕ) : Type 0 where
  pub none : r ≤ 9 * k
  pub small : r ≤ 9
  pub class : (κ : Kind) → code_of κ ≡ k → lookup table 0 κ ≡ r

abbrev pub start_as : Start → machine.Start
start_as Leaf = machine.leaf
start_as Prefix = machine.prefixed
start_as Bracket = machine.bracket
start_as Brace = machine.brace
start_as Empty = machine.emptied

abbrev pub StartCode : ℕ → Start → Type 0
StartCode k Leaf = 1 ≤ k
StartCode k Prefix = 1 ≤ k
StartCode k Bracket = k ≡ 17
StartCode k Brace = k ≡ 19
StartCode k Empty = k ≡ 47

pub record Starts (k : ℕ) (r : Start) : Type 0 where
  pub code : StartCode k r
  pub start : (κ : Kind) → code_of κ ≡ k → lookup starts machine.nothing κ ≡ start_as r

abbrev pub StartOf : ℕ → Option Start → Type 0
StartOf k (Some r) = Starts k r
StartOf k None = (κ : Kind) → code_of κ ≡ k → lookup starts machine.nothing κ ≡ machine.nothing

-- operators: 1 of the lower level, 2 of the higher, 3 with a number on its right
abbrev pub operators : List (Kind × ℕ)
operators = (kind.plus, 1) ∷ (kind.minus, 1) ∷ (kind.UNION, 1) ∷ (kind.MINUS, 1) ∷ (kind.times, 2) ∷ (kind.INTER, 2) ∷ (kind.DIV, 3) ∷ (kind.MOD, 3) ∷ []

abbrev pub level_of : ℕ → ℕ
level_of zero = 0
level_of (suc zero) = 1
level_of (suc (suc n)) = 2

-- the three operators by their numbers in the table, and what stands at a place that may have none
abbrev pub operator_number : Operator → ℕ
operator_number Loose = 1
operator_number Tight = 2
operator_number Division = 3

abbrev pub operator_class : Option Operator → ℕ
operator_class None = 0
operator_class (Some o) = operator_number o

abbrev pub connective_class : Option ℕ → ℕ
connective_class None = 0
connective_class (Some l) = l

-- connectives by their levels
abbrev pub connectives : List (Kind × ℕ)
connectives = (kind.AND, 4) ∷ (kind.OR, 3) ∷ (kind.implies, 2) ∷ (kind.iff, 1) ∷ []

-- what a predicate begins with: 1 a truth value, 2 `not`, 3 (; otherwise a term
abbrev pub pred_starts : List (Kind × ℕ)
pred_starts = (kind.TRUE, 1) ∷ (kind.FALSE, 1) ∷ (kind.NOT, 2) ∷ (kind.open_paren, 3) ∷ []

-- what stands behind the first term of a predicate: 1 a comparison, 2 a membership, 3 |->
abbrev pub relations : List (Kind × ℕ)
relations = (kind.equals, 1) ∷ (kind.differs, 1) ∷ (kind.less, 1) ∷ (kind.at_most, 1) ∷ (kind.IN, 2) ∷ (kind.NOTIN, 2) ∷ (kind.maplet, 3) ∷ []

abbrev pub memberships : List (Kind × ℕ)
memberships = (kind.IN, 1) ∷ (kind.NOTIN, 1) ∷ []

abbrev pub quantifiers : List (Kind × ℕ)
quantifiers = (kind.FORALL, 1) ∷ (kind.EXISTS, 1) ∷ (kind.EXISTS1, 1) ∷ []

abbrev pub names : List (Kind × ℕ)
names = (kind.plain, 1) ∷ (kind.primed, 1) ∷ (kind.input, 1) ∷ (kind.output, 1) ∷ []

abbrev pub Ahead : ℕ → Answer → Type 0
Ahead at (Ok e) = at < e.at
Ahead at (Err f) = Unit {0}

-- at least one symbol is read
pub record Advances (s : List ℕ) (at n : ℕ) (ι ο : List Item) (r : Answer) : Type 0 where
  pub reads : Reads s at n ι ο r
  pub ahead : Ahead at r

-- what was read up to a place without writing
abbrev pub Shown : (ℕ → Type 0) → ℕ → Answer → Type 0
Shown P n (Ok e) = P e.at × (e.count ≡ n)
Shown P n (Err f) = Unit {0}

-- where a symbol of the code k is expected and none stands
abbrev pub Missed : List ℕ → (at k : ℕ) → Answer → Type 0
Missed s at k (Ok e) = Unit {0}
Missed s at k (Err f) = (1 ≤ k → get_or s at 0 ≡ k → ⊥) × (f ≡ record { place = at; refusal = NoDossier })

-- one symbol of the kind κ
pub record Closes (s : List ℕ) (at k n : ℕ) (r : Answer) : Type 0 where
  pub ahead : Ahead at r
  pub within : place_of r ≤ length s
  pub shown : Shown (λ (e : ℕ). (e ≡ at + 1) × (get_or s at 0 ≡ k)) n r
  pub missed : Missed s at k r
  pub reads : (κ : Kind) → code_of κ ≡ k → Reads s at n (machine.exact κ ∷ []) [] r

-- a node behind the first n numbers, and nothing behind it changed
pub record Writes (a : List ℕ) (n : ℕ) (x b : List ℕ) (r : ℕ) : Type 0 where
  pub count : r ≡ n + 4
  pub nodes : take r b ≡ take n a ++ x
  pub rest : drop r b ≡ drop r a

-- at stands a range after in or notin: a number or - and a number, and ..
pub data Ranged (s : List ℕ) (at : ℕ) : Bool → Type 0 where
  positive : get_or s at 0 ≡ 1 → get_or s (at + 1) 0 ≡ 21 → Ranged s at true
  negative : get_or s at 0 ≡ 29 → get_or s (at + 1) 0 ≡ 1 → get_or s (at + 1 + 1) 0 ≡ 21 → Ranged s at true
  unranged : (get_or s at 0 ≡ 1 → get_or s (at + 1) 0 ≡ 21 → ⊥) → (get_or s at 0 ≡ 29 → get_or s (at + 1) 0 ≡ 1 → get_or s (at + 1 + 1) 0 ≡ 21 → ⊥) → Ranged s at false

-- the - of a range after in or notin, which opens nothing: by the codes before, at and behind it
unfoldable pub range_end_at : List ℕ → ℕ → Bool
range_end_at s zero = false
range_end_at s (suc p) =
    (leb 56 (get_or s p 0) && leb (get_or s p 0) 57) && eqb (get_or s (suc p) 0) 29 && eqb (get_or s (suc p + 1) 0) 1 && eqb (get_or s (suc p + 2) 0) 21

-- -, a number and .. stand at a place
unfoldable pub range_below : List ℕ → ℕ → Bool
range_below s at = eqb (get_or s at 0) 29 && eqb (get_or s (at + 1) 0) 1 && eqb (get_or s (at + 2) 0) 21

pub record RangeEnd (s : List ℕ) (at : ℕ) (r : Bool) : Type 0 where
  pub test : range_end_at s at ≡ r
  pub minus : r ≡ true → (get_or s at 0 ≡ 29) × (get_or s (at + 1) 0 ≡ 1)

-- behind a term that was read stands no operator of the level min or a higher one
abbrev pub TermStops : List ℕ → ℕ → Answer → Type 0
TermStops s min (Ok e) = (κ : Kind) → code_of κ ≡ get_or s e.at 0 → level_of (lookup operators 0 κ) < min
TermStops s min (Err f) = Unit {0}

pub record TermReads (s : List ℕ) (at n d b min : ℕ) (ι : List Item) (r : Answer) : Type 0 where
  pub reads : Reads s at n ι (a_term_rest d b ∷ []) r
  pub stops : TermStops s min r

abbrev pub PredStops : List ℕ → ℕ → Answer → Type 0
PredStops s min (Ok e) = (κ : Kind) → code_of κ ≡ get_or s e.at 0 → lookup connectives 0 κ < min
PredStops s min (Err f) = Unit {0}

-- a predicate at depth d, or its rest, inside one that began at the depth base; only <=> goes back there
pub record PredReads (s : List ℕ) (at n d b min : ℕ) (ι : List Item) (r : Answer) : Type 0 where
  pub reads : (base : ℕ) → (min ≡ 1 → base ≡ d) → Reads s at n (ι ++ (a_pred_rest base d b ∷ [])) (a_pred_rest base d b ∷ []) r
  pub stops : PredStops s min r

-- classes that are answers of tests, and those of the two enums, by their numbers in the tables
abbrev pub bit : Bool → ℕ
bit true = 1
bit false = 0

abbrev pub start_class : PredStart → ℕ
start_class Truth = 1
start_class Negation = 2
start_class Paren = 3
start_class Term = 0

abbrev pub relation_class : Option Relation → ℕ
relation_class None = 0
relation_class (Some Comparison) = 1
relation_class (Some Membership) = 2
relation_class (Some Pairing) = 3

pub record Quantifies (k : ℕ) (r : Bool) : Type 0 where
  pub classes : Classes quantifiers k (bit r)
  pub quantifier : r ≡ true → (53 ≤ k) × (k ≤ 55)

pub record Relates (k : ℕ) (r : Option Relation) : Type 0 where
  pub classes : Classes relations k (relation_class r)
  pub member : r ≡ Some Membership → (56 ≤ k) × (k ≤ 57)
  pub maplet : r ≡ Some Pairing → k ≡ 32

pub record Members (k : ℕ) (r : Bool) : Type 0 where
  pub classes : Classes memberships k (bit r)
  pub member : r ≡ true → (56 ≤ k) × (k ≤ 57)

pub record Begins (k : ℕ) (r : PredStart) : Type 0 where
  pub classes : Classes pred_starts k (start_class r)
  pub paren : r ≡ Paren → k ≡ 15

-- of a test of `is_name` (lexical/specs/SymbolPromises)
pub record Named (k : ℕ) (r : Bool) : Type 0 where
  pub classes : Classes names k (bit r)
  pub name : r ≡ true → (2 ≤ k) × (k ≤ 5)
  pub none : r ≡ false → (2 ≤ k → k ≤ 5 → ⊥)

-- what a scan that answers n symbols has left in the arrays
pub record Left (text coded placed valued : List ℕ) (n : ℕ) : Type 0 where
  pub codes₀ : List ℕ
  pub starts₀ : List ℕ
  pub values₀ : List ℕ
  pub scans : Scans text codes₀ starts₀ values₀ coded placed valued (Ok n)
