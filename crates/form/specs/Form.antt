-- Document 01, numbers 4, 5 and 6: what a dossier is by form alone, and the faults of the pass.
use Rattle.std.specs.Prelude.{◌≡◌, Bool, true, false, not, ◌&&◌, ◌||◌, cond, List, [], ◌∷◌, ◌++◌, map, ℕ, suc, pred, ◌≤◌, ◌<◌, ltb, length, take, drop, get_or}
use Rattle.std.proofs.Math.Option.{Option, none, some}
use Rattle.lexical.specs.Kinds as kind
use Rattle.lexical.specs.Kinds.{Kind, is}
use Rattle.lexical.specs.Symbols.{Symbol, fixed, kind_of}
use Rattle.refusals.specs.Refusals.{Refusal, fault, before, no_dossier, deep, many_declared}
use Rattle.form.specs.Tree.{Operator, plus, minus, union, without, times, inter, Connective, and, or, implies, iff}
use Rattle.form.specs.Tree.{Term, number, name, group, prefix, binary, divided, listed, pairs, such, empty_set, empty_pairs, Items, only, also, Pairs, only_pair, also_pair}
use Rattle.form.specs.Tree.{Pred, truth, falsity, negation, paren, quantified, connected, compared, member, within, related, Operation, Dossier}
use Rattle.form.specs.Written.{Mark, unmarked, opens, binds, a_given, an_element, a_variable, an_input, an_output, an_operation, Written, written, symbols_of}

-- How tightly things bind. "* div mod inter bind tighter than + - union minus, all to the left; prefixes - # dom ran tighter still."
abbrev pub operator_level : Operator → ℕ
operator_level plus = 1
operator_level minus = 1
operator_level union = 1
operator_level without = 1
operator_level times = 2
operator_level inter = 2

abbrev pub division_level : ℕ
division_level = 2

abbrev pub prefix_level : ℕ
prefix_level = 3

abbrev pub term_level : Term → ℕ
term_level (number n) = 4
term_level (name x) = 4
term_level (group t) = 4
term_level (prefix o t) = prefix_level
term_level (binary o t u) = operator_level o
term_level (divided o t e) = division_level
term_level (listed ts) = 4
term_level (pairs ts) = 4
term_level (such x g p) = 4
term_level (empty_set g) = 4
term_level (empty_pairs g h) = 4

-- "tightest first: not, and, or, =>, <=>"
abbrev pub connective_level : Connective → ℕ
connective_level iff = 1
connective_level implies = 2
connective_level or = 3
connective_level and = 4

abbrev pub not_level : ℕ
not_level = 5

abbrev pub pred_level : Pred → ℕ
pred_level truth = 6
pred_level falsity = 6
pred_level (negation p) = not_level
pred_level (paren p) = 6
pred_level (quantified q x t p) = 6
pred_level (connected o p q) = connective_level o
pred_level (compared o t u) = 6
pred_level (member o t u) = 6
pred_level (within o t r) = 6
pred_level (related o t u v) = 6

-- "=> groups to the right, the others to the left": the least levels of a connective's two sides
abbrev pub left_level : Connective → ℕ
left_level iff = 1
left_level implies = 3
left_level or = 3
left_level and = 4

abbrev pub right_level : Connective → ℕ
right_level iff = 2
right_level implies = 2
right_level or = 4
right_level and = 5

-- a tree is grouped as the binding rules say
unfoldable mutual
  pub TermGrouped : Term → Type 0
  TermGrouped (number n) = Unit {0}
  TermGrouped (name x) = Unit {0}
  TermGrouped (group t) = TermGrouped t
  TermGrouped (prefix o t) = (prefix_level ≤ term_level t) × TermGrouped t
  TermGrouped (binary o t u) = (operator_level o ≤ term_level t) × (operator_level o < term_level u) × TermGrouped t × TermGrouped u
  TermGrouped (divided o t e) = (division_level ≤ term_level t) × TermGrouped t
  TermGrouped (listed ts) = ItemsGrouped ts
  TermGrouped (pairs ts) = PairsGrouped ts
  TermGrouped (such x g p) = PredGrouped p
  TermGrouped (empty_set g) = Unit {0}
  TermGrouped (empty_pairs g h) = Unit {0}

  pub ItemsGrouped : Items → Type 0
  ItemsGrouped (only t) = TermGrouped t
  ItemsGrouped (also t ts) = TermGrouped t × ItemsGrouped ts

  pub PairsGrouped : Pairs → Type 0
  PairsGrouped (only_pair t u) = TermGrouped t × TermGrouped u
  PairsGrouped (also_pair t u ts) = TermGrouped t × TermGrouped u × PairsGrouped ts

  pub PredGrouped : Pred → Type 0
  PredGrouped truth = Unit {0}
  PredGrouped falsity = Unit {0}
  PredGrouped (negation p) = (not_level ≤ pred_level p) × PredGrouped p
  PredGrouped (paren p) = PredGrouped p
  PredGrouped (quantified q x t p) = PredGrouped p
  PredGrouped (connected o p q) = (left_level o ≤ pred_level p) × (right_level o ≤ pred_level q) × PredGrouped p × PredGrouped q
  PredGrouped (compared o t u) = TermGrouped t × TermGrouped u
  PredGrouped (member o t u) = TermGrouped t × TermGrouped u
  PredGrouped (within o t r) = TermGrouped t
  PredGrouped (related o t u v) = TermGrouped t × TermGrouped u × TermGrouped v

unfoldable pub OperationsGrouped : List Operation → Type 0
OperationsGrouped [] = Unit {0}
OperationsGrouped (o ∷ os) = PredGrouped o.abstractly × PredGrouped o.concretely × OperationsGrouped os

pub record Grouped (d : Dossier) : Type 0 where
  pub abstract : PredGrouped d.abstract.predicate
  pub concrete : PredGrouped d.concrete.predicate
  pub ainit : PredGrouped d.ainit
  pub cinit : PredGrouped d.cinit
  pub retrieve : PredGrouped d.retrieve
  pub operations : OperationsGrouped d.operations

-- the symbols w are a dossier's
pub record Whole (w : List Symbol) (d : Dossier) : Type 0 where
  pub grouped : Grouped d
  pub symbols : symbols_of d ≡ w

-- a dossier, by form alone, begins with the symbols w
pub record Begins (w : List Symbol) : Type 0 where
  pub dossier : Dossier
  pub rest : List Symbol
  pub whole : Whole (w ++ rest) dossier

-- 4. "The first symbol such that no dossier, by form alone, begins with the symbols up to and including it; or the text's end"
pub record NoDossier (w : List Symbol) (i : ℕ) : Type 0 where
  pub inside : i ≤ length w
  pub first : Begins (take i w)
  pub fault_at_symbol : i < length w → ¬ Begins (take (suc i) w)
  pub at_end : i ≡ length w → (d : Dossier) → ¬ Whole w d

-- 5. "Depth over 24 ...; or a fourth bound name in reach." 6. "Over 8 given sets, 8 elements in one, 8 variables in a state, 3 inputs, 3 outputs, 16 operations"
unfoldable pub refuse : Bool → Refusal → Option Refusal
refuse true r = some r
refuse false r = none

unfoldable pub excess : Mark → Option Refusal
excess unmarked = none
excess (opens n) = refuse (ltb 24 n) deep
excess (binds n) = refuse (ltb 3 n) deep
excess (a_given n) = refuse (ltb 8 n) many_declared
excess (an_element n) = refuse (ltb 8 n) many_declared
excess (a_variable n) = refuse (ltb 8 n) many_declared
excess (an_input n) = refuse (ltb 3 n) many_declared
excess (an_output n) = refuse (ltb 3 n) many_declared
excess (an_operation n) = refuse (ltb 16 n) many_declared

unfoldable pub kind_at : List Symbol → ℕ → Kind
kind_at w i = kind_of (get_or w i (fixed kind.END))

-- "after in or notin a - is a range end exactly if a number and .. follow it": the kinds before, at and behind a symbol
unfoldable pub is_range_end : Kind → Kind → List Symbol → Bool
is_range_end k s rest = (is k kind.IN || is k kind.NOTIN) && is s kind.minus && is (kind_at rest 0) kind.number && is (kind_at rest 1) kind.up_to

-- after { a name is bound once a : follows
unfoldable pub is_used : Kind → List Symbol → Bool
is_used k rest = is k kind.open_brace && not (is (kind_at rest 0) kind.colon)

-- what a symbol with this mark counts for, between the kind before it and the symbols behind it
unfoldable pub settled : Kind → Kind → List Symbol → Mark → Option Refusal
settled k s rest unmarked = none
settled k s rest (opens n) = cond (is_range_end k s rest) none (excess (opens n))
settled k s rest (binds n) = cond (is_used k rest) none (excess (binds n))
settled k s rest (a_given n) = excess (a_given n)
settled k s rest (an_element n) = excess (an_element n)
settled k s rest (a_variable n) = excess (a_variable n)
settled k s rest (an_input n) = excess (an_input n)
settled k s rest (an_output n) = excess (an_output n)
settled k s rest (an_operation n) = excess (an_operation n)

-- 5 and 6 at the symbol i: some dossier that begins with the symbols up to and including it opens or counts too much there
pub record TooMuch (w : List Symbol) (i : ℕ) (r : Refusal) : Type 0 where
  pub inside : i < length w
  pub begins : Begins (take (suc i) w)
  pub over : settled (kind_at w (pred i)) (kind_at w i) (drop (suc i) w) (get_or (map (λ (x : Written). x.mark) (written begins.dossier)) i unmarked) ≡ some r

-- all faults of the pass, at symbols by their numbers, the text's end being the number of its symbols
pub data FormFault (w : List Symbol) : ℕ → Refusal → Type 0 where
  at_form : {i : ℕ} → NoDossier w i → FormFault w i no_dossier
  at_mark : {i : ℕ} {r : Refusal} → TooMuch w i r → FormFault w i r

pub data Outcome : Type 0 where
  refused : (i : ℕ) → Refusal → Outcome
  formed : Dossier → Outcome

-- the least fault of the pass; or none, and the one dossier with these symbols
pub record Refuses (w : List Symbol) (i : ℕ) (r : Refusal) : Type 0 where
  pub is_fault : FormFault w i r
  pub is_least : (j : ℕ) (s : Refusal) → FormFault w j s → before (fault j s) (fault i r) ≡ false

pub record Forms (w : List Symbol) (d : Dossier) : Type 0 where
  pub whole : Whole w d
  pub faultless : (j : ℕ) (s : Refusal) → ¬ FormFault w j s

abbrev pub FormOf : List Symbol → Outcome → Type 0
FormOf w (refused i r) = Refuses w i r
FormOf w (formed d) = Forms w d
