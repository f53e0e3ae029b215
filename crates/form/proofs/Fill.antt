-- What can stand for each item that the machine expects, and the symbols that it is written with.
use mathlib.Core.Path.{◌≡◌, refl, ap}
use mathlib.Core.Bool.{true, false}
use mathlib.Core.List.{List, [], ◌∷◌}
use mathlib.Core.Option.{Option, none, some}
use Prim.Native.Nat.{ℕ}
use Rattle.std.specs.Simd.Lanes.{Each1}
use Rattle.lexical.specs.Kinds as kind
use Rattle.lexical.specs.Symbols as symbol
use Rattle.lexical.specs.Symbols.{Name, no_ending, Symbol, fixed, numeral}
use Rattle.form.specs.Tree.{Letters, End, Range, Domain, Operator, Division, Connective, Quantifier, Comparison, Membership}
use Rattle.form.specs.Tree.{Term, number, name, prefix, negate, binary, divided, listed, pairs, such, empty_set, empty_pairs, Items, only, also, Pairs, only_pair, also_pair}
use Rattle.form.specs.Tree.{Pred, paren, quantified, connected, compared, member, within, related}
use Rattle.form.specs.Tree.{Arrow, TypeForm, given_type, arrow_type, Declaration, Parameter, Operation, Dossier}
use Rattle.form.specs.Written.{operator_kind, division_kind, connective_kind, quantifier_kind, comparison_kind, membership_kind, arrow_kind}
use Rattle.form.specs.Machine.{Item, exact, a_declared, a_name, an_empty_rest, an_end, a_type, a_type_rest, a_domain, a_dossier, a_term, an_operand, a_term_rest, a_rel, a_mem, a_right, a_neg, a_num_rest}
use Rattle.form.specs.Machine.{a_brace, a_named, a_first, a_list, a_pairs, a_unary, a_paren, a_pred_rest, some_entries, some_op_entries, some_bodies, some_elements, some_declarations, some_operations, some_parameters}
use Rattle.form.proofs.Table.{Carried, symbol_of}
use Rattle.form.proofs.PlainSymbols.{named, plain_end, plain_range, plain_domain, plain_term, plain_items, plain_pairs, plain_pred, plain_type, plain_elements, plain_declarations}
use Rattle.form.proofs.PlainSymbols.{plain_parameters, plain_operations, plain_entries, Bodies, plain_bodies, plain_from, plain_dossier}

-- what follows a term
pub data Tail : Type 0 where
  nothing : Tail
  operation : Operator → Term → Tail
  division : Division → End → Tail → Tail

-- what follows a predicate
pub data PredTail : Type 0 where
  nothing : PredTail
  connection : Connective → Pred → PredTail

-- what follows `in` or `notin`; what follows a - there; what follows a number there
pub data Right : Type 0 where
  a_set : Term → Right
  a_range : Range → Right

pub data Negated : Type 0 where
  negated_term : Term → Negated
  negated_range : ℕ → End → Negated

pub data AfterNumber : Type 0 where
  goes_on : Tail → AfterNumber
  up_to : End → AfterNumber

-- what follows the first term of a predicate
pub data Relating : Type 0 where
  comparing : Comparison → Term → Relating
  belonging : Membership → Right → Relating
  pairing : Term → Membership → Term → Relating

-- what follows the first term in a brace; a { ; a name after a {
pub data AfterFirst : Type 0 where
  more_items : List Term → AfterFirst
  more_pairs : Term → List (Term × Term) → AfterFirst

pub data InBrace : Type 0 where
  first : Term → AfterFirst → InBrace
  such_that : Letters → Name → Pred → InBrace

pub data AfterName : Type 0 where
  used : Tail → AfterFirst → AfterName
  bound : Name → Pred → AfterName

-- what follows a (
pub data InParen : Type 0 where
  inside : Pred → InParen
  quantifying : Quantifier → Letters → Domain → Pred → InParen

abbrev pub plain_tail : Tail → List Symbol → List Symbol
plain_tail Tail.nothing w = w
plain_tail (operation o t) w = fixed (operator_kind o) ∷ plain_term t w
plain_tail (division o e x) w = fixed (division_kind o) ∷ plain_end e (plain_tail x w)

abbrev pub plain_pred_tail : PredTail → List Symbol → List Symbol
plain_pred_tail PredTail.nothing w = w
plain_pred_tail (connection o p) w = fixed (connective_kind o) ∷ plain_pred p w

abbrev pub plain_right : Right → List Symbol → List Symbol
plain_right (a_set t) w = plain_term t w
plain_right (a_range r) w = plain_range r w

abbrev pub plain_negated : Negated → List Symbol → List Symbol
plain_negated (negated_term t) w = plain_term t w
plain_negated (negated_range n e) w = numeral n ∷ fixed kind.up_to ∷ plain_end e w

abbrev pub plain_after_number : AfterNumber → List Symbol → List Symbol
plain_after_number (goes_on x) w = plain_tail x w
plain_after_number (up_to e) w = fixed kind.up_to ∷ plain_end e w

abbrev pub plain_relating : Relating → List Symbol → List Symbol
plain_relating (comparing o t) w = fixed (comparison_kind o) ∷ plain_term t w
plain_relating (belonging o r) w = fixed (membership_kind o) ∷ plain_right r w
plain_relating (pairing t o u) w = fixed kind.maplet ∷ plain_term t (fixed (membership_kind o) ∷ plain_term u w)

abbrev pub plain_more : List Term → List Symbol → List Symbol
plain_more [] w = fixed kind.close_brace ∷ w
plain_more (t ∷ ts) w = fixed kind.comma ∷ plain_term t (plain_more ts w)

abbrev pub plain_more_pairs : List (Term × Term) → List Symbol → List Symbol
plain_more_pairs [] w = fixed kind.close_brace ∷ w
plain_more_pairs (t ∷ ts) w = fixed kind.comma ∷ plain_term t.0 (fixed kind.maplet ∷ plain_term t.1 (plain_more_pairs ts w))

abbrev pub plain_after_first : AfterFirst → List Symbol → List Symbol
plain_after_first (more_items ts) w = plain_more ts w
plain_after_first (more_pairs t ts) w = fixed kind.maplet ∷ plain_term t (plain_more_pairs ts w)

abbrev pub plain_in_brace : InBrace → List Symbol → List Symbol
plain_in_brace (first t x) w = plain_term t (plain_after_first x w)
plain_in_brace (such_that x g p) w = named x no_ending ∷ fixed kind.colon ∷ symbol.name g ∷ fixed kind.bar ∷ plain_pred p (fixed kind.close_brace ∷ w)

abbrev pub plain_after_name : AfterName → List Symbol → List Symbol
plain_after_name (used x y) w = plain_tail x (plain_after_first y w)
plain_after_name (bound g p) w = fixed kind.colon ∷ symbol.name g ∷ fixed kind.bar ∷ plain_pred p (fixed kind.close_brace ∷ w)

abbrev pub plain_in_paren : InParen → List Symbol → List Symbol
plain_in_paren (inside p) w = plain_pred p (fixed kind.close_paren ∷ w)
plain_in_paren (quantifying q x t p) w =
    fixed (quantifier_kind q) ∷ named x no_ending ∷ fixed kind.colon ∷ plain_domain t (fixed kind.spot ∷ plain_pred p (fixed kind.close_paren ∷ w))

abbrev pub plain_empty_rest : Option Name → List Symbol → List Symbol
plain_empty_rest none w = w
plain_empty_rest (some x) w = symbol.name x ∷ w

abbrev pub plain_type_rest : Option (Arrow × Name) → List Symbol → List Symbol
plain_type_rest none w = w
plain_type_rest (some a) w = fixed (arrow_kind a.0) ∷ symbol.name a.1 ∷ w

-- what can stand for an item
abbrev pub Fill : Item → Type 0
Fill (exact c) = Carried c
Fill (a_declared m) = Letters
Fill a_name = Name
Fill an_empty_rest = Option Name
Fill an_end = End
Fill a_type = TypeForm
Fill a_type_rest = Option (Arrow × Name)
Fill a_domain = Domain
Fill a_dossier = Dossier
Fill (a_term d k) = Term
Fill (an_operand d k) = Term
Fill (a_term_rest d k) = Tail
Fill (a_rel d k) = Relating
Fill (a_mem d k) = Membership × Term
Fill (a_right d k) = Right
Fill (a_neg d k) = Negated
Fill (a_num_rest d k) = AfterNumber
Fill (a_brace d k) = InBrace
Fill (a_named d k) = AfterName
Fill (a_first d k) = AfterFirst
Fill (a_list d k) = List Term
Fill (a_pairs d k) = List (Term × Term)
Fill (a_unary d k) = Pred
Fill (a_paren d k) = InParen
Fill (a_pred_rest b c k) = PredTail
Fill (some_entries n) = List Letters × List Letters × Bodies
Fill (some_op_entries n) = List Letters × Bodies
Fill (some_bodies n) = Bodies
Fill (some_elements n) = List Letters
Fill (some_declarations n) = List Declaration
Fill (some_operations n) = List Operation
Fill (some_parameters i o) = List Parameter

-- the symbols of what stands for an item, then w
abbrev pub fill : (i : Item) → Fill i → List Symbol → List Symbol
fill (exact c) f w = symbol_of c f ∷ w
fill (a_declared m) f w = named f no_ending ∷ w
fill a_name f w = symbol.name f ∷ w
fill an_empty_rest f w = plain_empty_rest f w
fill an_end f w = plain_end f w
fill a_type f w = plain_type f w
fill a_type_rest f w = plain_type_rest f w
fill a_domain f w = plain_domain f w
fill a_dossier f w = plain_dossier f w
fill (a_term d k) f w = plain_term f w
fill (an_operand d k) f w = plain_term f w
fill (a_term_rest d k) f w = plain_tail f w
fill (a_rel d k) f w = plain_relating f w
fill (a_mem d k) f w = fixed (membership_kind f.0) ∷ plain_term f.1 w
fill (a_right d k) f w = plain_right f w
fill (a_neg d k) f w = plain_negated f w
fill (a_num_rest d k) f w = plain_after_number f w
fill (a_brace d k) f w = plain_in_brace f w
fill (a_named d k) f w = plain_after_name f w
fill (a_first d k) f w = plain_after_first f w
fill (a_list d k) f w = plain_more f w
fill (a_pairs d k) f w = plain_more_pairs f w
fill (a_unary d k) f w = plain_pred f w
fill (a_paren d k) f w = plain_in_paren f w
fill (a_pred_rest b c k) f w = plain_pred_tail f w
fill (some_entries n) f w = plain_from f.0 f.1 f.2 w
fill (some_op_entries n) f w = plain_entries kind.OP f.0 (fixed kind.END ∷ plain_bodies f.1 w)
fill (some_bodies n) f w = plain_bodies f w
fill (some_elements n) f w = plain_elements f (fixed kind.END ∷ w)
fill (some_declarations n) f w = plain_declarations f (fixed kind.WHERE ∷ w)
fill (some_operations n) f w = plain_operations f w
fill (some_parameters i o) f w = plain_parameters f (fixed kind.ABSTRACT ∷ w)

abbrev pub Fills : List Item → Type 0
Fills γ = Each1 Fill γ

abbrev pub print : (γ : List Item) → Fills γ → List Symbol
print [] h = []
print (i ∷ γ) h = fill i h.0 (print γ h.1)

-- a term and what follows it as one term
pub extended : Term → Tail → Term
extended t Tail.nothing = t
extended t (operation o u) = binary o t u
extended t (division o e x) = extended (divided o t e) x

pub extended-plain : (t : Term) (x : Tail) (w : List Symbol) → plain_term (extended t x) w ≡ plain_term t (plain_tail x w)
unfolding extended plain_term
extended-plain t Tail.nothing w = refl
extended-plain t (operation o u) w = refl
extended-plain t (division o e x) w = extended-plain (divided o t e) x w

-- a predicate and what follows it as one predicate
pub joined : Pred → PredTail → Pred
joined p PredTail.nothing = p
joined p (connection o q) = connected o p q

pub joined-plain : (p : Pred) (x : PredTail) (w : List Symbol) → plain_pred (joined p x) w ≡ plain_pred p (plain_pred_tail x w)
unfolding joined plain_term
joined-plain p PredTail.nothing w = refl
joined-plain p (connection o q) w = refl

-- a set by what stands in its braces
pub items_of : Term → List Term → Items
items_of t [] = only t
items_of t (u ∷ us) = also t (items_of u us)

pub pairs_in : Term → Term → List (Term × Term) → Pairs
pairs_in t u [] = only_pair t u
pairs_in t u (v ∷ vs) = also_pair t u (pairs_in v.0 v.1 vs)

pub braced : InBrace → Term
braced (first t (more_items ts)) = listed (items_of t ts)
braced (first t (more_pairs u ts)) = pairs (pairs_in t u ts)
braced (such_that x g p) = such x g p

items-braced : (t : Term) (ts : List Term) (w : List Symbol) → plain_items (items_of t ts) (fixed kind.close_brace ∷ w) ≡ plain_term t (plain_more ts w)
unfolding items_of plain_term
items-braced t [] w = refl
items-braced t (u ∷ us) w = ap (λ (l : List Symbol). plain_term t (fixed kind.comma ∷ l)) (items-braced u us w)

pairs-braced : (t u : Term) (ts : List (Term × Term)) (w : List Symbol)
    → plain_pairs (pairs_in t u ts) (fixed kind.close_brace ∷ w) ≡ plain_term t (fixed kind.maplet ∷ plain_term u (plain_more_pairs ts w))
unfolding pairs_in plain_term
pairs-braced t u [] w = refl
pairs-braced t u (v ∷ vs) w = ap (λ (l : List Symbol). plain_term t (fixed kind.maplet ∷ plain_term u (fixed kind.comma ∷ l))) (pairs-braced v.0 v.1 vs w)

pub braced-plain : (b : InBrace) (w : List Symbol) → plain_term (braced b) w ≡ fixed kind.open_brace ∷ plain_in_brace b w
unfolding braced plain_term
braced-plain (first t (more_items ts)) w = ap (λ (l : List Symbol). fixed kind.open_brace ∷ l) (items-braced t ts w)
braced-plain (first t (more_pairs u ts)) w = ap (λ (l : List Symbol). fixed kind.open_brace ∷ l) (pairs-braced t u ts w)
braced-plain (such_that x g p) w = refl

-- a predicate by what stands in its parentheses
pub parenthesised : InParen → Pred
parenthesised (inside p) = paren p
parenthesised (quantifying q x t p) = quantified q x t p

pub parenthesised-plain : (x : InParen) (w : List Symbol) → plain_pred (parenthesised x) w ≡ fixed kind.open_paren ∷ plain_in_paren x w
unfolding parenthesised plain_term
parenthesised-plain (inside p) w = refl
parenthesised-plain (quantifying q x t p) w = refl

-- a predicate by its first term and what follows that
pub relate : Term → Relating → Pred
relate t (comparing o u) = compared o t u
relate t (belonging o (a_set u)) = member o t u
relate t (belonging o (a_range r)) = within o t r
relate t (pairing u o v) = related o t u v

pub relate-plain : (t : Term) (x : Relating) (w : List Symbol) → plain_pred (relate t x) w ≡ plain_term t (plain_relating x w)
unfolding relate plain_term
relate-plain t (comparing o u) w = refl
relate-plain t (belonging o (a_set u)) w = refl
relate-plain t (belonging o (a_range r)) w = refl
relate-plain t (pairing u o v) w = refl

-- an empty set or relation by what follows its first name
pub emptied : Name → Option Name → Term
emptied g none = empty_set g
emptied g (some h) = empty_pairs g h

pub emptied-plain : (g : Name) (x : Option Name) (w : List Symbol) → plain_term (emptied g x) w ≡ fixed kind.EMPTY ∷ symbol.name g ∷ plain_empty_rest x w
unfolding emptied plain_term
emptied-plain g none w = refl
emptied-plain g (some h) w = refl

-- a type by what follows its first name
pub arrowed : Name → Option (Arrow × Name) → TypeForm
arrowed g none = given_type g
arrowed g (some a) = arrow_type a.0 g a.1

pub arrowed-plain : (g : Name) (x : Option (Arrow × Name)) (w : List Symbol) → plain_type (arrowed g x) w ≡ symbol.name g ∷ plain_type_rest x w
unfolding arrowed
arrowed-plain g none w = refl
arrowed-plain g (some a) w = refl

-- what follows `in` or `notin`, by what follows a number or a - there
pub from_number : ℕ → AfterNumber → Right
from_number n (goes_on x) = a_set (extended (number n) x)
from_number n (up_to e) = a_range (record { lower = record { negative = false; magnitude = n }; upper = e })

pub from_number-plain : (n : ℕ) (x : AfterNumber) (w : List Symbol) → plain_right (from_number n x) w ≡ numeral n ∷ plain_after_number x w
unfolding from_number plain_term
from_number-plain n (goes_on x) w = extended-plain (number n) x w
from_number-plain n (up_to e) w = refl

pub from_negated : Negated → Right
from_negated (negated_term t) = a_set (prefix negate t)
from_negated (negated_range n e) = a_range (record { lower = record { negative = true; magnitude = n }; upper = e })

pub from_negated-plain : (x : Negated) (w : List Symbol) → plain_right (from_negated x) w ≡ fixed kind.minus ∷ plain_negated x w
unfolding from_negated plain_term
from_negated-plain (negated_term t) w = refl
from_negated-plain (negated_range n e) w = refl

pub negated_number : ℕ → AfterNumber → Negated
negated_number n (goes_on x) = negated_term (extended (number n) x)
negated_number n (up_to e) = negated_range n e

pub negated_number-plain : (n : ℕ) (x : AfterNumber) (w : List Symbol) → plain_negated (negated_number n x) w ≡ numeral n ∷ plain_after_number x w
unfolding negated_number plain_term
negated_number-plain n (goes_on x) w = extended-plain (number n) x w
negated_number-plain n (up_to e) w = refl

-- what stands in braces, by what follows a name there
pub from_name : Letters → AfterName → InBrace
from_name x (used y z) = first (extended (name (record { letters = x; ending = no_ending })) y) z
from_name x (bound g p) = such_that x g p

pub from_name-plain : (x : Letters) (y : AfterName) (w : List Symbol) → plain_in_brace (from_name x y) w ≡ named x no_ending ∷ plain_after_name y w
unfolding from_name plain_term
from_name-plain x (used y z) w = extended-plain (name (record { letters = x; ending = no_ending })) y (plain_after_first z w)
from_name-plain x (bound g p) w = refl
