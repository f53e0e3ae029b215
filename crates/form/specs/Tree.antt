-- Document 01, "What a dossier looks like", "Types", "Predicates", "Terms": the trees of dossiers. One tree serves form, names, types, meaning and writing.
use Rattle.std.specs.Prelude.{Bool, List, ◌∷◌, ℕ}
use Rattle.lexical.specs.Symbols.{Name}

-- what a declared name is written with; its ending is that of its place
abbrev pub Letters : Type 0
Letters = List ℕ

-- an end of a range, or a divisor: "a number, which may carry -"
pub record End : Type 0 where
  pub negative : Bool
  pub magnitude : ℕ

-- a..b
pub record Range : Type 0 where
  pub lower : End
  pub upper : End

-- "T a given set or range"
pub data Domain : Type 0 where
  given_set : Name → Domain
  range : Range → Domain

-- "prefixes - # dom ran"
pub data Prefix : Type 0 where
  negate size dom ran : Prefix

-- "* div mod inter bind tighter than + - union minus"
pub data Operator : Type 0 where
  plus minus union without times inter : Operator

pub data Division : Type 0 where
  quotient remainder : Division

-- "and, or, =>, <=>"
pub data Connective : Type 0 where
  and or implies iff : Connective

pub data Quantifier : Type 0 where
  forall exists exists1 : Quantifier

-- "t = t, t /= t, t < t, t <= t"
pub data Comparison : Type 0 where
  equals differs less at_most : Comparison

pub data Membership : Type 0 where
  is_in not_in : Membership

-- "Terms and predicates contain each other, through set braces."
mutual
  pub data Term : Type 0 where
    number : ℕ → Term
    name : Name → Term
    -- [t]
    group : Term → Term
    prefix : Prefix → Term → Term
    binary : Operator → Term → Term → Term
    -- "Right of div and mod stands a number, which may carry -."
    divided : Division → Term → End → Term
    -- {t, ...}, {t |-> t, ...}, {x : G | p}
    listed : Items → Term
    pairs : Pairs → Term
    such : Letters → Name → Pred → Term
    -- empty G, empty G H
    empty_set : Name → Term
    empty_pairs : Name → Name → Term

  pub data Items : Type 0 where
    only : Term → Items
    also : Term → Items → Items

  pub data Pairs : Type 0 where
    only_pair : Term → Term → Pairs
    also_pair : Term → Term → Pairs → Pairs

  pub data Pred : Type 0 where
    truth falsity : Pred
    negation : Pred → Pred
    -- (p)
    paren : Pred → Pred
    -- (forall x : T @ p)
    quantified : Quantifier → Letters → Domain → Pred → Pred
    connected : Connective → Pred → Pred → Pred
    compared : Comparison → Term → Term → Pred
    -- t in t, t in a..b, t |-> t in t, "and these with notin"
    member : Membership → Term → Term → Pred
    within : Membership → Term → Range → Pred
    related : Membership → Term → Term → Term → Pred

-- the three arrows: G <-> H, G -+> H, G --> H
pub data Arrow : Type 0 where
  relation partial total : Arrow

-- "A given set; a range a..b; P G; G <-> H relations; G -+> H partial functions; G --> H total functions."
pub data TypeForm : Type 0 where
  given_type power_type : Name → TypeForm
  range_type : Range → TypeForm
  arrow_type : Arrow → Name → Name → TypeForm

-- "name : type ;"
pub record Declaration : Type 0 where
  pub declared : Letters
  pub type : TypeForm

-- "names end in ? (input) or ! (output)"
pub data Direction : Type 0 where
  inward outward : Direction

pub record Parameter : Type 0 where
  pub direction : Direction
  pub declaration : Declaration

-- "A given set lists one or more elements."
pub record Given : Type 0 where
  pub title : Letters
  pub first_element : Letters
  pub other_elements : List Letters

-- declarations, "one or more in a state", and its predicate
pub record State : Type 0 where
  pub first_declaration : Declaration
  pub other_declarations : List Declaration
  pub predicate : Pred

-- parameters, "zero or more between an operation's name and its `abstract`", and a predicate for each side
pub record Operation : Type 0 where
  pub title : Letters
  pub parameters : List Parameter
  pub abstractly : Pred
  pub concretely : Pred

-- "A table of contents first, then the bodies."
pub record Dossier : Type 0 where
  pub given_entries : List Letters
  pub operation_entries : List Letters
  pub givens : List Given
  pub abstract : State
  pub concrete : State
  pub ainit : Pred
  pub cinit : Pred
  pub retrieve : Pred
  pub operations : List Operation

abbrev pub elements : Given → List Letters
elements g = g.first_element ∷ g.other_elements

abbrev pub declarations : State → List Declaration
declarations s = s.first_declaration ∷ s.other_declarations
