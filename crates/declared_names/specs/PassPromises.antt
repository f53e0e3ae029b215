-- What the functions of the pass promise of whatever declarations, predicates and operations the nodes are those of; T has the names at entry, U at exit.
-- Nothing here need be believed.
use Rattle.std.specs.Prelude.{◌≡◌, List, ◌++◌, map, ℕ, suc, ◌+◌, ◌-◌, ◌≤◌, ◌<◌, length, take, drop, get_or, set, replicate}
use Rattle.form.specs.Tree.{TypeForm, Declaration, declarations, Given, State, Operation, Pred, Dossier}
use Rattle.form.specs.Codes.{Numbering, node, name_number, number_of_name, type_codes, given_codes, pred_width, abstractly_at, declaration_codes, parameter_codes, condition_codes, state_codes, operation_codes}
use Rattle.form.specs.Headings.{givens_at, abstract_at, concrete_at, ainit_at, cinit_at, retrieve_at, operations_at}
use Rattle.lexical.specs.Symbols.{no_ending}
use Rattle.static_rules.specs.Carriers.{size_of}
use Rattle.type_rules.specs.TypesByNumber.{Names, Sizes, entry, is_free, is_given, key, unless_key, lesser, inside_key, over_key, pred_key}
use Rattle.declared_names.specs.NamesByNumber.{Typed, typed_codes, type_kind, type_key, shown, hidden, declared_key, givens_key, givens_named, state_key, state_named, reaching, leaving, operation_key, operation_named, operations_key, conditions_key, conditions_named, dossier_key}

-- a declared type, whose node begins at `at`
abbrev pub TypeKinded : (code : List ℕ) (at : ℕ) (T : Names) (r : ℕ) → Type 0
TypeKinded code at T r = (t : TypeForm) (i : ℕ) (ρ : Numbering) (rest : List ℕ) → drop at code ≡ type_codes t i ρ ++ rest → r ≡ type_kind t T ρ

abbrev pub TypeFaulted : (code : List ℕ) (at : ℕ) (T : Names) (z : Sizes) (r : ℕ) → Type 0
TypeFaulted code at T z r = (t : TypeForm) (i : ℕ) (ρ : Numbering) (rest : List ℕ) → drop at code ≡ type_codes t i ρ ++ rest → r ≡ type_key t T ρ z i

-- the first fault of a type of pairs over two names, by what these are
unfoldable pub pairs_key_at : (i k l : ℕ) → Sizes → ℕ
pairs_key_at i k l z = lesser (unless_key (is_given k) (key i 9)) (lesser (unless_key (is_given l) (key (i + 2) 9)) (over_key z k l (i + 1)))

-- one declaration: its nodes, and its first fault
abbrev pub typed_code : (i : ℕ) → Typed → Numbering → List ℕ
typed_code i x ρ = node 6 i (name_number ρ x.called) 0 ++ type_codes x.type (i + 2) ρ

abbrev pub typed_key : Typed → Names → Numbering → Sizes → (i : ℕ) → ℕ
typed_key x T ρ z i = lesser (unless_key (is_free (entry T (name_number ρ x.called))) (key i 8)) (type_key x.type T ρ z (i + 2))

abbrev pub DeclarationFaulted : (code : List ℕ) (at : ℕ) (T : Names) (z : Sizes) (r : ℕ) → Type 0
DeclarationFaulted code at T z r = (x : Typed) (i : ℕ) (ρ : Numbering) (rest : List ℕ) → drop at code ≡ typed_code i x ρ ++ rest → r ≡ typed_key x T ρ z i

abbrev pub Reached : (code : List ℕ) (at shift : ℕ) (T U : Names) → Type 0
Reached code at s T U =
    (x : Typed) (i : ℕ) (ρ : Numbering) (rest : List ℕ)
    → drop at code ≡ typed_code i x ρ ++ rest
    → U ≡ set T (name_number ρ x.called + s) (type_kind x.type T ρ)

-- declarations, whose nodes are all of `code`
pub record DeclaredSeen (code : List ℕ) (T U : Names) (z : Sizes) (r : ℕ) : Type 0 where
  pub right : (xs : List Typed) (i : ℕ) (ρ : Numbering) → code ≡ typed_codes i xs ρ → r ≡ declared_key xs T ρ z i
  pub named : (xs : List Typed) (i : ℕ) (ρ : Numbering) → code ≡ typed_codes i xs ρ → r ≡ 0 → U ≡ shown xs 0 T ρ

abbrev pub ShownSeen : (code : List ℕ) (shift : ℕ) (T U : Names) → Type 0
ShownSeen code s T U = (xs : List Typed) (i : ℕ) (ρ : Numbering) → code ≡ typed_codes i xs ρ → U ≡ shown xs s T ρ

abbrev pub HiddenSeen : (code : List ℕ) (shift k : ℕ) (T U : Names) → Type 0
HiddenSeen code s k T U = (xs : List Typed) (i : ℕ) (ρ : Numbering) → code ≡ typed_codes i xs ρ → U ≡ hidden xs s k T ρ

-- the node of a given set's body or of an element, at `at`, where g given sets have begun
pub record Counted (code : List ℕ) (at g r : ℕ) : Type 0 where
  pub few : g ≤ 8 → r ≤ 8
  pub title : get_or code (at + 3) 0 ≡ 3 → g < 8 → r ≡ g + 1
  pub element : (get_or code (at + 3) 0 ≡ 3 → ⊥) → r ≡ g

pub record GivenFaulted (code : List ℕ) (at : ℕ) (T : Names) (r : ℕ) : Type 0 where
  pub title : get_or code (at + 3) 0 ≡ 3 → r ≡ unless_key (is_free (entry T (get_or code (at + 1) 0))) (key (get_or code (at + 2) 0 + 1) 8)
  pub element : (get_or code (at + 3) 0 ≡ 3 → ⊥) → r ≡ unless_key (is_free (entry T (get_or code (at + 1) 0))) (key (get_or code (at + 2) 0) 8)

pub record GivenKind (code : List ℕ) (at g r : ℕ) : Type 0 where
  pub title : get_or code (at + 3) 0 ≡ 3 → r ≡ 7 + g
  pub element : (get_or code (at + 3) 0 ≡ 3 → ⊥) → r ≡ 15 + g

pub record SizeCounted (code : List ℕ) (at g : ℕ) (z z' : Sizes) : Type 0 where
  pub title : get_or code (at + 3) 0 ≡ 3 → 1 ≤ g → z' ≡ set z (g - 1) 0
  pub element : (get_or code (at + 3) 0 ≡ 3 → ⊥) → 1 ≤ g → get_or z (g - 1) 0 < 8 → z' ≡ set z (g - 1) (get_or z (g - 1) 0 + 1)

-- at most eight given sets of at most eight elements each
pub record Fewer (gs : List Given) : Type 0 where
  pub sets : length gs ≤ 8
  pub elements : (k : ℕ) → get_or (map size_of gs) k 0 ≤ 8

pub record GivenSeen (code : List ℕ) (T U : Names) (z : Sizes) (r : ℕ) : Type 0 where
  pub right : (gs : List Given) (i : ℕ) (ρ : Numbering) → code ≡ given_codes i gs ρ → Fewer gs → r ≡ givens_key gs 0 T ρ i
  pub named : (gs : List Given) (i : ℕ) (ρ : Numbering) → code ≡ given_codes i gs ρ → Fewer gs → r ≡ 0 → U ≡ givens_named gs 0 T ρ
  pub sized : (gs : List Given) (i : ℕ) (ρ : Numbering) → code ≡ given_codes i gs ρ → Fewer gs → r ≡ 0
      → (k : ℕ) → k < length gs → get_or z k 0 ≡ get_or (map size_of gs) k 0

-- the end of declarations, of a predicate, of an operation, each at the beginning of `code`
pub record DeclaredEnd (code : List ℕ) (r : ℕ) : Type 0 where
  pub within : r ≤ length code
  pub right : (xs : List Typed) (i : ℕ) (ρ : Numbering) (rest : List ℕ) → code ≡ typed_codes i xs ρ ++ rest → (get_or rest 3 0 ≡ 6 → ⊥) → r ≡ length (typed_codes i xs ρ)

pub record PredicateEnd (code : List ℕ) (r : ℕ) : Type 0 where
  pub within : r ≤ length code
  pub right : (p : Pred) (i : ℕ) (ρ : Numbering) (rest : List ℕ) → code ≡ condition_codes i p ρ ++ rest → r ≡ length (condition_codes i p ρ)

abbrev pub operation_code : (i : ℕ) → Operation → Numbering → List ℕ
operation_code i o ρ =
    node 8 i (number_of_name ρ o.title no_ending) 0
    ++ (parameter_codes (i + 2) o.parameters ρ
    ++ (condition_codes (abstractly_at i o) o.abstractly ρ ++ condition_codes (suc (abstractly_at i o) + pred_width o.abstractly) o.concretely ρ))

pub record OperationEnd (code : List ℕ) (r : ℕ) : Type 0 where
  pub behind : 4 ≤ r
  pub within : r ≤ length code
  pub right : (o : Operation) (i : ℕ) (ρ : Numbering) (rest : List ℕ) → code ≡ operation_code i o ρ ++ rest → r ≡ length (operation_code i o ρ)

-- a predicate with its node in front; a state
pub record ConditionSeen (code : List ℕ) (T U : Names) (z : Sizes) (r : ℕ) : Type 0 where
  pub kept : U ≡ T
  pub right : (p : Pred) (i : ℕ) (ρ : Numbering) → code ≡ condition_codes i p ρ → r ≡ pred_key p T ρ z i

pub record StateSeen (code : List ℕ) (T U : Names) (z : Sizes) (r : ℕ) : Type 0 where
  pub right : (s : State) (i : ℕ) (ρ : Numbering) → code ≡ state_codes i s ρ → r ≡ state_key s T ρ z i
  pub named : (s : State) (i : ℕ) (ρ : Numbering) → code ≡ state_codes i s ρ → r ≡ 0 → U ≡ state_named s T ρ

-- the variables of a state in reach, and out of reach; a predicate between
abbrev pub ReachingSeen : (variables : List ℕ) (T U : Names) → Type 0
ReachingSeen vs T U = (ds : List Declaration) (i : ℕ) (ρ : Numbering) → vs ≡ declaration_codes i ds ρ → U ≡ reaching ds T ρ

abbrev pub LeavingSeen : (variables : List ℕ) (T U : Names) → Type 0
LeavingSeen vs T U = (ds : List Declaration) (i : ℕ) (ρ : Numbering) → vs ≡ declaration_codes i ds ρ → U ≡ leaving ds T ρ

pub record SideSeen (code variables : List ℕ) (T U : Names) (z : Sizes) (r : ℕ) : Type 0 where
  pub right : (p : Pred) (ds : List Declaration) (i j : ℕ) (ρ : Numbering) → code ≡ condition_codes i p ρ → variables ≡ declaration_codes j ds ρ
      → r ≡ pred_key p (reaching ds T ρ) ρ z i
  pub named : (ds : List Declaration) (j : ℕ) (ρ : Numbering) → variables ≡ declaration_codes j ds ρ → U ≡ leaving ds (reaching ds T ρ) ρ

-- the nodes of the variables of both states
pub record Variables (av cv : List Declaration) (ρ : Numbering) (abstracts concretes : List ℕ) : Type 0 where
  pub i : ℕ
  pub j : ℕ
  pub first : abstracts ≡ declaration_codes i av ρ
  pub second : concretes ≡ declaration_codes j cv ρ

pub record SidesSeen (code abstracts concretes : List ℕ) (T U : Names) (z : Sizes) (r : ℕ) : Type 0 where
  pub right : (p q : Pred) (i j : ℕ) (av cv : List Declaration) (ρ : Numbering) → code ≡ condition_codes i p ρ ++ condition_codes j q ρ → Variables av cv ρ abstracts concretes
      → r ≡ inside_key (pred_key p (reaching av T ρ) ρ z i) (pred_key q (reaching cv (leaving av (reaching av T ρ) ρ) ρ) ρ z j)
  pub named : (p q : Pred) (i j : ℕ) (av cv : List Declaration) (ρ : Numbering) → code ≡ condition_codes i p ρ ++ condition_codes j q ρ → Variables av cv ρ abstracts concretes
      → r ≡ 0 → U ≡ leaving cv (reaching cv (leaving av (reaching av T ρ) ρ) ρ) ρ

pub record OperationSeen (code abstracts concretes : List ℕ) (T U : Names) (z : Sizes) (r : ℕ) : Type 0 where
  pub right : (o : Operation) (i : ℕ) (av cv : List Declaration) (ρ : Numbering) → code ≡ operation_code i o ρ → Variables av cv ρ abstracts concretes
      → r ≡ operation_key o av cv T ρ z i
  pub named : (o : Operation) (i : ℕ) (av cv : List Declaration) (ρ : Numbering) → code ≡ operation_code i o ρ → Variables av cv ρ abstracts concretes
      → r ≡ 0 → U ≡ operation_named o av cv T ρ

abbrev pub OperationsSeen : (code abstracts concretes : List ℕ) (T : Names) (z : Sizes) (r : ℕ) → Type 0
OperationsSeen code abstracts concretes T z r =
    (os : List Operation) (i : ℕ) (av cv : List Declaration) (ρ : Numbering)
    → code ≡ operation_codes i os ρ
    → Variables av cv ρ abstracts concretes
    → r ≡ operations_key os av cv T ρ z i

-- ainit, cinit and retrieve
abbrev pub three_codes : Dossier → Numbering → List ℕ
three_codes d ρ =
    condition_codes (ainit_at d + 2) d.ainit ρ
    ++ (condition_codes (cinit_at d + 2) d.cinit ρ ++ condition_codes (retrieve_at d + 2) d.retrieve ρ)

pub record ConditionsSeen (code abstracts concretes : List ℕ) (T U : Names) (z : Sizes) (r : ℕ) : Type 0 where
  pub right : (d : Dossier) (ρ : Numbering) → code ≡ three_codes d ρ → Variables (declarations d.abstract) (declarations d.concrete) ρ abstracts concretes
      → r ≡ conditions_key d T ρ z
  pub named : (d : Dossier) (ρ : Numbering) → code ≡ three_codes d ρ → Variables (declarations d.abstract) (declarations d.concrete) ρ abstracts concretes
      → r ≡ 0 → U ≡ conditions_named d T ρ

-- the variables of a state
abbrev pub VariablesOf : (code r : List ℕ) → Type 0
VariablesOf code r = (s : State) (i : ℕ) (ρ : Numbering) → code ≡ state_codes i s ρ → r ≡ declaration_codes (suc i) (declarations s) ρ

-- what stands behind the states
abbrev pub LaterSeen : (three last abstracts concretes : List ℕ) (T : Names) (z : Sizes) (r : ℕ) → Type 0
LaterSeen three last abstracts concretes T z r =
    (d : Dossier) (ρ : Numbering)
    → three ≡ three_codes d ρ
    → last ≡ operation_codes (operations_at d) d.operations ρ
    → abstracts ≡ state_codes (abstract_at d) d.abstract ρ
    → concretes ≡ state_codes (concrete_at d) d.concrete ρ
    → r ≡ inside_key (conditions_key d T ρ z) (operations_key d.operations (declarations d.abstract) (declarations d.concrete) (conditions_named d T ρ) ρ z (operations_at d))

-- the parts of a dossier stand between the places
pub record Placed (nodes : List ℕ) (m givens abstracts concretes ainit after : ℕ) (d : Dossier) (ρ : Numbering) : Type 0 where
  pub inside : m ≤ length nodes
  pub ordered : (givens ≤ abstracts) × (abstracts ≤ concretes) × (concretes ≤ ainit) × (ainit ≤ after) × (after ≤ m)
  pub given_part : take (abstracts - givens) (drop givens nodes) ≡ given_codes (givens_at d) d.givens ρ
  pub abstract_part : take (concretes - abstracts) (drop abstracts nodes) ≡ state_codes (abstract_at d) d.abstract ρ
  pub concrete_part : take (ainit - concretes) (drop concretes nodes) ≡ state_codes (concrete_at d) d.concrete ρ
  pub condition_part : take (after - ainit) (drop ainit nodes) ≡ three_codes d ρ
  pub operation_part : take (m - after) (drop after nodes) ≡ operation_codes (operations_at d) d.operations ρ

-- the whole pass, from a table of n names that are free
pub record CheckSeen (nodes : List ℕ) (m givens abstracts concretes ainit after n : ℕ) (z : Sizes) (r : ℕ) : Type 0 where
  pub right : (d : Dossier) (ρ : Numbering) → Placed nodes m givens abstracts concretes ainit after d ρ → Fewer d.givens
      → r ≡ dossier_key d (replicate n 0) ρ z
  pub sized : (d : Dossier) (ρ : Numbering) → Placed nodes m givens abstracts concretes ainit after d ρ → Fewer d.givens
      → givens_key d.givens 0 (replicate n 0) ρ (givens_at d) ≡ 0
      → (k : ℕ) → k < length d.givens → get_or z k 0 ≡ get_or (map size_of d.givens) k 0
