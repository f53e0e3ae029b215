-- The nodes that the form pass leaves of a dossier, four numbers a node, in the order of the text; in terms and predicates a node stands behind those of its
-- parts. Places are numbers of symbols, and i is that of the first one. ρ numbers the letters of names. Brackets leave nothing.
use Rattle.std.specs.Prelude.{Bool, true, false, cond, List, [], ◌∷◌, ◌++◌, ℕ, suc, ◌+◌, ◌-◌, ◌*◌, length}
use Rattle.lexical.specs.Kinds as kind
use Rattle.lexical.specs.Kinds.{code_of}
use Rattle.lexical.specs.Symbols.{Name, Ending, no_ending, prime, query, shriek}
use Rattle.form.specs.Tree.{Letters, End, Range, Domain, given_set, range, Division, quotient, remainder}
use Rattle.form.specs.Tree.{Term, number, name, group, prefix, binary, divided, listed, pairs, such, empty_set, empty_pairs, Items, only, also, Pairs, only_pair, also_pair}
use Rattle.form.specs.Tree.{Pred, truth, falsity, negation, paren, quantified, connected, compared, member, within, related}
use Rattle.form.specs.Tree.{Arrow, relation, partial, total, TypeForm, given_type, power_type, range_type, arrow_type, Declaration, declarations, Parameter, Given, elements, State, Operation, Dossier}
use Rattle.form.specs.Written.{prefix_kind, operator_kind, connective_kind, quantifier_kind, comparison_kind, membership_kind, ending_of}
use Rattle.form.specs.Written.{write_term, write_pred, write_domain, write_type, write_entries, a_given, write_declarations, write_parameters}
use Rattle.form.specs.Headings.{givens_at, abstract_at, concrete_at, ainit_at, cinit_at, retrieve_at, operations_at, given_length, operation_length}

-- what a node is, its symbol, and two numbers
abbrev pub node : (shape place a b : ℕ) → List ℕ
node k i a b = b ∷ a ∷ i ∷ k ∷ []

abbrev pub Numbering : Type 0
Numbering = Letters → ℕ

abbrev pub ending_number : Ending → ℕ
ending_number no_ending = 0
ending_number prime = 1
ending_number query = 2
ending_number shriek = 3

-- the number of a name
unfoldable pub number_of_name : Numbering → Letters → Ending → ℕ
number_of_name ρ x e = 4 * ρ x + ending_number e

abbrev pub name_number : Numbering → Name → ℕ
name_number ρ x = number_of_name ρ x.letters x.ending

-- how many symbols a tree has
unfoldable pub term_width : Term → ℕ
term_width t = length (write_term t 0 0 [])

unfoldable pub pred_width : Pred → ℕ
pred_width p = length (write_pred p 0 0 [])

abbrev pub end_width : End → ℕ
end_width e = cond e.negative 2 1

-- the end of a range, plus 1,000; a divisor's sign
abbrev pub end_number : End → ℕ
end_number e = cond e.negative (1000 - e.magnitude) (1000 + e.magnitude)

abbrev pub sign_of : Bool → ℕ
sign_of true = 1
sign_of false = 0

abbrev pub division_number : Division → ℕ
division_number quotient = 0
division_number remainder = 2

-- the place of the .., and the two ends
abbrev pub range_codes : Range → ℕ → List ℕ
range_codes r i = node 2 (i + end_width r.lower) (end_number r.lower) (end_number r.upper)

abbrev pub domain_codes : Domain → ℕ → Numbering → List ℕ
domain_codes (given_set g) i ρ = node 1 i (name_number ρ g) 0
domain_codes (range r) i ρ = range_codes r i

unfoldable pub domain_width : Domain → ℕ
domain_width d = length (write_domain d [])

unfoldable mutual
  pub term_codes : Term → (i : ℕ) → Numbering → List ℕ
  term_codes (number n) i ρ = node 1 i n 0
  term_codes (name x) i ρ = node 2 i (name_number ρ x) 0
  term_codes (group t) i ρ = term_codes t (suc i) ρ
  term_codes (prefix o t) i ρ = term_codes t (suc i) ρ ++ node 3 i (code_of (prefix_kind o)) 0
  term_codes (divided o t e) i ρ = term_codes t i ρ ++ node 4 (i + term_width t) e.magnitude (sign_of e.negative + division_number o)
  term_codes (binary o t u) i ρ = term_codes t i ρ ++ (term_codes u (suc (i + term_width t)) ρ ++ node 5 (i + term_width t) (code_of (operator_kind o)) 0)
  term_codes (such x g p) i ρ = pred_codes p (i + 5) ρ ++ (node 1 (i + 3) (name_number ρ g) 0 ++ node 6 i (number_of_name ρ x no_ending) 0)
  term_codes (listed ts) i ρ = items_codes ts (suc i) ρ ++ node 7 i 0 0
  term_codes (pairs ts) i ρ = pairs_codes ts (suc i) ρ ++ node 8 i 0 0
  term_codes (empty_set g) i ρ = node 9 i (name_number ρ g) 0
  term_codes (empty_pairs g h) i ρ = node 10 i (name_number ρ g) (name_number ρ h)

  pub items_codes : Items → (i : ℕ) → Numbering → List ℕ
  items_codes (only t) i ρ = term_codes t i ρ ++ node 1 0 0 0
  items_codes (also t ts) i ρ = term_codes t i ρ ++ (items_codes ts (suc (i + term_width t)) ρ ++ node 2 0 0 0)

  pub pairs_codes : Pairs → (i : ℕ) → Numbering → List ℕ
  pairs_codes (only_pair t u) i ρ = term_codes t i ρ ++ (term_codes u (suc (i + term_width t)) ρ ++ node 1 0 0 0)
  pairs_codes (also_pair t u ts) i ρ =
      term_codes t i ρ
      ++ (term_codes u (suc (i + term_width t)) ρ ++ (pairs_codes ts (suc (suc (i + term_width t) + term_width u)) ρ ++ node 2 0 0 0))

  pub pred_codes : Pred → (i : ℕ) → Numbering → List ℕ
  pred_codes truth i ρ = node 1 i (code_of kind.TRUE) 0
  pred_codes falsity i ρ = node 1 i (code_of kind.FALSE) 0
  pred_codes (negation p) i ρ = pred_codes p (suc i) ρ ++ node 2 i 0 0
  pred_codes (paren p) i ρ = pred_codes p (suc i) ρ
  pred_codes (connected o p q) i ρ = pred_codes p i ρ ++ (pred_codes q (suc (i + pred_width p)) ρ ++ node 3 (i + pred_width p) (code_of (connective_kind o)) 0)
  pred_codes (compared o t u) i ρ = term_codes t i ρ ++ (term_codes u (suc (i + term_width t)) ρ ++ node 4 (i + term_width t) (code_of (comparison_kind o)) 0)
  pred_codes (member o t u) i ρ = term_codes t i ρ ++ (term_codes u (suc (i + term_width t)) ρ ++ node 5 (i + term_width t) (code_of (membership_kind o)) 0)
  pred_codes (within o t r) i ρ = term_codes t i ρ ++ (range_codes r (suc (i + term_width t)) ++ node 6 (i + term_width t) (code_of (membership_kind o)) 0)
  pred_codes (related o t u v) i ρ =
      term_codes t i ρ
      ++ (term_codes u (suc (i + term_width t)) ρ
      ++ (term_codes v (suc (suc (i + term_width t) + term_width u)) ρ ++ node 7 (suc (i + term_width t) + term_width u) (code_of (membership_kind o)) 0))
  pred_codes (quantified q x t p) i ρ =
      pred_codes p (i + 5 + domain_width t) ρ
      ++ (domain_codes t (i + 4) ρ ++ node 8 (suc i) (number_of_name ρ x no_ending) (code_of (quantifier_kind q)))

abbrev pub arrow_number : Arrow → ℕ
arrow_number relation = 4
arrow_number partial = 5
arrow_number total = 6

abbrev pub type_codes : TypeForm → (i : ℕ) → Numbering → List ℕ
type_codes (given_type g) i ρ = node 1 i (name_number ρ g) 0
type_codes (range_type r) i ρ = range_codes r i
type_codes (power_type g) i ρ = node 3 i (name_number ρ g) 0
type_codes (arrow_type a g h) i ρ = node (arrow_number a) i (name_number ρ g) (name_number ρ h)

unfoldable pub type_width : TypeForm → ℕ
type_width t = length (write_type t [])

-- 1 an entry `given NAME` of the contents, 2 an entry `op NAME`: the name
unfoldable pub entry_codes : (shape i : ℕ) → List Letters → Numbering → List ℕ
entry_codes k i [] ρ = []
entry_codes k i (x ∷ xs) ρ = node k (suc i) (number_of_name ρ x no_ending) 0 ++ entry_codes k (i + 2) xs ρ

-- 4 an element
unfoldable pub element_codes : (i : ℕ) → List Letters → Numbering → List ℕ
element_codes i [] ρ = []
element_codes i (x ∷ xs) ρ = node 4 i (number_of_name ρ x no_ending) 0 ++ element_codes (suc i) xs ρ

-- 3 a given set's body, at its heading
unfoldable pub given_codes : (i : ℕ) → List Given → Numbering → List ℕ
given_codes i [] ρ = []
given_codes i (g ∷ gs) ρ = node 3 i (number_of_name ρ g.title no_ending) 0 ++ (element_codes (i + 2) (elements g) ρ ++ given_codes (i + given_length g) gs ρ)

-- 6 a declared name, and then its type
abbrev pub declaration_code : (i : ℕ) → Ending → Declaration → Numbering → List ℕ
declaration_code i e d ρ = node 6 i (number_of_name ρ d.declared e) 0 ++ type_codes d.type (i + 2) ρ

unfoldable pub declaration_codes : (i : ℕ) → List Declaration → Numbering → List ℕ
declaration_codes i [] ρ = []
declaration_codes i (d ∷ ds) ρ = declaration_code i no_ending d ρ ++ declaration_codes (i + 3 + type_width d.type) ds ρ

unfoldable pub parameter_codes : (i : ℕ) → List Parameter → Numbering → List ℕ
parameter_codes i [] ρ = []
parameter_codes i (x ∷ xs) ρ =
    declaration_code i (ending_of x.direction) x.declaration ρ ++ parameter_codes (i + 3 + type_width x.declaration.type) xs ρ

-- 7 a predicate: how many numbers its nodes have, and then they
unfoldable pub condition_codes : (i : ℕ) → Pred → Numbering → List ℕ
condition_codes i p ρ = node 7 i (length (pred_codes p i ρ)) 0 ++ pred_codes p i ρ

-- 5 a state's body, at its heading
unfoldable pub state_codes : (i : ℕ) → State → Numbering → List ℕ
state_codes i s ρ =
    node 5 i 0 0
    ++ (declaration_codes (suc i) (declarations s) ρ
    ++ condition_codes (i + 2 + length (write_declarations 0 (declarations s) [])) s.predicate ρ)

-- 8 an operation's body, at its heading
abbrev pub abstractly_at : (i : ℕ) → Operation → ℕ
abstractly_at i o = i + 3 + length (write_parameters 0 0 o.parameters [])

unfoldable pub operation_codes : (i : ℕ) → List Operation → Numbering → List ℕ
operation_codes i [] ρ = []
operation_codes i (o ∷ os) ρ =
    node 8 i (number_of_name ρ o.title no_ending) 0
    ++ (parameter_codes (i + 2) o.parameters ρ
    ++ (condition_codes (abstractly_at i o) o.abstractly ρ
    ++ (condition_codes (suc (abstractly_at i o) + pred_width o.abstractly) o.concretely ρ ++ operation_codes (i + operation_length o) os ρ)))

unfoldable pub contents_codes : Dossier → Numbering → List ℕ
contents_codes d ρ =
    entry_codes 1 1 d.given_entries ρ
    ++ entry_codes 2 (6 + length (write_entries kind.GIVEN a_given 0 d.given_entries [])) d.operation_entries ρ

unfoldable pub dossier_codes : Dossier → Numbering → List ℕ
dossier_codes d ρ =
    contents_codes d ρ
    ++ (given_codes (givens_at d) d.givens ρ
    ++ (state_codes (abstract_at d) d.abstract ρ
    ++ (state_codes (concrete_at d) d.concrete ρ
    ++ (condition_codes (ainit_at d + 2) d.ainit ρ
    ++ (condition_codes (cinit_at d + 2) d.cinit ρ
    ++ (condition_codes (retrieve_at d + 2) d.retrieve ρ ++ operation_codes (operations_at d) d.operations ρ))))))
