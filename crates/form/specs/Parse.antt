-- The tree of symbols that are a dossier's, computed by reading them from left to right. It stands beside Form, and says nothing of other symbols.
use Rattle.std.specs.Prelude.{Bool, true, false, ◌&&◌, cond, List, [], ◌∷◌, ℕ, zero, suc, ◌+◌, ◌*◌, leb, length, drop}
use Rattle.std.proofs.Math.Option.{Option, none, some}
use Rattle.lexical.specs.Kinds as kind
use Rattle.lexical.specs.Kinds.{Kind, is, lookup}
use Rattle.lexical.specs.Symbols.{Name, no_ending, Symbol, fixed, numeral}
use Rattle.lexical.specs.Symbols as symbol
use Rattle.form.specs.Tree.{Letters, End, Range, Domain, given_set, range, Prefix, negate, size, dom, ran, Operator, plus, minus, union, without, times, inter, Division, quotient, remainder}
use Rattle.form.specs.Tree.{Connective, and, or, implies, iff, Quantifier, forall, exists, exists1, Comparison, equals, differs, less, at_most, Membership, is_in, not_in}
use Rattle.form.specs.Tree.{Term, number, name, group, prefix, binary, divided, listed, pairs, such, empty_set, empty_pairs, Items, only, also, Pairs, only_pair, also_pair}
use Rattle.form.specs.Tree.{Pred, truth, falsity, negation, paren, quantified, connected, compared, member, within, related}
use Rattle.form.specs.Tree.{Arrow, relation, partial, total, TypeForm, given_type, power_type, range_type, arrow_type, Declaration, inward, outward, Parameter, Given, State, Operation, Dossier}
use Rattle.form.specs.Form.{kind_at, operator_level, division_level, connective_level, right_level, Outcome, refused, formed}
use Rattle.form.specs.Machine.{Run, complete, failed, run}

-- a tree, and the symbols behind it
pub record Parsed (A : Type 0) : Type 0 where
  pub tree : A
  pub rest : List Symbol

abbrev pub got : {A : Type 0} → A → List Symbol → Parsed A
got t w = record { tree = t; rest = w }

abbrev first : List Symbol → Kind
first w = kind_at w 0

abbrev next : List Symbol → List Symbol
next w = drop 1 w

abbrev name_of : Symbol → Name
name_of (fixed k) = record { letters = []; ending = no_ending }
name_of (numeral n) = record { letters = []; ending = no_ending }
name_of (symbol.name x) = x

abbrev value_of : Symbol → ℕ
value_of (fixed k) = 0
value_of (numeral n) = n
value_of (symbol.name x) = 0

abbrev name_at : List Symbol → Name
name_at [] = record { letters = []; ending = no_ending }
name_at (s ∷ w) = name_of s

abbrev letters_at : List Symbol → Letters
letters_at w = (name_at w).letters

abbrev value_at : List Symbol → ℕ
value_at [] = 0
value_at (s ∷ w) = value_of s

unfoldable pub parse_end : List Symbol → Parsed End
parse_end w =
    cond (is (first w) kind.minus) (got (record { negative = true; magnitude = value_at (next w) }) (drop 2 w)) (got (record { negative = false; magnitude = value_at w }) (next w))

unfoldable pub parse_range : List Symbol → Parsed Range
parse_range w =
    let a : Parsed End = parse_end w in
    let b : Parsed End = parse_end (next a.rest) in
    got (record { lower = a.tree; upper = b.tree }) b.rest

abbrev is_name : Kind → Bool
is_name k = lookup ((kind.plain, true) ∷ (kind.primed, true) ∷ (kind.input, true) ∷ (kind.output, true) ∷ []) false k

-- a number and .. follow, the number with - or without
unfoldable pub is_range : List Symbol → Bool
is_range w = let v : List Symbol = cond (is (first w) kind.minus) (next w) w in is (first v) kind.number && is (kind_at v 1) kind.up_to

unfoldable pub parse_domain : List Symbol → Parsed Domain
parse_domain w =
    cond (is_name (first w)) (got (given_set (name_at w)) (next w)) (let r : Parsed Range = parse_range w in got (range r.tree) r.rest)

unfoldable pub parse_empty : List Symbol → Parsed Term
parse_empty w = cond (is_name (kind_at w 1)) (got (empty_pairs (name_at w) (name_at (next w))) (drop 2 w)) (got (empty_set (name_at w)) (next w))

-- what a term begins with, and what goes on with it
pub data Start : Type 0 where
  a_number a_name a_group a_brace an_empty : Start
  a_prefix : Prefix → Start

abbrev pub starts : List (Kind × Start)
starts = (kind.number, a_number) ∷ (kind.open_bracket, a_group) ∷ (kind.open_brace, a_brace) ∷ (kind.EMPTY, an_empty)
    ∷ (kind.minus, a_prefix negate) ∷ (kind.size, a_prefix size) ∷ (kind.DOM, a_prefix dom) ∷ (kind.RAN, a_prefix ran) ∷ []

pub data Infix : Type 0 where
  between : Operator → Infix
  divides : Division → Infix
  not_infix : Infix

abbrev pub infixes : List (Kind × Infix)
infixes = (kind.plus, between plus) ∷ (kind.minus, between minus) ∷ (kind.UNION, between union) ∷ (kind.MINUS, between without) ∷ (kind.times, between times)
    ∷ (kind.INTER, between inter) ∷ (kind.DIV, divides quotient) ∷ (kind.MOD, divides remainder) ∷ []

abbrev pub connectives : List (Kind × Option Connective)
connectives = (kind.AND, some and) ∷ (kind.OR, some or) ∷ (kind.implies, some implies) ∷ (kind.iff, some iff) ∷ []

abbrev pub quantifiers : List (Kind × Option Quantifier)
quantifiers = (kind.FORALL, some forall) ∷ (kind.EXISTS, some exists) ∷ (kind.EXISTS1, some exists1) ∷ []

pub data Begin : Type 0 where
  is_true is_false is_not is_paren is_term : Begin

abbrev pub begins : List (Kind × Begin)
begins = (kind.TRUE, is_true) ∷ (kind.FALSE, is_false) ∷ (kind.NOT, is_not) ∷ (kind.open_paren, is_paren) ∷ []

pub data Relation : Type 0 where
  compares : Comparison → Relation
  contains : Membership → Relation
  maps : Relation

abbrev pub relations : List (Kind × Relation)
relations = (kind.equals, compares equals) ∷ (kind.differs, compares differs) ∷ (kind.less, compares less) ∷ (kind.at_most, compares at_most)
    ∷ (kind.IN, contains is_in) ∷ (kind.NOTIN, contains not_in) ∷ []

abbrev membership : Kind → Membership
membership k = cond (is k kind.IN) is_in not_in

-- The first number bounds how deep the calls go. `parse_term_rest l t w` goes on behind t with operators that bind at least as tightly as l.
unfoldable mutual
  pub parse_term : ℕ → (l : ℕ) → List Symbol → Parsed Term
  parse_term zero l w = got (number 0) w
  parse_term (suc f) l w = let p : Parsed Term = parse_operand f w in parse_term_rest f l p.tree p.rest

  pub parse_term_rest : ℕ → (l : ℕ) → Term → List Symbol → Parsed Term
  parse_term_rest zero l t w = got t w
  parse_term_rest (suc f) l t w =
      elim (lookup infixes not_infix (first w)) [
        | not_infix ↦ got t w
        | divides o ↦ elim (leb l division_level) [ true ↦ let e : Parsed End = parse_end (next w) in parse_term_rest f l (divided o t e.tree) e.rest | false ↦ got t w ]
        | between o ↦
            elim (leb l (operator_level o)) [
              | true ↦ let p : Parsed Term = parse_term f (suc (operator_level o)) (next w) in parse_term_rest f l (binary o t p.tree) p.rest
              | false ↦ got t w
            ]
      ]

  pub parse_operand : ℕ → List Symbol → Parsed Term
  parse_operand zero w = got (number 0) w
  parse_operand (suc f) w =
      elim (lookup starts a_name (first w)) [
        | a_number ↦ got (number (value_at w)) (next w)
        | a_name ↦ got (name (name_at w)) (next w)
        | a_group ↦ let p : Parsed Term = parse_term f 1 (next w) in got (group p.tree) (next p.rest)
        | a_brace ↦ parse_brace f (next w)
        | an_empty ↦ parse_empty (next w)
        | a_prefix o ↦ let p : Parsed Term = parse_operand f (next w) in got (prefix o p.tree) p.rest
      ]

  pub parse_brace : ℕ → List Symbol → Parsed Term
  parse_brace zero w = got (number 0) w
  parse_brace (suc f) w =
      elim (is (first w) kind.plain && is (kind_at w 1) kind.colon) [
        | true ↦ let p : Parsed Pred = parse_pred f 1 (drop 4 w) in got (such (letters_at w) (name_at (drop 2 w)) p.tree) (next p.rest)
        | false ↦
            let p : Parsed Term = parse_term f 1 w in
            elim (is (first p.rest) kind.maplet) [
              | true ↦ let q : Parsed Pairs = parse_pairs f p.tree p.rest in got (pairs q.tree) (next q.rest)
              | false ↦ let q : Parsed Items = parse_items f p.tree p.rest in got (listed q.tree) (next q.rest)
            ]
      ]

  pub parse_items : ℕ → Term → List Symbol → Parsed Items
  parse_items zero t w = got (only t) w
  parse_items (suc f) t w =
      elim (is (first w) kind.comma) [
        | true ↦
            let p : Parsed Term = parse_term f 1 (next w) in
            let q : Parsed Items = parse_items f p.tree p.rest in
            got (also t q.tree) q.rest
        | false ↦ got (only t) w
      ]

  pub parse_pairs : ℕ → Term → List Symbol → Parsed Pairs
  parse_pairs zero t w = got (only_pair t t) w
  parse_pairs (suc f) t w =
      let u : Parsed Term = parse_term f 1 (next w) in
      elim (is (first u.rest) kind.comma) [
        | true ↦
            let p : Parsed Term = parse_term f 1 (next u.rest) in
            let q : Parsed Pairs = parse_pairs f p.tree p.rest in
            got (also_pair t u.tree q.tree) q.rest
        | false ↦ got (only_pair t u.tree) u.rest
      ]

  pub parse_pred : ℕ → (l : ℕ) → List Symbol → Parsed Pred
  parse_pred zero l w = got truth w
  parse_pred (suc f) l w = let p : Parsed Pred = parse_unary f w in parse_pred_rest f l p.tree p.rest

  pub parse_pred_rest : ℕ → (l : ℕ) → Pred → List Symbol → Parsed Pred
  parse_pred_rest zero l p w = got p w
  parse_pred_rest (suc f) l p w =
      elim (lookup connectives none (first w)) [
        | none ↦ got p w
        | some o ↦
            elim (leb l (connective_level o)) [
              | true ↦ let q : Parsed Pred = parse_pred f (right_level o) (next w) in parse_pred_rest f l (connected o p q.tree) q.rest
              | false ↦ got p w
            ]
      ]

  pub parse_unary : ℕ → List Symbol → Parsed Pred
  parse_unary zero w = got truth w
  parse_unary (suc f) w =
      elim (lookup begins is_term (first w)) [
        | is_true ↦ got truth (next w)
        | is_false ↦ got falsity (next w)
        | is_not ↦ let p : Parsed Pred = parse_unary f (next w) in got (negation p.tree) p.rest
        | is_paren ↦ parse_paren f (next w)
        | is_term ↦ let t : Parsed Term = parse_term f 1 w in parse_atom f t.tree t.rest
      ]

  pub parse_paren : ℕ → List Symbol → Parsed Pred
  parse_paren zero w = got truth w
  parse_paren (suc f) w =
      elim (lookup quantifiers none (first w)) [
        | none ↦ let p : Parsed Pred = parse_pred f 1 w in got (paren p.tree) (next p.rest)
        | some q ↦
            let t : Parsed Domain = parse_domain (drop 3 w) in
            let p : Parsed Pred = parse_pred f 1 (next t.rest) in
            got (quantified q (letters_at (next w)) t.tree p.tree) (next p.rest)
      ]

  pub parse_atom : ℕ → Term → List Symbol → Parsed Pred
  parse_atom zero t w = got truth w
  parse_atom (suc f) t w =
      elim (lookup relations maps (first w)) [
        | compares o ↦ let u : Parsed Term = parse_term f 1 (next w) in got (compared o t u.tree) u.rest
        | contains o ↦
            elim (is_range (next w)) [
              | true ↦ let r : Parsed Range = parse_range (next w) in got (within o t r.tree) r.rest
              | false ↦ let u : Parsed Term = parse_term f 1 (next w) in got (member o t u.tree) u.rest
            ]
        | maps ↦
            let u : Parsed Term = parse_term f 1 (next w) in
            let v : Parsed Term = parse_term f 1 (next u.rest) in
            got (related (membership (first u.rest)) t u.tree v.tree) v.rest
      ]

unfoldable pub arrow_of : Kind → Option Arrow
arrow_of k = lookup ((kind.relation, some relation) ∷ (kind.partial, some partial) ∷ (kind.total, some total) ∷ []) none k

abbrev type_rest : Option Arrow → List Symbol → Parsed TypeForm
type_rest none w = got (given_type (name_at w)) (next w)
type_rest (some a) w = got (arrow_type a (name_at w) (name_at (drop 2 w))) (drop 3 w)

unfoldable pub parse_type : List Symbol → Parsed TypeForm
parse_type w =
    cond (is (first w) kind.POWER) (got (power_type (name_at (next w))) (drop 2 w))
    (cond (is_name (first w)) (type_rest (arrow_of (kind_at w 1)) w) (let r : Parsed Range = parse_range w in got (range_type r.tree) r.rest))

-- `k NAME` again and again
unfoldable pub parse_entries : ℕ → Kind → List Symbol → Parsed (List Letters)
parse_entries zero k w = got [] w
parse_entries (suc f) k w =
    elim (is (first w) k) [
      | true ↦ let p : Parsed (List Letters) = parse_entries f k (drop 2 w) in got (letters_at (next w) ∷ p.tree) p.rest
      | false ↦ got [] w
    ]

unfoldable pub parse_elements : ℕ → List Symbol → Parsed (List Letters)
parse_elements zero w = got [] w
parse_elements (suc f) w =
    elim (is (first w) kind.plain) [
      | true ↦ let p : Parsed (List Letters) = parse_elements f (next w) in got (letters_at w ∷ p.tree) p.rest
      | false ↦ got [] w
    ]

unfoldable pub parse_givens : ℕ → List Symbol → Parsed (List Given)
parse_givens zero w = got [] w
parse_givens (suc f) w =
    elim (is (first w) kind.GIVEN) [
      | true ↦
          let e : Parsed (List Letters) = parse_elements f (drop 3 w) in
          let p : Parsed (List Given) = parse_givens f (next e.rest) in
          got (record { title = letters_at (next w); first_element = letters_at (drop 2 w); other_elements = e.tree } ∷ p.tree) p.rest
      | false ↦ got [] w
    ]

unfoldable pub parse_declaration : List Symbol → Parsed Declaration
parse_declaration w = let t : Parsed TypeForm = parse_type (drop 2 w) in got (record { declared = letters_at w; type = t.tree }) (next t.rest)

unfoldable pub parse_declarations : ℕ → List Symbol → Parsed (List Declaration)
parse_declarations zero w = got [] w
parse_declarations (suc f) w =
    elim (is (first w) kind.plain) [
      | true ↦
          let d : Parsed Declaration = parse_declaration w in
          let p : Parsed (List Declaration) = parse_declarations f d.rest in
          got (d.tree ∷ p.tree) p.rest
      | false ↦ got [] w
    ]

unfoldable pub parse_parameters : ℕ → List Symbol → Parsed (List Parameter)
parse_parameters zero w = got [] w
parse_parameters (suc f) w =
    elim (is (first w) kind.ABSTRACT) [
      | true ↦ got [] w
      | false ↦
          let d : Parsed Declaration = parse_declaration w in
          let p : Parsed (List Parameter) = parse_parameters f d.rest in
          got (record { direction = cond (is (first w) kind.input) inward outward; declaration = d.tree } ∷ p.tree) p.rest
    ]

-- `heading where predicate end`
unfoldable pub parse_where : ℕ → List Symbol → Parsed Pred
parse_where f w = let p : Parsed Pred = parse_pred f 1 (drop 2 w) in got p.tree (next p.rest)

-- `heading declarations where predicate end`
unfoldable pub parse_state : ℕ → List Symbol → Parsed State
parse_state f w =
    let d : Parsed Declaration = parse_declaration (next w) in
    let ds : Parsed (List Declaration) = parse_declarations f d.rest in
    let p : Parsed Pred = parse_pred f 1 (next ds.rest) in
    got (record { first_declaration = d.tree; other_declarations = ds.tree; predicate = p.tree }) (next p.rest)

unfoldable pub parse_operations : (f g : ℕ) → List Symbol → List Operation
parse_operations zero g w = []
parse_operations (suc f) g w =
    elim (is (first w) kind.OP) [
      | true ↦
          let x : Parsed (List Parameter) = parse_parameters g (drop 2 w) in
          let a : Parsed Pred = parse_pred g 1 (next x.rest) in
          let c : Parsed Pred = parse_pred g 1 (next a.rest) in
          record { title = letters_at (next w); parameters = x.tree; abstractly = a.tree; concretely = c.tree } ∷ parse_operations f g (next c.rest)
      | false ↦ []
    ]

unfoldable pub parse_dossier : ℕ → List Symbol → Dossier
parse_dossier f w =
    let es : Parsed (List Letters) = parse_entries f kind.GIVEN (next w) in
    let os : Parsed (List Letters) = parse_entries f kind.OP (drop 5 es.rest) in
    let gs : Parsed (List Given) = parse_givens f (next os.rest) in
    let a : Parsed State = parse_state f gs.rest in
    let c : Parsed State = parse_state f a.rest in
    let i : Parsed Pred = parse_where f c.rest in
    let j : Parsed Pred = parse_where f i.rest in
    let r : Parsed Pred = parse_where f j.rest in
    record {
      given_entries = es.tree;
      operation_entries = os.tree;
      givens = gs.tree;
      abstract = a.tree;
      concrete = c.tree;
      ainit = i.tree;
      cinit = j.tree;
      retrieve = r.tree;
      operations = parse_operations f f r.rest;
    }

abbrev pub outcome_of : List Symbol → Run → Outcome
outcome_of w complete = formed (parse_dossier (4 * length w + 4) w)
outcome_of w (failed i r) = refused i r

-- the pass computed: `FormOf w (form w)` for the symbols of every text (proofs/FormOf.antt)
unfoldable pub form : List Symbol → Outcome
form w = outcome_of w (run w)
