-- The symbols that a tree is written with, each with what it opens or counts: the depth of number 5, a bound name, the counts of number 6.
use Rattle.std.specs.Prelude.{Bool, true, false, List, [], ◌∷◌, map, ℕ, suc}
use Rattle.lexical.specs.Kinds as kind
use Rattle.lexical.specs.Kinds.{Kind}
use Rattle.lexical.specs.Symbols.{Name, Ending, no_ending, query, shriek, Symbol, fixed, numeral}
use Rattle.lexical.specs.Symbols as symbol
use Rattle.form.specs.Tree.{Letters, End, Range, Domain, given_set, range, Prefix, negate, size, dom, ran, Operator, plus, minus, union, without, times, inter, Division, quotient, remainder}
use Rattle.form.specs.Tree.{Connective, and, or, implies, iff, Quantifier, forall, exists, exists1, Comparison, equals, differs, less, at_most, Membership, is_in, not_in}
use Rattle.form.specs.Tree.{Term, number, name, group, prefix, binary, divided, listed, pairs, such, empty_set, empty_pairs, Items, only, also, Pairs, only_pair, also_pair}
use Rattle.form.specs.Tree.{Pred, truth, falsity, negation, paren, quantified, connected, compared, member, within, related}
use Rattle.form.specs.Tree.{Arrow, relation, partial, total, TypeForm, given_type, power_type, range_type, arrow_type, Declaration, Direction, inward, outward, Parameter, Given, State, Operation, Dossier}

-- 5 and 6: what a symbol opens (this depth), binds (this bound name in reach) or counts (this one of its list), the first being 1
pub data Mark : Type 0 where
  unmarked : Mark
  opens binds : ℕ → Mark
  -- given sets, elements of one, variables of a state, inputs, outputs, operations
  a_given an_element a_variable an_input an_output an_operation : ℕ → Mark

pub record Written : Type 0 where
  pub symbol : Symbol
  pub mark : Mark

-- a fixed symbol that opens nothing; one that opens the depth d; a symbol with its mark; a name's letters, plain
abbrev pub bare : Kind → Written
bare k = record { symbol = fixed k; mark = unmarked }

abbrev pub opening : Kind → ℕ → Written
opening k d = record { symbol = fixed k; mark = opens d }

abbrev pub used : Name → Written
used x = record { symbol = symbol.name x; mark = unmarked }

abbrev pub declared : Letters → Ending → Mark → Written
declared x e m = record { symbol = symbol.name (record { letters = x; ending = e }); mark = m }

abbrev pub digits : ℕ → Written
digits n = record { symbol = numeral n; mark = unmarked }

abbrev pub prefix_kind : Prefix → Kind
prefix_kind negate = kind.minus
prefix_kind size = kind.size
prefix_kind dom = kind.DOM
prefix_kind ran = kind.RAN

abbrev pub operator_kind : Operator → Kind
operator_kind plus = kind.plus
operator_kind minus = kind.minus
operator_kind union = kind.UNION
operator_kind without = kind.MINUS
operator_kind times = kind.times
operator_kind inter = kind.INTER

abbrev pub division_kind : Division → Kind
division_kind quotient = kind.DIV
division_kind remainder = kind.MOD

abbrev pub connective_kind : Connective → Kind
connective_kind and = kind.AND
connective_kind or = kind.OR
connective_kind implies = kind.implies
connective_kind iff = kind.iff

abbrev pub quantifier_kind : Quantifier → Kind
quantifier_kind forall = kind.FORALL
quantifier_kind exists = kind.EXISTS
quantifier_kind exists1 = kind.EXISTS1

abbrev pub comparison_kind : Comparison → Kind
comparison_kind equals = kind.equals
comparison_kind differs = kind.differs
comparison_kind less = kind.less
comparison_kind at_most = kind.at_most

abbrev pub membership_kind : Membership → Kind
membership_kind is_in = kind.IN
membership_kind not_in = kind.NOTIN

abbrev pub arrow_kind : Arrow → Kind
arrow_kind relation = kind.relation
arrow_kind partial = kind.partial
arrow_kind total = kind.total

-- "the - of a range end or divisor is none" of the pending prefixes
abbrev pub minus_of : Bool → List Written → List Written
minus_of true w = bare kind.minus ∷ w
minus_of false w = w

abbrev pub write_end : End → List Written → List Written
write_end e w = minus_of e.negative (digits e.magnitude ∷ w)

abbrev pub write_range : Range → List Written → List Written
write_range r w = write_end r.lower (bare kind.up_to ∷ write_end r.upper w)

abbrev pub write_domain : Domain → List Written → List Written
write_domain (given_set g) w = used g ∷ w
write_domain (range r) w = write_range r w

-- the mark of a connective at depth d, and the depth of its right side: "right sides of =>"
abbrev pub connective : Connective → ℕ → Written
connective and d = bare kind.AND
connective or d = bare kind.OR
connective implies d = opening kind.implies (suc d)
connective iff d = bare kind.iff

abbrev pub right_depth : Connective → ℕ → ℕ
right_depth and d = d
right_depth or d = d
right_depth implies d = suc d
right_depth iff d = d

-- a term or predicate inside d open ( [ {, pending prefixes and right sides of =>, with k bound names in reach; then w
unfoldable mutual
  pub write_term : Term → (d k : ℕ) → List Written → List Written
  write_term (number n) d k w = digits n ∷ w
  write_term (name x) d k w = used x ∷ w
  write_term (group t) d k w = opening kind.open_bracket (suc d) ∷ write_term t (suc d) k (bare kind.close_bracket ∷ w)
  write_term (prefix o t) d k w = opening (prefix_kind o) (suc d) ∷ write_term t (suc d) k w
  write_term (binary o t u) d k w = write_term t d k (bare (operator_kind o) ∷ write_term u d k w)
  write_term (divided o t e) d k w = write_term t d k (bare (division_kind o) ∷ write_end e w)
  write_term (listed ts) d k w = opening kind.open_brace (suc d) ∷ write_items ts (suc d) k (bare kind.close_brace ∷ w)
  write_term (pairs ts) d k w = opening kind.open_brace (suc d) ∷ write_pairs ts (suc d) k (bare kind.close_brace ∷ w)
  write_term (such x g p) d k w =
      opening kind.open_brace (suc d) ∷ declared x no_ending (binds (suc k)) ∷ bare kind.colon ∷ used g ∷ bare kind.bar
      ∷ write_pred p (suc d) (suc k) (bare kind.close_brace ∷ w)
  write_term (empty_set g) d k w = bare kind.EMPTY ∷ used g ∷ w
  write_term (empty_pairs g h) d k w = bare kind.EMPTY ∷ used g ∷ used h ∷ w

  pub write_items : Items → (d k : ℕ) → List Written → List Written
  write_items (only t) d k w = write_term t d k w
  write_items (also t ts) d k w = write_term t d k (bare kind.comma ∷ write_items ts d k w)

  pub write_pairs : Pairs → (d k : ℕ) → List Written → List Written
  write_pairs (only_pair t u) d k w = write_term t d k (bare kind.maplet ∷ write_term u d k w)
  write_pairs (also_pair t u ts) d k w = write_term t d k (bare kind.maplet ∷ write_term u d k (bare kind.comma ∷ write_pairs ts d k w))

  pub write_pred : Pred → (d k : ℕ) → List Written → List Written
  write_pred truth d k w = bare kind.TRUE ∷ w
  write_pred falsity d k w = bare kind.FALSE ∷ w
  write_pred (negation p) d k w = opening kind.NOT (suc d) ∷ write_pred p (suc d) k w
  write_pred (paren p) d k w = opening kind.open_paren (suc d) ∷ write_pred p (suc d) k (bare kind.close_paren ∷ w)
  write_pred (quantified q x t p) d k w =
      opening kind.open_paren (suc d) ∷ bare (quantifier_kind q) ∷ declared x no_ending (binds (suc k)) ∷ bare kind.colon
      ∷ write_domain t (bare kind.spot ∷ write_pred p (suc d) (suc k) (bare kind.close_paren ∷ w))
  write_pred (connected o p q) d k w = write_pred p d k (connective o d ∷ write_pred q (right_depth o d) k w)
  write_pred (compared o t u) d k w = write_term t d k (bare (comparison_kind o) ∷ write_term u d k w)
  write_pred (member o t u) d k w = write_term t d k (bare (membership_kind o) ∷ write_term u d k w)
  write_pred (within o t r) d k w = write_term t d k (bare (membership_kind o) ∷ write_range r w)
  write_pred (related o t u v) d k w = write_term t d k (bare kind.maplet ∷ write_term u d k (bare (membership_kind o) ∷ write_term v d k w))

unfoldable pub write_type : TypeForm → List Written → List Written
write_type (given_type g) w = used g ∷ w
write_type (power_type g) w = bare kind.POWER ∷ used g ∷ w
write_type (range_type r) w = write_range r w
write_type (arrow_type a g h) w = used g ∷ bare (arrow_kind a) ∷ used h ∷ w

-- contents entries `given NAME` and `op NAME`, each numbered by the mark, after n of them
unfoldable pub write_entries : Kind → (ℕ → Mark) → ℕ → List Letters → List Written → List Written
write_entries k m n [] w = w
write_entries k m n (x ∷ xs) w = bare k ∷ declared x no_ending (m (suc n)) ∷ write_entries k m (suc n) xs w

unfoldable pub write_elements : ℕ → List Letters → List Written → List Written
write_elements n [] w = w
write_elements n (x ∷ xs) w = declared x no_ending (an_element (suc n)) ∷ write_elements (suc n) xs w

-- `given NAME elements end`
unfoldable pub write_givens : ℕ → List Given → List Written → List Written
write_givens n [] w = w
write_givens n (g ∷ gs) w =
    bare kind.GIVEN ∷ declared g.title no_ending (a_given (suc n))
    ∷ write_elements 0 (g.first_element ∷ g.other_elements) (bare kind.END ∷ write_givens (suc n) gs w)

unfoldable pub write_declarations : ℕ → List Declaration → List Written → List Written
write_declarations n [] w = w
write_declarations n (d ∷ ds) w =
    declared d.declared no_ending (a_variable (suc n)) ∷ bare kind.colon ∷ write_type d.type (bare kind.semicolon ∷ write_declarations (suc n) ds w)

-- `where predicate end`
unfoldable pub write_where : Pred → List Written → List Written
write_where p w = bare kind.WHERE ∷ write_pred p 0 0 (bare kind.END ∷ w)

-- a state's body, after its heading
unfoldable pub write_state : State → List Written → List Written
write_state s w = write_declarations 0 (s.first_declaration ∷ s.other_declarations) (write_where s.predicate w)

abbrev pub ending_of : Direction → Ending
ending_of inward = query
ending_of outward = shriek

-- the mark of one more parameter after i inputs and o outputs, and how many of each there are then
abbrev pub parameter_mark : Direction → (i o : ℕ) → Mark
parameter_mark inward i o = an_input (suc i)
parameter_mark outward i o = an_output (suc o)

abbrev pub inputs_after : Direction → ℕ → ℕ
inputs_after inward i = suc i
inputs_after outward i = i

abbrev pub outputs_after : Direction → ℕ → ℕ
outputs_after inward o = o
outputs_after outward o = suc o

unfoldable pub write_parameters : (i o : ℕ) → List Parameter → List Written → List Written
write_parameters i o [] w = w
write_parameters i o (x ∷ xs) w =
    declared x.declaration.declared (ending_of x.direction) (parameter_mark x.direction i o) ∷ bare kind.colon
    ∷ write_type x.declaration.type (bare kind.semicolon ∷ write_parameters (inputs_after x.direction i) (outputs_after x.direction o) xs w)

-- `op NAME parameters abstract predicate concrete predicate end`
unfoldable pub write_operations : ℕ → List Operation → List Written → List Written
write_operations n [] w = w
write_operations n (o ∷ os) w =
    bare kind.OP ∷ declared o.title no_ending (an_operation (suc n))
    ∷ write_parameters 0 0 o.parameters (bare kind.ABSTRACT ∷ write_pred o.abstractly 0 0 (bare kind.CONCRETE
    ∷ write_pred o.concretely 0 0 (bare kind.END ∷ write_operations (suc n) os w)))

-- "Contents: zero or more `given NAME`, the five fixed words, zero or more `op NAME`, `end`."
unfoldable pub write_contents : Dossier → List Written → List Written
write_contents d w =
    bare kind.CONTENTS ∷ write_entries kind.GIVEN a_given 0 d.given_entries (bare kind.ABSTRACT ∷ bare kind.CONCRETE ∷ bare kind.AINIT ∷ bare kind.CINIT
    ∷ bare kind.RETRIEVE ∷ write_entries kind.OP an_operation 0 d.operation_entries (bare kind.END ∷ w))

-- "Bodies come in that sequence of kinds."
unfoldable pub written : Dossier → List Written
written d =
    write_contents d (write_givens 0 d.givens (bare kind.ABSTRACT ∷ write_state d.abstract (bare kind.CONCRETE ∷ write_state d.concrete (bare kind.AINIT
    ∷ write_where d.ainit (bare kind.CINIT ∷ write_where d.cinit (bare kind.RETRIEVE ∷ write_where d.retrieve (write_operations 0 d.operations [])))))))

-- the symbols alone
unfoldable pub symbols_of : Dossier → List Symbol
symbols_of d = map (λ (x : Written). x.symbol) (written d)
