-- The symbols of a tree alone: they do not depend on the depth, on the bound names in reach or on the counts.
use mathlib.Core.Path.{◌≡◌, refl, ap, ◌∙◌}
use mathlib.Core.Bool.{Bool, true, false}
use mathlib.Core.List.{List, [], ◌∷◌}
use Prim.Native.Nat.{ℕ, suc}
use Rattle.lexical.specs.Kinds as kind
use Rattle.lexical.specs.Kinds.{Kind}
use Rattle.lexical.specs.Symbols as symbol
use Rattle.lexical.specs.Symbols.{Ending, no_ending, Symbol, fixed, numeral}
use Rattle.form.specs.Tree.{Letters, End, Range, Domain, given_set, range, and, or, implies, iff}
use Rattle.form.specs.Tree.{Term, number, name, group, prefix, binary, divided, listed, pairs, such, empty_set, empty_pairs, Items, only, also, Pairs, only_pair, also_pair}
use Rattle.form.specs.Tree.{Pred, truth, falsity, negation, paren, quantified, connected, compared, member, within, related}
use Rattle.form.specs.Tree.{TypeForm, given_type, power_type, range_type, arrow_type, Declaration, Parameter, Given, State, Operation, Dossier}
use Rattle.form.specs.Written.{Mark, Written, prefix_kind, operator_kind, division_kind, connective_kind, quantifier_kind, comparison_kind, membership_kind, arrow_kind}
use Rattle.form.specs.Written.{minus_of, write_end, write_range, write_domain, write_term, write_items, write_pairs, write_pred, write_type, write_entries, write_elements, write_givens}
use Rattle.form.specs.Written.{write_declarations, write_where, write_state, ending_of, write_parameters, write_operations, write_contents, written, symbols_of}
use Rattle.form.proofs.Takes.{symbols_in}

-- a name's symbol, from its letters and ending
abbrev pub named : Letters → Ending → Symbol
named x e = symbol.name (record { letters = x; ending = e })

abbrev pub plain_minus : Bool → List Symbol → List Symbol
plain_minus true w = fixed kind.minus ∷ w
plain_minus false w = w

abbrev pub plain_end : End → List Symbol → List Symbol
plain_end e w = plain_minus e.negative (numeral e.magnitude ∷ w)

abbrev pub plain_range : Range → List Symbol → List Symbol
plain_range r w = plain_end r.lower (fixed kind.up_to ∷ plain_end r.upper w)

abbrev pub plain_domain : Domain → List Symbol → List Symbol
plain_domain (given_set g) w = symbol.name g ∷ w
plain_domain (range r) w = plain_range r w

unfoldable mutual
  pub plain_term : Term → List Symbol → List Symbol
  plain_term (number n) w = numeral n ∷ w
  plain_term (name x) w = symbol.name x ∷ w
  plain_term (group t) w = fixed kind.open_bracket ∷ plain_term t (fixed kind.close_bracket ∷ w)
  plain_term (prefix o t) w = fixed (prefix_kind o) ∷ plain_term t w
  plain_term (binary o t u) w = plain_term t (fixed (operator_kind o) ∷ plain_term u w)
  plain_term (divided o t e) w = plain_term t (fixed (division_kind o) ∷ plain_end e w)
  plain_term (listed ts) w = fixed kind.open_brace ∷ plain_items ts (fixed kind.close_brace ∷ w)
  plain_term (pairs ts) w = fixed kind.open_brace ∷ plain_pairs ts (fixed kind.close_brace ∷ w)
  plain_term (such x g p) w =
      fixed kind.open_brace ∷ named x no_ending ∷ fixed kind.colon ∷ symbol.name g ∷ fixed kind.bar ∷ plain_pred p (fixed kind.close_brace ∷ w)
  plain_term (empty_set g) w = fixed kind.EMPTY ∷ symbol.name g ∷ w
  plain_term (empty_pairs g h) w = fixed kind.EMPTY ∷ symbol.name g ∷ symbol.name h ∷ w

  pub plain_items : Items → List Symbol → List Symbol
  plain_items (only t) w = plain_term t w
  plain_items (also t ts) w = plain_term t (fixed kind.comma ∷ plain_items ts w)

  pub plain_pairs : Pairs → List Symbol → List Symbol
  plain_pairs (only_pair t u) w = plain_term t (fixed kind.maplet ∷ plain_term u w)
  plain_pairs (also_pair t u ts) w = plain_term t (fixed kind.maplet ∷ plain_term u (fixed kind.comma ∷ plain_pairs ts w))

  pub plain_pred : Pred → List Symbol → List Symbol
  plain_pred truth w = fixed kind.TRUE ∷ w
  plain_pred falsity w = fixed kind.FALSE ∷ w
  plain_pred (negation p) w = fixed kind.NOT ∷ plain_pred p w
  plain_pred (paren p) w = fixed kind.open_paren ∷ plain_pred p (fixed kind.close_paren ∷ w)
  plain_pred (quantified q x t p) w =
      fixed kind.open_paren ∷ fixed (quantifier_kind q) ∷ named x no_ending ∷ fixed kind.colon ∷ plain_domain t (fixed kind.spot ∷ plain_pred p (fixed kind.close_paren ∷ w))
  plain_pred (connected o p q) w = plain_pred p (fixed (connective_kind o) ∷ plain_pred q w)
  plain_pred (compared o t u) w = plain_term t (fixed (comparison_kind o) ∷ plain_term u w)
  plain_pred (member o t u) w = plain_term t (fixed (membership_kind o) ∷ plain_term u w)
  plain_pred (within o t r) w = plain_term t (fixed (membership_kind o) ∷ plain_range r w)
  plain_pred (related o t u v) w = plain_term t (fixed kind.maplet ∷ plain_term u (fixed (membership_kind o) ∷ plain_term v w))

abbrev pub plain_type : TypeForm → List Symbol → List Symbol
plain_type (given_type g) w = symbol.name g ∷ w
plain_type (power_type g) w = fixed kind.POWER ∷ symbol.name g ∷ w
plain_type (range_type r) w = plain_range r w
plain_type (arrow_type a g h) w = symbol.name g ∷ fixed (arrow_kind a) ∷ symbol.name h ∷ w

abbrev pub plain_entries : Kind → List Letters → List Symbol → List Symbol
plain_entries k [] w = w
plain_entries k (x ∷ xs) w = fixed k ∷ named x no_ending ∷ plain_entries k xs w

abbrev pub plain_elements : List Letters → List Symbol → List Symbol
plain_elements [] w = w
plain_elements (x ∷ xs) w = named x no_ending ∷ plain_elements xs w

abbrev pub plain_givens : List Given → List Symbol → List Symbol
plain_givens [] w = w
plain_givens (g ∷ gs) w = fixed kind.GIVEN ∷ named g.title no_ending ∷ named g.first_element no_ending ∷ plain_elements g.other_elements (fixed kind.END ∷ plain_givens gs w)

abbrev pub plain_declarations : List Declaration → List Symbol → List Symbol
plain_declarations [] w = w
plain_declarations (d ∷ ds) w = named d.declared no_ending ∷ fixed kind.colon ∷ plain_type d.type (fixed kind.semicolon ∷ plain_declarations ds w)

abbrev pub plain_where : Pred → List Symbol → List Symbol
plain_where p w = fixed kind.WHERE ∷ plain_pred p (fixed kind.END ∷ w)

abbrev pub plain_state : State → List Symbol → List Symbol
plain_state s w = plain_declarations (s.first_declaration ∷ s.other_declarations) (plain_where s.predicate w)

abbrev pub plain_parameters : List Parameter → List Symbol → List Symbol
plain_parameters [] w = w
plain_parameters (x ∷ xs) w =
    named x.declaration.declared (ending_of x.direction) ∷ fixed kind.colon ∷ plain_type x.declaration.type (fixed kind.semicolon ∷ plain_parameters xs w)

abbrev pub plain_operations : List Operation → List Symbol → List Symbol
plain_operations [] w = w
plain_operations (o ∷ os) w =
    fixed kind.OP ∷ named o.title no_ending ∷ plain_parameters o.parameters (fixed kind.ABSTRACT ∷ plain_pred o.abstractly (fixed kind.CONCRETE
    ∷ plain_pred o.concretely (fixed kind.END ∷ plain_operations os w)))

-- a dossier's bodies
pub record Bodies : Type 0 where
  pub givens : List Given
  pub abstract : State
  pub concrete : State
  pub ainit : Pred
  pub cinit : Pred
  pub retrieve : Pred
  pub operations : List Operation

abbrev pub plain_bodies : Bodies → List Symbol → List Symbol
plain_bodies b w =
    plain_givens b.givens (fixed kind.ABSTRACT ∷ plain_state b.abstract (fixed kind.CONCRETE ∷ plain_state b.concrete (fixed kind.AINIT
    ∷ plain_where b.ainit (fixed kind.CINIT ∷ plain_where b.cinit (fixed kind.RETRIEVE ∷ plain_where b.retrieve (plain_operations b.operations w))))))

abbrev pub bodies_of : Dossier → Bodies
bodies_of d =
    record {
      givens = d.givens;
      abstract = d.abstract;
      concrete = d.concrete;
      ainit = d.ainit;
      cinit = d.cinit;
      retrieve = d.retrieve;
      operations = d.operations;
    }

-- contents entries of given sets and of operations, and bodies
abbrev pub plain_from : List Letters → List Letters → Bodies → List Symbol → List Symbol
plain_from gs os b w =
    plain_entries kind.GIVEN gs (fixed kind.ABSTRACT ∷ fixed kind.CONCRETE ∷ fixed kind.AINIT ∷ fixed kind.CINIT ∷ fixed kind.RETRIEVE
    ∷ plain_entries kind.OP os (fixed kind.END ∷ plain_bodies b w))

abbrev pub plain_dossier : Dossier → List Symbol → List Symbol
plain_dossier d w = fixed kind.CONTENTS ∷ plain_from d.given_entries d.operation_entries (bodies_of d) w

end-plain : (e : End) (w : List Written) → symbols_in (write_end e w) ≡ plain_end e (symbols_in w)
end-plain e w = at e.negative
  where
    at : (b : Bool) → symbols_in (minus_of b (record { symbol = numeral e.magnitude; mark = Mark.unmarked } ∷ w)) ≡ plain_minus b (numeral e.magnitude ∷ symbols_in w)
    at true = refl
    at false = refl

range-plain : (r : Range) (w : List Written) → symbols_in (write_range r w) ≡ plain_range r (symbols_in w)
range-plain r w = end-plain r.lower _ ∙ ap (λ (l : List Symbol). plain_end r.lower (fixed kind.up_to ∷ l)) (end-plain r.upper w)

pub domain-plain : (t : Domain) (w : List Written) → symbols_in (write_domain t w) ≡ plain_domain t (symbols_in w)
domain-plain (given_set g) w = refl
domain-plain (range r) w = range-plain r w

-- terms and predicates, at any depth and with any number of bound names in reach
mutual
  unfolding plain_term write_term

  pub term-plain : (t : Term) (d k : ℕ) (w : List Written) → symbols_in (write_term t d k w) ≡ plain_term t (symbols_in w)
  term-plain (number n) d k w = refl
  term-plain (name x) d k w = refl
  term-plain (group t) d k w = ap (λ (l : List Symbol). fixed kind.open_bracket ∷ l) (term-plain t _ _ _)
  term-plain (prefix o t) d k w = ap (λ (l : List Symbol). fixed (prefix_kind o) ∷ l) (term-plain t _ _ _)
  term-plain (binary o t u) d k w = term-plain t _ _ _ ∙ ap (λ (l : List Symbol). plain_term t (fixed (operator_kind o) ∷ l)) (term-plain u _ _ _)
  term-plain (divided o t e) d k w = term-plain t _ _ _ ∙ ap (λ (l : List Symbol). plain_term t (fixed (division_kind o) ∷ l)) (end-plain e w)
  term-plain (listed ts) d k w = ap (λ (l : List Symbol). fixed kind.open_brace ∷ l) (items-plain ts _ _ _)
  term-plain (pairs ts) d k w = ap (λ (l : List Symbol). fixed kind.open_brace ∷ l) (pairs-plain ts _ _ _)
  term-plain (such x g p) d k w =
      ap (λ (l : List Symbol). fixed kind.open_brace ∷ named x no_ending ∷ fixed kind.colon ∷ symbol.name g ∷ fixed kind.bar ∷ l) (pred-plain p _ _ _)
  term-plain (empty_set g) d k w = refl
  term-plain (empty_pairs g h) d k w = refl

  pub items-plain : (t : Items) (d k : ℕ) (w : List Written) → symbols_in (write_items t d k w) ≡ plain_items t (symbols_in w)
  items-plain (only t) d k w = term-plain t _ _ _
  items-plain (also t ts) d k w = term-plain t _ _ _ ∙ ap (λ (l : List Symbol). plain_term t (fixed kind.comma ∷ l)) (items-plain ts _ _ _)

  pub pairs-plain : (t : Pairs) (d k : ℕ) (w : List Written) → symbols_in (write_pairs t d k w) ≡ plain_pairs t (symbols_in w)
  pairs-plain (only_pair t u) d k w = term-plain t _ _ _ ∙ ap (λ (l : List Symbol). plain_term t (fixed kind.maplet ∷ l)) (term-plain u _ _ _)
  pairs-plain (also_pair t u ts) d k w =
      term-plain t _ _ _ ∙ ap (λ (l : List Symbol). plain_term t (fixed kind.maplet ∷ l)) (term-plain u _ _ _ ∙ ap (λ (l : List Symbol). plain_term u (fixed kind.comma ∷ l)) (pairs-plain ts _ _ _))

  pub pred-plain : (p : Pred) (d k : ℕ) (w : List Written) → symbols_in (write_pred p d k w) ≡ plain_pred p (symbols_in w)
  pred-plain truth d k w = refl
  pred-plain falsity d k w = refl
  pred-plain (negation p) d k w = ap (λ (l : List Symbol). fixed kind.NOT ∷ l) (pred-plain p _ _ _)
  pred-plain (paren p) d k w = ap (λ (l : List Symbol). fixed kind.open_paren ∷ l) (pred-plain p _ _ _)
  pred-plain (quantified q x t p) d k w =
      ap (λ (l : List Symbol). fixed kind.open_paren ∷ fixed (quantifier_kind q) ∷ named x no_ending ∷ fixed kind.colon ∷ l)
      (domain-plain t _ ∙ ap (λ (l : List Symbol). plain_domain t (fixed kind.spot ∷ l)) (pred-plain p _ _ _))
  pred-plain (connected and p q) d k w = pred-plain p _ _ _ ∙ ap (λ (l : List Symbol). plain_pred p (fixed kind.AND ∷ l)) (pred-plain q _ _ _)
  pred-plain (connected or p q) d k w = pred-plain p _ _ _ ∙ ap (λ (l : List Symbol). plain_pred p (fixed kind.OR ∷ l)) (pred-plain q _ _ _)
  pred-plain (connected implies p q) d k w = pred-plain p _ _ _ ∙ ap (λ (l : List Symbol). plain_pred p (fixed kind.implies ∷ l)) (pred-plain q _ _ _)
  pred-plain (connected iff p q) d k w = pred-plain p _ _ _ ∙ ap (λ (l : List Symbol). plain_pred p (fixed kind.iff ∷ l)) (pred-plain q _ _ _)
  pred-plain (compared o t u) d k w = term-plain t _ _ _ ∙ ap (λ (l : List Symbol). plain_term t (fixed (comparison_kind o) ∷ l)) (term-plain u _ _ _)
  pred-plain (member o t u) d k w = term-plain t _ _ _ ∙ ap (λ (l : List Symbol). plain_term t (fixed (membership_kind o) ∷ l)) (term-plain u _ _ _)
  pred-plain (within o t r) d k w = term-plain t _ _ _ ∙ ap (λ (l : List Symbol). plain_term t (fixed (membership_kind o) ∷ l)) (range-plain r w)
  pred-plain (related o t u v) d k w =
      term-plain t _ _ _ ∙ ap (λ (l : List Symbol). plain_term t (fixed kind.maplet ∷ l)) (term-plain u _ _ _ ∙ ap (λ (l : List Symbol). plain_term u (fixed (membership_kind o) ∷ l)) (term-plain v _ _ _))

pub type-plain : (t : TypeForm) (w : List Written) → symbols_in (write_type t w) ≡ plain_type t (symbols_in w)
unfolding write_type
type-plain (given_type g) w = refl
type-plain (power_type g) w = refl
type-plain (range_type r) w = range-plain r w
type-plain (arrow_type a g h) w = refl

entries-plain : (k : Kind) (m : ℕ → Mark) (n : ℕ) (xs : List Letters) (w : List Written) → symbols_in (write_entries k m n xs w) ≡ plain_entries k xs (symbols_in w)
unfolding write_entries
entries-plain k m n [] w = refl
entries-plain k m n (x ∷ xs) w = ap (λ (l : List Symbol). fixed k ∷ named x no_ending ∷ l) (entries-plain k m (suc n) xs w)

elements-plain : (n : ℕ) (xs : List Letters) (w : List Written) → symbols_in (write_elements n xs w) ≡ plain_elements xs (symbols_in w)
unfolding write_elements
elements-plain n [] w = refl
elements-plain n (x ∷ xs) w = ap (λ (l : List Symbol). named x no_ending ∷ l) (elements-plain (suc n) xs w)

givens-plain : (n : ℕ) (gs : List Given) (w : List Written) → symbols_in (write_givens n gs w) ≡ plain_givens gs (symbols_in w)
unfolding write_givens
givens-plain n [] w = refl
givens-plain n (g ∷ gs) w =
    ap (λ (l : List Symbol). fixed kind.GIVEN ∷ named g.title no_ending ∷ l)
    (elements-plain 0 (g.first_element ∷ g.other_elements) _
    ∙ ap (λ (l : List Symbol). named g.first_element no_ending ∷ plain_elements g.other_elements (fixed kind.END ∷ l)) (givens-plain (suc n) gs w))

declarations-plain : (n : ℕ) (ds : List Declaration) (w : List Written) → symbols_in (write_declarations n ds w) ≡ plain_declarations ds (symbols_in w)
unfolding write_declarations
declarations-plain n [] w = refl
declarations-plain n (d ∷ ds) w =
    ap (λ (l : List Symbol). named d.declared no_ending ∷ fixed kind.colon ∷ l)
    (type-plain d.type _ ∙ ap (λ (l : List Symbol). plain_type d.type (fixed kind.semicolon ∷ l)) (declarations-plain (suc n) ds w))

where-plain : (p : Pred) (w : List Written) → symbols_in (write_where p w) ≡ plain_where p (symbols_in w)
unfolding write_where
where-plain p w = ap (λ (l : List Symbol). fixed kind.WHERE ∷ l) (pred-plain p _ _ _)

state-plain : (s : State) (w : List Written) → symbols_in (write_state s w) ≡ plain_state s (symbols_in w)
unfolding write_state
state-plain s w =
    declarations-plain 0 (s.first_declaration ∷ s.other_declarations) _
    ∙ ap (plain_declarations (s.first_declaration ∷ s.other_declarations)) (where-plain s.predicate w)

parameters-plain : (i o : ℕ) (xs : List Parameter) (w : List Written) → symbols_in (write_parameters i o xs w) ≡ plain_parameters xs (symbols_in w)
unfolding write_parameters
parameters-plain i o [] w = refl
parameters-plain i o (x ∷ xs) w =
    ap (λ (l : List Symbol). named x.declaration.declared (ending_of x.direction) ∷ fixed kind.colon ∷ l)
    (type-plain x.declaration.type _ ∙ ap (λ (l : List Symbol). plain_type x.declaration.type (fixed kind.semicolon ∷ l)) (parameters-plain _ _ xs w))

operations-plain : (n : ℕ) (os : List Operation) (w : List Written) → symbols_in (write_operations n os w) ≡ plain_operations os (symbols_in w)
unfolding write_operations
operations-plain n [] w = refl
operations-plain n (o ∷ os) w =
    ap (λ (l : List Symbol). fixed kind.OP ∷ named o.title no_ending ∷ l)
    (parameters-plain 0 0 o.parameters _
    ∙ ap (λ (l : List Symbol). plain_parameters o.parameters (fixed kind.ABSTRACT ∷ l))
    (pred-plain o.abstractly _ _ _
    ∙ ap (λ (l : List Symbol). plain_pred o.abstractly (fixed kind.CONCRETE ∷ l))
    (pred-plain o.concretely _ _ _ ∙ ap (λ (l : List Symbol). plain_pred o.concretely (fixed kind.END ∷ l)) (operations-plain (suc n) os w))))

-- a dossier's symbols by the plain writing
pub dossier-plain : (d : Dossier) → symbols_of d ≡ plain_dossier d []
unfolding symbols_of written write_contents
dossier-plain d =
    ap (λ (l : List Symbol). fixed kind.CONTENTS ∷ l)
    (entries-plain kind.GIVEN Mark.a_given 0 d.given_entries _
    ∙ ap (λ (l : List Symbol). plain_entries kind.GIVEN d.given_entries (fixed kind.ABSTRACT ∷ fixed kind.CONCRETE ∷ fixed kind.AINIT ∷ fixed kind.CINIT ∷ fixed kind.RETRIEVE ∷ l))
    (entries-plain kind.OP Mark.an_operation 0 d.operation_entries _ ∙ ap (λ (l : List Symbol). plain_entries kind.OP d.operation_entries (fixed kind.END ∷ l))
    (givens-plain 0 d.givens _
    ∙ ap (λ (l : List Symbol). plain_givens d.givens (fixed kind.ABSTRACT ∷ l))
    (state-plain d.abstract _
    ∙ ap (λ (l : List Symbol). plain_state d.abstract (fixed kind.CONCRETE ∷ l))
    (state-plain d.concrete _
    ∙ ap (λ (l : List Symbol). plain_state d.concrete (fixed kind.AINIT ∷ l))
    (where-plain d.ainit _
    ∙ ap (λ (l : List Symbol). plain_where d.ainit (fixed kind.CINIT ∷ l))
    (where-plain d.cinit _
    ∙ ap (λ (l : List Symbol). plain_where d.cinit (fixed kind.RETRIEVE ∷ l))
    (where-plain d.retrieve _ ∙ ap (plain_where d.retrieve) (operations-plain 0 d.operations [])))))))))
