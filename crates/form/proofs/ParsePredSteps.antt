-- What each part of the reader of trees does, for predicates, at what it begins with.
use mathlib.Core.Path.{◌≡◌, refl}
use mathlib.Core.Bool.{Bool, true, false}
use mathlib.Core.List.{List, ◌∷◌}
use mathlib.Core.Option.{Option, none, some}
use Prim.Native.Nat.{ℕ, zero, suc, ◌≤◌, ◌<◌}
use borrow.Author.Tests.{le-leb, lt-leb}
use Rattle.lexical.specs.Kinds as kind
use Rattle.lexical.specs.Kinds.{is, lookup, code_of}
use Rattle.lexical.specs.Symbols.{no_ending, Symbol, fixed}
use Rattle.lexical.specs.Symbols as symbol
use Rattle.form.specs.Tree.{Letters, Range, Domain, given_set, range, Connective, and, or, implies, iff, Quantifier, forall, exists, exists1, Comparison, equals, differs, less, at_most, Membership, is_in, not_in}
use Rattle.form.specs.Tree.{Term, Pred, truth, falsity, negation, paren, quantified, connected, compared, member, within, related}
use Rattle.form.specs.Written.{Written, bare, connective_kind, quantifier_kind, comparison_kind, membership_kind, minus_of, digits, write_end, write_range, write_domain}
use Rattle.form.specs.Form.{kind_at, connective_level, right_level}
use Rattle.form.specs.Parse.{got, parse_term, parse_pred, parse_pred_rest, parse_unary, parse_paren, parse_atom, parse_range, parse_domain, is_range}
use Rattle.form.specs.Parse.{connectives, quantifiers, is_term, begins, compares, contains, maps, relations}
use Rattle.form.proofs.Takes.{symbols_in}
use Rattle.form.proofs.ParseSteps.{first_of, is_name_kind, name-kind, reads-range}

-- a predicate is one before connectives and what goes on behind it
pub pred-begins : (f l : ℕ) (p : Pred) (v w : List Symbol) → parse_unary f v ≡ got p w → parse_pred (suc f) l v ≡ parse_pred_rest f l p w
unfolding parse_pred
pred-begins f l p v w e = rw (parse_pred, e)

-- how tightly what stands between two predicates binds, 0 where nothing does
abbrev pub join_level : Option Connective → ℕ
join_level none = 0
join_level (some o) = connective_level o

-- Behind a predicate: what binds less tightly than the level ends it; a connective of the level goes on with it.
pub pred-stops : (f l : ℕ) (p : Pred) (w : List Symbol) → join_level (lookup connectives none (first_of w)) < l → parse_pred_rest f l p w ≡ got p w
unfolding parse_pred_rest kind_at
pred-stops zero l p w h = refl
pred-stops (suc f) l p w h = go (lookup connectives none (first_of w)) refl h
  where
    go : (i : Option Connective) → lookup connectives none (first_of w) ≡ i → join_level i < l → parse_pred_rest (suc f) l p w ≡ got p w
    go none e g = rw (parse_pred_rest, e)
    go (some o) e g = rw (parse_pred_rest, e, lt-leb l (connective_level o) g)

pub join-connective : (o : Connective) → lookup connectives none (connective_kind o) ≡ some o
unfolding lookup is code_of
join-connective and = refl
join-connective or = refl
join-connective implies = refl
join-connective iff = refl

pub rest-connective : (o : Connective) (f l : ℕ) (p q : Pred) (v w : List Symbol) → l ≤ connective_level o → parse_pred f (right_level o) v ≡ got q w
    → parse_pred_rest (suc f) l p (fixed (connective_kind o) ∷ v) ≡ parse_pred_rest f l (connected o p q) w
unfolding parse_pred_rest kind_at
rest-connective o f l p q v w h e = rw (parse_pred_rest, join-connective o, le-leb l (connective_level o) h, e)

-- What a predicate begins with, before connectives: `true`, `false`, `not`, (, a term.
pub unary-true : (f : ℕ) (w : List Symbol) → parse_unary (suc f) (fixed kind.TRUE ∷ w) ≡ got truth w
unfolding parse_unary lookup is code_of kind_at
unary-true f w = refl

pub unary-false : (f : ℕ) (w : List Symbol) → parse_unary (suc f) (fixed kind.FALSE ∷ w) ≡ got falsity w
unfolding parse_unary lookup is code_of kind_at
unary-false f w = refl

pub unary-not : (f : ℕ) (p : Pred) (v w : List Symbol) → parse_unary f v ≡ got p w → parse_unary (suc f) (fixed kind.NOT ∷ v) ≡ got (negation p) w
unfolding parse_unary lookup is code_of kind_at
unary-not f p v w e = rw (parse_unary, e)

pub unary-paren : (f : ℕ) (p : Pred) (v w : List Symbol) → parse_paren f v ≡ got p w → parse_unary (suc f) (fixed kind.open_paren ∷ v) ≡ got p w
unfolding parse_unary lookup is code_of kind_at
unary-paren f p v w e = e

pub unary-atom : (f : ℕ) (t : Term) (p : Pred) (u v w : List Symbol) → lookup begins is_term (first_of v) ≡ is_term → parse_term f 1 v ≡ got t u → parse_atom f t u ≡ got p w
    → parse_unary (suc f) v ≡ got p w
unfolding parse_unary kind_at
unary-atom f t p u v w b e h = rw (parse_unary, b, e, h)

-- the inside of ( ): a predicate, or a quantifier, its name, its domain and a predicate
pub paren-inside : (f : ℕ) (p : Pred) (v w : List Symbol) → lookup quantifiers none (first_of v) ≡ none → parse_pred f 1 v ≡ got p (fixed kind.close_paren ∷ w)
    → parse_paren (suc f) v ≡ got (paren p) w
unfolding parse_paren kind_at
paren-inside f p v w b e = rw (parse_paren, b, e)

quantifier-kind : (q : Quantifier) → lookup quantifiers none (quantifier_kind q) ≡ some q
unfolding lookup is code_of
quantifier-kind forall = refl
quantifier-kind exists = refl
quantifier-kind exists1 = refl

pub paren-quantified : (f : ℕ) (q : Quantifier) (x : Letters) (t : Domain) (p : Pred) (u v w : List Symbol) → parse_domain u ≡ got t (fixed kind.spot ∷ v)
    → parse_pred f 1 v ≡ got p (fixed kind.close_paren ∷ w)
    → parse_paren (suc f) (fixed (quantifier_kind q) ∷ symbol.name (record { letters = x; ending = no_ending }) ∷ fixed kind.colon ∷ u) ≡ got (quantified q x t p) w
unfolding parse_paren kind_at
paren-quantified f q x t p u v w e h = rw (parse_paren, quantifier-kind q, e, h)

-- behind the first term of a predicate: a comparison and a term; `in` or `notin` and a term or a range; |-> and a term, `in` or `notin`, a term
comparison-kind : (o : Comparison) → lookup relations maps (comparison_kind o) ≡ compares o
unfolding lookup is code_of
comparison-kind equals = refl
comparison-kind differs = refl
comparison-kind less = refl
comparison-kind at_most = refl

membership-kind : (o : Membership) → lookup relations maps (membership_kind o) ≡ contains o
unfolding lookup is code_of
membership-kind is_in = refl
membership-kind not_in = refl

pub atom-compared : (o : Comparison) (f : ℕ) (t u : Term) (v w : List Symbol) → parse_term f 1 v ≡ got u w
    → parse_atom (suc f) t (fixed (comparison_kind o) ∷ v) ≡ got (compared o t u) w
unfolding parse_atom kind_at
atom-compared o f t u v w e = rw (parse_atom, comparison-kind o, e)

pub atom-member : (o : Membership) (f : ℕ) (t u : Term) (v w : List Symbol) → is_range v ≡ false → parse_term f 1 v ≡ got u w
    → parse_atom (suc f) t (fixed (membership_kind o) ∷ v) ≡ got (member o t u) w
unfolding parse_atom kind_at
atom-member o f t u v w b e = rw (parse_atom, membership-kind o, b, e)

pub atom-within : (o : Membership) (f : ℕ) (t : Term) (r : Range) (v w : List Symbol) → is_range v ≡ true → parse_range v ≡ got r w
    → parse_atom (suc f) t (fixed (membership_kind o) ∷ v) ≡ got (within o t r) w
unfolding parse_atom kind_at
atom-within o f t r v w b e = rw (parse_atom, membership-kind o, b, e)

pub atom-related : (o : Membership) (f : ℕ) (t u s : Term) (v w x : List Symbol) → parse_term f 1 v ≡ got u (fixed (membership_kind o) ∷ w) → parse_term f 1 w ≡ got s x
    → parse_atom (suc f) t (fixed kind.maplet ∷ v) ≡ got (related o t u s) x
unfolding parse_atom lookup is code_of kind_at
atom-related is_in f t u s v w x e h = rw (parse_atom, e, h)
atom-related not_in f t u s v w x e h = rw (parse_atom, e, h)

-- how a range begins, and what the domain of a bound name is read as
range-tests : (b : Bool) (n : ℕ) (w : List Written) → (is_range (symbols_in (minus_of b (digits n ∷ bare kind.up_to ∷ w))) ≡ true)
    × (is_name_kind (first_of (symbols_in (minus_of b (digits n ∷ bare kind.up_to ∷ w)))) ≡ false)
    × (is (first_of (symbols_in (minus_of b (digits n ∷ bare kind.up_to ∷ w)))) kind.POWER ≡ false)
unfolding is_range lookup is code_of kind_at
range-tests true n w = (refl, refl, refl)
range-tests false n w = (refl, refl, refl)

pub range-starts : (r : Range) (w : List Written) → (is_range (symbols_in (write_range r w)) ≡ true) × (is_name_kind (first_of (symbols_in (write_range r w))) ≡ false)
    × (is (first_of (symbols_in (write_range r w))) kind.POWER ≡ false)
range-starts r w = range-tests r.lower.negative r.lower.magnitude (write_end r.upper w)

pub reads-domain : (t : Domain) (w : List Written) → parse_domain (symbols_in (write_domain t w)) ≡ got t (symbols_in w)
unfolding parse_domain kind_at
reads-domain (given_set g) w = rw (parse_domain, name-kind g.ending)
reads-domain (range r) w = rw (parse_domain, (range-starts r w).1, reads-range r w)
