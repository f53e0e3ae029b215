-- What may stand behind a term or a predicate, and how the symbols of a term begin.
use mathlib.Core.Path.{◌≡◌, refl}
use mathlib.Core.Bool.{false, ◌&&◌}
use mathlib.Core.List.{List, ◌∷◌}
use mathlib.Core.Option.{none}
use Prim.Native.Nat.{ℕ, suc, ◌≤◌, ◌<◌}
use native.Mathlib.Omega.{arith}
use Rattle.lexical.specs.Kinds as kind
use Rattle.lexical.specs.Kinds.{Kind, is, lookup, code_of}
use Rattle.lexical.specs.Symbols.{Ending, no_ending, prime, query, shriek, Symbol, fixed, numeral}
use Rattle.lexical.specs.Symbols as symbol
use Rattle.form.specs.Tree.{Prefix, negate, size, dom, ran, Operator, plus, minus, union, without, times, inter, Division, quotient, remainder}
use Rattle.form.specs.Tree.{Connective, and, or, implies, iff, Comparison, equals, differs, less, at_most, Membership, is_in, not_in}
use Rattle.form.specs.Tree.{Term, number, name, group, prefix, binary, divided, listed, pairs, such, empty_set, empty_pairs}
use Rattle.form.specs.Written.{Written, bare, operator_kind, division_kind, prefix_kind, connective_kind, comparison_kind, membership_kind, write_end, write_term}
use Rattle.form.specs.Form.{kind_at, operator_level, division_level, connective_level}
use Rattle.form.specs.Parse.{not_infix, infixes, connectives, quantifiers, is_term, begins, is_range}
use Rattle.form.proofs.Takes.{symbols_in}
use Rattle.form.proofs.ParseSteps.{first_of, is_name_kind, infix_level, binds_at}
use Rattle.form.proofs.ParsePredSteps.{join_level, join-connective}

-- a symbol of the kind k ends a term where only what binds at least as tightly as l goes on with it
pub record TermEnds (l : ℕ) (k : Kind) : Type 0 where
  pub level : infix_level (lookup infixes not_infix k) < l
  pub not_name : is_name_kind k ≡ false
  pub not_colon : is k kind.colon ≡ false
  pub not_up_to : is k kind.up_to ≡ false

-- the same of a predicate
pub record PredEnds (l : ℕ) (k : Kind) : Type 0 where
  pub level : join_level (lookup connectives none k) < l
  pub term : TermEnds 1 k

-- what ends a term or predicate at a level ends it above
pub ends_above : {l m : ℕ} {k : Kind} → l ≤ m → TermEnds l k → TermEnds m k
ends_above h e = record { level = omega arith; not_name = e.not_name; not_colon = e.not_colon; not_up_to = e.not_up_to }

pub pred-ends-above : {l m : ℕ} {k : Kind} → l ≤ m → PredEnds l k → PredEnds m k
pred-ends-above h e = record { level = omega arith; term = e.term }

-- a kind that is between no two terms, of no name and neither : nor .. ends a term at any level: so do the closing marks, `end` and `concrete`
closes : (k : Kind) → lookup infixes not_infix k ≡ not_infix → is_name_kind k ≡ false → is k kind.colon ≡ false → is k kind.up_to ≡ false → TermEnds 1 k
closes k e n c u = record { level = rw e (omega arith); not_name = n; not_colon = c; not_up_to = u }

pub bracket-ends : TermEnds 1 kind.close_bracket
unfolding lookup is code_of
bracket-ends = closes kind.close_bracket refl refl refl refl

pub comma-ends : TermEnds 1 kind.comma
unfolding lookup is code_of
comma-ends = closes kind.comma refl refl refl refl

pub maplet-ends : TermEnds 1 kind.maplet
unfolding lookup is code_of
maplet-ends = closes kind.maplet refl refl refl refl

pub brace-ends : PredEnds 1 kind.close_brace
unfolding lookup is code_of
brace-ends = record { level = omega arith; term = closes kind.close_brace refl refl refl refl }

pub paren-ends : PredEnds 1 kind.close_paren
unfolding lookup is code_of
paren-ends = record { level = omega arith; term = closes kind.close_paren refl refl refl refl }

pub end-ends : PredEnds 1 kind.END
unfolding lookup is code_of
end-ends = record { level = omega arith; term = closes kind.END refl refl refl refl }

pub concrete_ends : PredEnds 1 kind.CONCRETE
unfolding lookup is code_of
concrete_ends = record { level = omega arith; term = closes kind.CONCRETE refl refl refl refl }

-- An operator or division ends a term above its own level, and a connective a predicate; what stands between the terms of a predicate ends them at any level.
pub operator-ends : (o : Operator) → TermEnds (suc (operator_level o)) (operator_kind o)
unfolding lookup is code_of
operator-ends plus = record { level = omega arith; not_name = refl; not_colon = refl; not_up_to = refl }
operator-ends minus = record { level = omega arith; not_name = refl; not_colon = refl; not_up_to = refl }
operator-ends union = record { level = omega arith; not_name = refl; not_colon = refl; not_up_to = refl }
operator-ends without = record { level = omega arith; not_name = refl; not_colon = refl; not_up_to = refl }
operator-ends times = record { level = omega arith; not_name = refl; not_colon = refl; not_up_to = refl }
operator-ends inter = record { level = omega arith; not_name = refl; not_colon = refl; not_up_to = refl }

pub division-ends : (o : Division) → TermEnds (suc division_level) (division_kind o)
unfolding lookup is code_of
division-ends quotient = record { level = omega arith; not_name = refl; not_colon = refl; not_up_to = refl }
division-ends remainder = record { level = omega arith; not_name = refl; not_colon = refl; not_up_to = refl }

pub comparison-ends : (o : Comparison) → TermEnds 1 (comparison_kind o)
unfolding lookup is code_of
comparison-ends equals = closes kind.equals refl refl refl refl
comparison-ends differs = closes kind.differs refl refl refl refl
comparison-ends less = closes kind.less refl refl refl refl
comparison-ends at_most = closes kind.at_most refl refl refl refl

pub membership-ends : (o : Membership) → TermEnds 1 (membership_kind o)
unfolding lookup is code_of
membership-ends is_in = closes kind.IN refl refl refl refl
membership-ends not_in = closes kind.NOTIN refl refl refl refl

connective-ends : (o : Connective) → TermEnds 1 (connective_kind o)
unfolding lookup is code_of
connective-ends and = closes kind.AND refl refl refl refl
connective-ends or = closes kind.OR refl refl refl refl
connective-ends implies = closes kind.implies refl refl refl refl
connective-ends iff = closes kind.iff refl refl refl refl

pub connective-ends-pred : (o : Connective) → PredEnds (suc (connective_level o)) (connective_kind o)
connective-ends-pred o = record { level = rw (join-connective o) (omega arith); term = connective-ends o }

-- How the symbols of a term begin: not as another predicate, a quantifier, a bound name or a range.
pub record TermStart (v : List Symbol) : Type 0 where
  pub is_term : lookup begins is_term (first_of v) ≡ is_term
  pub unquantified : lookup quantifiers none (first_of v) ≡ none
  pub unbound : binds_at v ≡ false
  pub no_range : is_range v ≡ false
  -- and behind - not as a range
  pub no_upper : (is (kind_at v 0) kind.number && is (kind_at v 1) kind.up_to) ≡ false

-- each way for a term to begin
number-starts : (n l : ℕ) (v : List Symbol) → TermEnds l (first_of v) → TermStart (numeral n ∷ v)
unfolding lookup is code_of kind_at is_range
number-starts n l v e = record { is_term = refl; unquantified = refl; unbound = refl; no_range = e.not_up_to; no_upper = e.not_up_to }

name-starts : (x : List ℕ) (a : Ending) (l : ℕ) (v : List Symbol) → TermEnds l (first_of v) → TermStart (symbol.name (record { letters = x; ending = a }) ∷ v)
unfolding lookup is code_of kind_at is_range
name-starts x no_ending l v e = record { is_term = refl; unquantified = refl; unbound = e.not_colon; no_range = refl; no_upper = refl }
name-starts x prime l v e = record { is_term = refl; unquantified = refl; unbound = refl; no_range = refl; no_upper = refl }
name-starts x query l v e = record { is_term = refl; unquantified = refl; unbound = refl; no_range = refl; no_upper = refl }
name-starts x shriek l v e = record { is_term = refl; unquantified = refl; unbound = refl; no_range = refl; no_upper = refl }

prefix-starts : (o : Prefix) (v : List Symbol) → TermStart v → TermStart (fixed (prefix_kind o) ∷ v)
unfolding lookup is code_of kind_at is_range
prefix-starts negate v s = record { is_term = refl; unquantified = refl; unbound = refl; no_range = s.no_upper; no_upper = refl }
prefix-starts size v s = record { is_term = refl; unquantified = refl; unbound = refl; no_range = refl; no_upper = refl }
prefix-starts dom v s = record { is_term = refl; unquantified = refl; unbound = refl; no_range = refl; no_upper = refl }
prefix-starts ran v s = record { is_term = refl; unquantified = refl; unbound = refl; no_range = refl; no_upper = refl }

bracket-starts : (v : List Symbol) → TermStart (fixed kind.open_bracket ∷ v)
unfolding lookup is code_of kind_at is_range
bracket-starts v = record { is_term = refl; unquantified = refl; unbound = refl; no_range = refl; no_upper = refl }

brace-starts : (v : List Symbol) → TermStart (fixed kind.open_brace ∷ v)
unfolding lookup is code_of kind_at is_range
brace-starts v = record { is_term = refl; unquantified = refl; unbound = refl; no_range = refl; no_upper = refl }

empty-starts : (v : List Symbol) → TermStart (fixed kind.EMPTY ∷ v)
unfolding lookup is code_of kind_at is_range
empty-starts v = record { is_term = refl; unquantified = refl; unbound = refl; no_range = refl; no_upper = refl }

-- the symbols of every term begin so, before what ends it
pub term-starts : (t : Term) (l d k : ℕ) (w : List Written) → TermEnds l (first_of (symbols_in w)) → TermStart (symbols_in (write_term t d k w))
unfolding write_term
term-starts (number n) l d k w e = number-starts n l (symbols_in w) e
term-starts (name x) l d k w e = name-starts x.letters x.ending l (symbols_in w) e
term-starts (group t) l d k w e = bracket-starts _
term-starts (prefix o t) l d k w e = prefix-starts o _ (term-starts t l (suc d) k w e)
term-starts (binary o t u) l d k w e = term-starts t (suc (operator_level o)) d k (bare (operator_kind o) ∷ write_term u d k w) (operator-ends o)
term-starts (divided o t n) l d k w e = term-starts t (suc division_level) d k (bare (division_kind o) ∷ write_end n w) (division-ends o)
term-starts (listed ts) l d k w e = brace-starts _
term-starts (pairs ts) l d k w e = brace-starts _
term-starts (such x g p) l d k w e = brace-starts _
term-starts (empty_set g) l d k w e = empty-starts _
term-starts (empty_pairs g h) l d k w e = empty-starts _
