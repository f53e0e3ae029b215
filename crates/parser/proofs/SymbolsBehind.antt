-- What stands behind a tree's symbols does not change them: they are those of the tree alone, and then the others.
use mathlib.Core.Path.{◌≡◌, refl, ap, ◌∙◌, sym}
use mathlib.Core.Bool.{Bool, true, false}
use mathlib.Core.List.{List, [], ◌∷◌, ◌++◌}
use Rattle.lexical.specs.Kinds as kind
use Rattle.lexical.specs.Symbols as symbol
use Rattle.lexical.specs.Symbols.{no_ending, Symbol, fixed, numeral}
use Rattle.form.specs.Tree.{End, Range, Domain, given_set, range}
use Rattle.form.specs.Tree.{Term, number, name, group, prefix, binary, divided, listed, pairs, such, empty_set, empty_pairs, Items, only, also, Pairs, only_pair, also_pair}
use Rattle.form.specs.Tree.{Pred, truth, falsity, negation, paren, quantified, connected, compared, member, within, related}
use Rattle.form.specs.Tree.{TypeForm, given_type, power_type, range_type, arrow_type}
use Rattle.form.specs.Written.{prefix_kind, operator_kind, division_kind, connective_kind, quantifier_kind, comparison_kind, membership_kind}
use Rattle.form.specs.Written.{write_domain, write_term, write_pred, write_type}
use Rattle.form.proofs.PlainSymbols.{named, plain_minus, plain_end, plain_range, plain_domain, plain_term, plain_items, plain_pairs, plain_pred, plain_type}
use Rattle.form.proofs.PlainSymbols.{domain-plain, term-plain, pred-plain, type-plain}
use Rattle.form.proofs.Takes.{symbols_in}

end-behind : (e : End) (u v : List Symbol) → plain_end e (u ++ v) ≡ plain_end e u ++ v
end-behind e u v = on e.negative
  where
    on : (b : Bool) → plain_minus b (numeral e.magnitude ∷ (u ++ v)) ≡ plain_minus b (numeral e.magnitude ∷ u) ++ v
    on true = refl
    on false = refl

range-behind : (r : Range) (u v : List Symbol) → plain_range r (u ++ v) ≡ plain_range r u ++ v
range-behind r u v =
    ap (λ (l : List Symbol). plain_end r.lower (fixed kind.up_to ∷ l)) (end-behind r.upper u v)
    ∙ end-behind r.lower (fixed kind.up_to ∷ plain_end r.upper u) v

domain-behind : (t : Domain) (u v : List Symbol) → plain_domain t (u ++ v) ≡ plain_domain t u ++ v
domain-behind (given_set g) u v = refl
domain-behind (range r) u v = range-behind r u v

type-behind : (t : TypeForm) (u v : List Symbol) → plain_type t (u ++ v) ≡ plain_type t u ++ v
type-behind (given_type g) u v = refl
type-behind (power_type g) u v = refl
type-behind (range_type r) u v = range-behind r u v
type-behind (arrow_type a g h) u v = refl

mutual
  unfolding plain_term

  term-behind : (t : Term) (u v : List Symbol) → plain_term t (u ++ v) ≡ plain_term t u ++ v
  term-behind (number n) u v = refl
  term-behind (name x) u v = refl
  term-behind (group t) u v = ap (λ (l : List Symbol). fixed kind.open_bracket ∷ l) (term-behind t (fixed kind.close_bracket ∷ u) v)
  term-behind (prefix o t) u v = ap (λ (l : List Symbol). fixed (prefix_kind o) ∷ l) (term-behind t u v)
  term-behind (binary o s t) u v =
      ap (λ (l : List Symbol). plain_term s (fixed (operator_kind o) ∷ l)) (term-behind t u v) ∙ term-behind s (fixed (operator_kind o) ∷ plain_term t u) v
  term-behind (divided o t e) u v =
      ap (λ (l : List Symbol). plain_term t (fixed (division_kind o) ∷ l)) (end-behind e u v) ∙ term-behind t (fixed (division_kind o) ∷ plain_end e u) v
  term-behind (listed ts) u v = ap (λ (l : List Symbol). fixed kind.open_brace ∷ l) (items-behind ts (fixed kind.close_brace ∷ u) v)
  term-behind (pairs ts) u v = ap (λ (l : List Symbol). fixed kind.open_brace ∷ l) (pairs-behind ts (fixed kind.close_brace ∷ u) v)
  term-behind (such x g p) u v =
      ap (λ (l : List Symbol). fixed kind.open_brace ∷ named x no_ending ∷ fixed kind.colon ∷ symbol.name g ∷ fixed kind.bar ∷ l)
      (pred-behind p (fixed kind.close_brace ∷ u) v)
  term-behind (empty_set g) u v = refl
  term-behind (empty_pairs g h) u v = refl

  items-behind : (t : Items) (u v : List Symbol) → plain_items t (u ++ v) ≡ plain_items t u ++ v
  items-behind (only t) u v = term-behind t u v
  items-behind (also t ts) u v =
      ap (λ (l : List Symbol). plain_term t (fixed kind.comma ∷ l)) (items-behind ts u v) ∙ term-behind t (fixed kind.comma ∷ plain_items ts u) v

  pairs-behind : (t : Pairs) (u v : List Symbol) → plain_pairs t (u ++ v) ≡ plain_pairs t u ++ v
  pairs-behind (only_pair s t) u v =
      ap (λ (l : List Symbol). plain_term s (fixed kind.maplet ∷ l)) (term-behind t u v) ∙ term-behind s (fixed kind.maplet ∷ plain_term t u) v
  pairs-behind (also_pair s t ts) u v =
      ap (λ (l : List Symbol). plain_term s (fixed kind.maplet ∷ plain_term t (fixed kind.comma ∷ l))) (pairs-behind ts u v)
      ∙ ap (λ (l : List Symbol). plain_term s (fixed kind.maplet ∷ l)) (term-behind t (fixed kind.comma ∷ plain_pairs ts u) v)
      ∙ term-behind s (fixed kind.maplet ∷ plain_term t (fixed kind.comma ∷ plain_pairs ts u)) v

  pred-behind : (p : Pred) (u v : List Symbol) → plain_pred p (u ++ v) ≡ plain_pred p u ++ v
  pred-behind truth u v = refl
  pred-behind falsity u v = refl
  pred-behind (negation p) u v = ap (λ (l : List Symbol). fixed kind.NOT ∷ l) (pred-behind p u v)
  pred-behind (paren p) u v = ap (λ (l : List Symbol). fixed kind.open_paren ∷ l) (pred-behind p (fixed kind.close_paren ∷ u) v)
  pred-behind (quantified q x t p) u v =
      ap (λ (l : List Symbol). fixed kind.open_paren ∷ fixed (quantifier_kind q) ∷ named x no_ending ∷ fixed kind.colon ∷ l)
      (ap (λ (l : List Symbol). plain_domain t (fixed kind.spot ∷ l)) (pred-behind p (fixed kind.close_paren ∷ u) v)
      ∙ domain-behind t (fixed kind.spot ∷ plain_pred p (fixed kind.close_paren ∷ u)) v)
  pred-behind (connected o p q) u v =
      ap (λ (l : List Symbol). plain_pred p (fixed (connective_kind o) ∷ l)) (pred-behind q u v) ∙ pred-behind p (fixed (connective_kind o) ∷ plain_pred q u) v
  pred-behind (compared o s t) u v =
      ap (λ (l : List Symbol). plain_term s (fixed (comparison_kind o) ∷ l)) (term-behind t u v) ∙ term-behind s (fixed (comparison_kind o) ∷ plain_term t u) v
  pred-behind (member o s t) u v =
      ap (λ (l : List Symbol). plain_term s (fixed (membership_kind o) ∷ l)) (term-behind t u v) ∙ term-behind s (fixed (membership_kind o) ∷ plain_term t u) v
  pred-behind (within o t r) u v =
      ap (λ (l : List Symbol). plain_term t (fixed (membership_kind o) ∷ l)) (range-behind r u v) ∙ term-behind t (fixed (membership_kind o) ∷ plain_range r u) v
  pred-behind (related o r s t) u v =
      ap (λ (l : List Symbol). plain_term r (fixed kind.maplet ∷ plain_term s (fixed (membership_kind o) ∷ l))) (term-behind t u v)
      ∙ ap (λ (l : List Symbol). plain_term r (fixed kind.maplet ∷ l)) (term-behind s (fixed (membership_kind o) ∷ plain_term t u) v)
      ∙ term-behind r (fixed kind.maplet ∷ plain_term s (fixed (membership_kind o) ∷ plain_term t u)) v

-- the symbols that a tree is written with, and others behind them, by the plain writing
pub domain-on : (t : Domain) (u : List Symbol) → symbols_in (write_domain t []) ++ u ≡ plain_domain t u
domain-on t u = ap (λ (l : List Symbol). l ++ u) (domain-plain t []) ∙ sym (domain-behind t [] u)

pub term-on : (t : Term) (u : List Symbol) → symbols_in (write_term t 0 0 []) ++ u ≡ plain_term t u
term-on t u = ap (λ (l : List Symbol). l ++ u) (term-plain t 0 0 []) ∙ sym (term-behind t [] u)

pub pred-on : (p : Pred) (u : List Symbol) → symbols_in (write_pred p 0 0 []) ++ u ≡ plain_pred p u
pred-on p u = ap (λ (l : List Symbol). l ++ u) (pred-plain p 0 0 []) ∙ sym (pred-behind p [] u)

pub type-on : (t : TypeForm) (u : List Symbol) → symbols_in (write_type t []) ++ u ≡ plain_type t u
type-on t u = ap (λ (l : List Symbol). l ++ u) (type-plain t []) ∙ sym (type-behind t [] u)
