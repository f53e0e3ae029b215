-- Predicates, read: each kind of predicate, and the set {x : G | p}, from how its parts are read.
use mathlib.Core.Path.{◌≡◌, refl, ◌∙◌}
use mathlib.Core.List.{List, ◌∷◌}
use mathlib.Core.Option.{none}
use Prim.Native.Nat.{ℕ, zero, suc, ◌+◌, ◌*◌, ◌≤◌, ◌<◌}
use native.Mathlib.Omega.{arith}
use lib.ListN.{length}
use Rattle.lexical.specs.Kinds as kind
use Rattle.lexical.specs.Kinds.{is, lookup, code_of}
use Rattle.lexical.specs.Symbols.{Name, Symbol}
use Rattle.form.specs.Tree.{Letters, Domain, given_set, range, Connective, and, or, implies, iff, Quantifier}
use Rattle.form.specs.Tree.{such, Pred, truth, falsity, negation, paren, quantified, connected, compared, member, within, related}
use Rattle.form.specs.Written.{Written, bare, write_domain, write_term, write_pred}
use Rattle.form.specs.Form.{connective_level, not_level, pred_level, left_level, right_level}
use Rattle.form.specs.Parse.{got, parse_pred, parse_pred_rest, parse_unary, quantifiers}
use Rattle.form.proofs.Takes.{symbols_in}
use Rattle.form.proofs.ParseSteps.{first_of, operand-brace, brace-such}
use Rattle.form.proofs.ParsePredSteps.{pred-begins, pred-stops, unary-true, unary-false, unary-not, unary-paren, paren-inside, paren-quantified}
use Rattle.form.proofs.ParsePredSteps.{reads-domain}
use Rattle.form.proofs.ParseStarts.{TermEnds, PredEnds, pred-ends-above, paren-ends, brace-ends}
use Rattle.form.proofs.ParseTerms.{TermRead, Operand, from-operand, range-fits}

-- the least level that would go on with a predicate's last part, above all where none would
abbrev pub tail_level : Pred → ℕ
tail_level truth = 7
tail_level falsity = 7
tail_level (negation p) = 7
tail_level (paren p) = 7
tail_level (quantified q x t p) = 7
tail_level (connected o p q) = right_level o
tail_level (compared o t u) = 7
tail_level (member o t u) = 7
tail_level (within o t r) = 7
tail_level (related o t u v) = 7

-- reading the symbols v at the level l with the bound f, of a predicate with n symbols: p is read, and the reader goes on behind it at w
pub record PredSpine (n f l : ℕ) (p : Pred) (v w : List Symbol) : Type 0 where
  pub bound : ℕ
  pub enough : f ≤ bound + n
  pub reads : parse_pred f l v ≡ parse_pred_rest bound l p w

-- A predicate's symbols, `count` of them or more, are read as the predicate, with a bound of two for each symbol: by `unary` where it stands before
-- connectives, with one less; by `spine` at each level up to its own, before what ends its last part. They do not begin with a quantifier.
pub record PredRead (p : Pred) : Type 0 where
  pub count : ℕ
  pub fits : (d k : ℕ) (w : List Written) → count + length (symbols_in w) ≤ length (symbols_in (write_pred p d k w))
  pub unquantified : (d k : ℕ) (w : List Written) → lookup quantifiers none (first_of (symbols_in (write_pred p d k w))) ≡ none
  pub unary : (f d k : ℕ) (w : List Written) → not_level ≤ pred_level p → TermEnds 1 (first_of (symbols_in w)) → 2 * count ≤ suc f
      → parse_unary f (symbols_in (write_pred p d k w)) ≡ got p (symbols_in w)
  pub spine : (f l d k : ℕ) (w : List Written) → l ≤ pred_level p → PredEnds (tail_level p) (first_of (symbols_in w)) → 2 * count ≤ f
      → PredSpine count f l p (symbols_in (write_pred p d k w)) (symbols_in w)

-- the levels of connectives and of predicates
pub connective-levels : (o : Connective) → (1 ≤ connective_level o) × (connective_level o ≤ 4) × (connective_level o ≤ left_level o) × (connective_level o ≤ right_level o)
connective-levels and = omega arith
connective-levels or = omega arith
connective-levels implies = omega arith
connective-levels iff = omega arith

level-tail : (p : Pred) → (1 ≤ pred_level p) × (pred_level p ≤ tail_level p)
level-tail truth = omega arith
level-tail falsity = omega arith
level-tail (negation p) = omega arith
level-tail (paren p) = omega arith
level-tail (quantified q x t p) = omega arith
level-tail (connected o p q) = ((connective-levels o).0, (connective-levels o).3)
level-tail (compared o t u) = omega arith
level-tail (member o t u) = omega arith
level-tail (within o t r) = omega arith
level-tail (related o t u v) = omega arith

-- a connective does not go on with the last part of its left side
left-side : (o i : Connective) → left_level o ≤ connective_level i → connective_level o < right_level i
left-side and and h = omega arith
left-side and or h = omega arith
left-side and implies h = omega arith
left-side and iff h = omega arith
left-side or and h = omega arith
left-side or or h = omega arith
left-side or implies h = omega arith
left-side or iff h = omega arith
left-side implies and h = omega arith
left-side implies or h = omega arith
left-side implies implies h = omega arith
left-side implies iff h = omega arith
left-side iff and h = omega arith
left-side iff or h = omega arith
left-side iff implies h = omega arith
left-side iff iff h = omega arith

pub left-tail : (o : Connective) (p : Pred) → left_level o ≤ pred_level p → connective_level o < tail_level p
left-tail o truth h = omega (arith, connective-levels o)
left-tail o falsity h = omega (arith, connective-levels o)
left-tail o (negation p) h = omega (arith, connective-levels o)
left-tail o (paren p) h = omega (arith, connective-levels o)
left-tail o (quantified q x t p) h = omega (arith, connective-levels o)
left-tail o (connected i p q) h = left-side o i h
left-tail o (compared i t u) h = omega (arith, connective-levels o)
left-tail o (member i t u) h = omega (arith, connective-levels o)
left-tail o (within i t r) h = omega (arith, connective-levels o)
left-tail o (related i t u v) h = omega (arith, connective-levels o)

-- a predicate of the level l, before what ends it there, is read alone
pub reads-pred : (p : Pred) (r : PredRead p) (f l d k : ℕ) (w : List Written) → l ≤ pred_level p → PredEnds l (first_of (symbols_in w)) → 2 * r.count ≤ f
    → parse_pred f l (symbols_in (write_pred p d k w)) ≡ got p (symbols_in w)
reads-pred p r f l d k w h e b =
    let s : PredSpine r.count f l p (symbols_in (write_pred p d k w)) (symbols_in w) = r.spine f l d k w h (pred-ends-above (omega (arith, level-tail p)) e) b in
    s.reads ∙ pred-stops s.bound l p (symbols_in w) e.level

-- a whole predicate before what ends it
pub reads-whole-pred : (p : Pred) (r : PredRead p) (f d k : ℕ) (w : List Written) → PredEnds 1 (first_of (symbols_in w)) → 2 * r.count ≤ f
    → parse_pred f 1 (symbols_in (write_pred p d k w)) ≡ got p (symbols_in w)
reads-whole-pred p r f d k w e b = reads-pred p r f 1 d k w (level-tail p).0 e b

-- a predicate that is read before connectives is read as a predicate
abbrev pub Unary : Pred → ℕ → Type 0
Unary p n = (f d k : ℕ) (w : List Written) → TermEnds 1 (first_of (symbols_in w)) → 2 * n ≤ suc f → parse_unary f (symbols_in (write_pred p d k w)) ≡ got p (symbols_in w)

pub from-unary : (p : Pred) (n : ℕ) → 1 ≤ n → ((d k : ℕ) (w : List Written) → n + length (symbols_in w) ≤ length (symbols_in (write_pred p d k w)))
    → ((d k : ℕ) (w : List Written) → lookup quantifiers none (first_of (symbols_in (write_pred p d k w))) ≡ none) → Unary p n → PredRead p
from-unary p n i m s o = record { count = n; fits = m; unquantified = s; unary = λ f d k w h e b. o f d k w e b; spine = go }
  where
    go : (f l d k : ℕ) (w : List Written) → l ≤ pred_level p → PredEnds (tail_level p) (first_of (symbols_in w)) → 2 * n ≤ f
        → PredSpine n f l p (symbols_in (write_pred p d k w)) (symbols_in w)
    go zero l d k w h e b = absurd (omega arith)
    go (suc f) l d k w h e b = record {
      bound = f;
      enough = omega arith;
      reads = pred-begins f l p (symbols_in (write_pred p d k w)) (symbols_in w) (o f d k w e.term b);
    }

-- the predicates without connectives or terms
pub truth-read : PredRead truth
unfolding write_pred lookup is code_of
truth-read = from-unary truth 1 (omega arith) (λ d k w. omega arith) (λ d k w. refl) go
  where
    go : Unary truth 1
    go zero d k w e b = absurd (omega arith)
    go (suc f) d k w e b = unary-true f (symbols_in w)

pub falsity-read : PredRead falsity
unfolding write_pred lookup is code_of
falsity-read = from-unary falsity 1 (omega arith) (λ d k w. omega arith) (λ d k w. refl) go
  where
    go : Unary falsity 1
    go zero d k w e b = absurd (omega arith)
    go (suc f) d k w e b = unary-false f (symbols_in w)

pub negation-read : (p : Pred) → PredRead p → not_level ≤ pred_level p → PredRead (negation p)
unfolding write_pred lookup is code_of
negation-read p r i = from-unary (negation p) (1 + r.count) (omega arith) (λ d k w. omega (arith, r.fits (suc d) k w)) (λ d k w. refl) go
  where
    go : Unary (negation p) (1 + r.count)
    go zero d k w e b = absurd (omega arith)
    go (suc f) d k w e b = unary-not f p _ (symbols_in w) (r.unary f (suc d) k w i e (omega arith))

pub paren-read : (p : Pred) → PredRead p → PredRead (paren p)
unfolding write_pred lookup is code_of
paren-read p r = from-unary (paren p) (2 + r.count) (omega arith) (λ d k w. omega (arith, r.fits (suc d) k (bare kind.close_paren ∷ w))) (λ d k w. refl) go
  where
    go : Unary (paren p) (2 + r.count)
    go zero d k w e b = absurd (omega arith)
    go (suc zero) d k w e b = absurd (omega arith)
    go (suc (suc f)) d k w e b =
        unary-paren (suc f) (paren p) _ (symbols_in w)
        (paren-inside f p _ (symbols_in w) (r.unquantified (suc d) k (bare kind.close_paren ∷ w))
        (reads-whole-pred p r f (suc d) k (bare kind.close_paren ∷ w) paren-ends (omega arith)))

domain-fits : (t : Domain) (w : List Written) → length (symbols_in w) ≤ length (symbols_in (write_domain t w))
domain-fits (given_set g) w = omega arith
domain-fits (range r) w = range-fits r w

pub quantified-read : (q : Quantifier) (x : Letters) (t : Domain) (p : Pred) → PredRead p → PredRead (quantified q x t p)
unfolding write_pred lookup is code_of
quantified-read q x t p r = from-unary (quantified q x t p) (2 + r.count) (omega arith)
    (λ d k w. omega (arith, domain-fits t (bare kind.spot ∷ write_pred p (suc d) (suc k) (bare kind.close_paren ∷ w)), r.fits (suc d) (suc k) (bare kind.close_paren ∷ w)))
    (λ d k w. refl) go
  where
    go : Unary (quantified q x t p) (2 + r.count)
    go zero d k w e b = absurd (omega arith)
    go (suc zero) d k w e b = absurd (omega arith)
    go (suc (suc f)) d k w e b =
        unary-paren (suc f) (quantified q x t p) _ (symbols_in w)
        (paren-quantified f q x t p _ _ (symbols_in w) (reads-domain t (bare kind.spot ∷ write_pred p (suc d) (suc k) (bare kind.close_paren ∷ w)))
        (reads-whole-pred p r f (suc d) (suc k) (bare kind.close_paren ∷ w) paren-ends (omega arith)))

-- {x : G | p}
pub such-read : (x : Letters) (g : Name) (p : Pred) → PredRead p → TermRead (such x g p)
unfolding write_term
such-read x g p r = from-operand (such x g p) (2 + r.count) (omega arith) (λ d k w. omega (arith, r.fits (suc d) (suc k) (bare kind.close_brace ∷ w))) go
  where
    go : Operand (such x g p) (2 + r.count)
    go zero l d k w e b = absurd (omega arith)
    go (suc zero) l d k w e b = absurd (omega arith)
    go (suc (suc f)) l d k w e b =
        operand-brace (suc f) (such x g p) _ (symbols_in w)
        (brace-such f x g p _ (symbols_in w) (reads-whole-pred p r f (suc d) (suc k) (bare kind.close_brace ∷ w) brace-ends (omega arith)))
