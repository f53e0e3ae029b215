-- Predicates over terms and predicates with a connective, read; then every grouped term and predicate, by induction.
use mathlib.Core.Path.{◌≡◌, refl, ap, ◌∙◌}
use mathlib.Core.List.{List, ◌∷◌}
use Prim.Native.Nat.{ℕ, zero, suc, ◌+◌, ◌*◌, ◌≤◌}
use native.Mathlib.Omega.{arith}
use lib.ListN.{length}
use Rattle.lexical.specs.Kinds as kind
use Rattle.lexical.specs.Symbols.{Symbol, fixed, kind_of}
use Rattle.form.specs.Tree.{Range, Connective, and, or, implies, iff, Comparison, Membership}
use Rattle.form.specs.Tree.{Term, number, name, group, prefix, binary, divided, listed, pairs, such, empty_set, empty_pairs, Items, only, also, Pairs, only_pair, also_pair}
use Rattle.form.specs.Tree.{Pred, truth, falsity, negation, paren, quantified, connected, compared, member, within, related}
use Rattle.form.specs.Written.{Written, bare, connective, right_depth, connective_kind, comparison_kind, membership_kind, write_range, write_term, write_pred}
use Rattle.form.specs.Form.{connective_level, pred_level, left_level, right_level, TermGrouped, ItemsGrouped, PairsGrouped, PredGrouped}
use Rattle.form.specs.Parse.{got, parse_pred, parse_pred_rest, parse_atom}
use Rattle.form.proofs.Takes.{symbols_in}
use Rattle.form.proofs.ParseSteps.{first_of, reads-range}
use Rattle.form.proofs.ParsePredSteps.{rest-connective, unary-atom, atom-compared, atom-member, atom-within, atom-related, range-starts}
use Rattle.form.proofs.ParseStarts.{TermEnds, PredEnds, pred-ends-above, maplet-ends, comparison-ends, membership-ends, connective-ends-pred, term-starts}
use Rattle.form.proofs.ParseTerms.{TermRead, reads_whole, range-fits, number_read, name-read, group-read, prefix-read, empty-read, empty-pairs-read, binary-read, divided-read}
use Rattle.form.proofs.ParseBraces.{ItemsRead, PairsRead, only-read, also-read, only-pair-read, also-pair-read, listed-read, pairs-read}
use Rattle.form.proofs.ParsePreds.{PredSpine, PredRead, tail_level, connective-levels, left-tail, reads-pred, Unary, from-unary, truth-read, falsity-read, negation-read, paren-read, quantified-read, such-read}

-- a predicate that begins with the term t, given how it goes on behind t; v is what stands there
from-atom : (p : Pred) (t : Term) (r : TermRead t) (n : ℕ) (v : (d k : ℕ) → List Written → List Written) → 1 ≤ n
    → ((d k : ℕ) (w : List Written) → n + length (symbols_in w) ≤ length (symbols_in (v d k w)))
    → ((d k : ℕ) (w : List Written) → TermEnds 1 (first_of (symbols_in (v d k w))))
    → ((d k : ℕ) (w : List Written) → write_pred p d k w ≡ write_term t d k (v d k w))
    → ((f d k : ℕ) (w : List Written) → TermEnds 1 (first_of (symbols_in w)) → 2 * n ≤ suc f → parse_atom f t (symbols_in (v d k w)) ≡ got p (symbols_in w))
    → PredRead p
from-atom p t r n v i m c q h = from-unary p (r.count + n) (omega (arith, r.some))
    (λ d k w. rw (q d k w) (omega (arith, r.fits d k (v d k w), m d k w)))
    (λ d k w. rw (q d k w) (term-starts t 1 d k (v d k w) (c d k w)).unquantified) go
  where
    go : Unary p (r.count + n)
    go zero d k w e b = absurd (omega (arith, r.some))
    go (suc f) d k w e b = rw (q d k w)
        (unary-atom f t p (symbols_in (v d k w)) _ (symbols_in w) (term-starts t 1 d k (v d k w) (c d k w)).is_term
        (reads_whole t r f d k (v d k w) (c d k w) (omega arith)) (h f d k w e (omega (arith, r.some))))

-- t = u, t in u, t in a..b, t |-> u in v, and those like them
compared-read : (o : Comparison) (t u : Term) → TermRead t → TermRead u → PredRead (compared o t u)
unfolding write_pred
compared-read o t u r s = from-atom (compared o t u) t r (1 + s.count) (λ d k w. bare (comparison_kind o) ∷ write_term u d k w) (omega arith)
    (λ d k w. omega (arith, s.fits d k w)) (λ d k w. comparison-ends o) (λ d k w. refl) go
  where
    go : (f d k : ℕ) (w : List Written) → TermEnds 1 (first_of (symbols_in w)) → 2 * (1 + s.count) ≤ suc f
        → parse_atom f t (fixed (comparison_kind o) ∷ symbols_in (write_term u d k w)) ≡ got (compared o t u) (symbols_in w)
    go zero d k w e b = absurd (omega arith)
    go (suc f) d k w e b = atom-compared o f t u _ (symbols_in w) (reads_whole u s f d k w e (omega arith))

member-read : (o : Membership) (t u : Term) → TermRead t → TermRead u → PredRead (member o t u)
unfolding write_pred
member-read o t u r s = from-atom (member o t u) t r (1 + s.count) (λ d k w. bare (membership_kind o) ∷ write_term u d k w) (omega arith)
    (λ d k w. omega (arith, s.fits d k w)) (λ d k w. membership-ends o) (λ d k w. refl) go
  where
    go : (f d k : ℕ) (w : List Written) → TermEnds 1 (first_of (symbols_in w)) → 2 * (1 + s.count) ≤ suc f
        → parse_atom f t (fixed (membership_kind o) ∷ symbols_in (write_term u d k w)) ≡ got (member o t u) (symbols_in w)
    go zero d k w e b = absurd (omega arith)
    go (suc f) d k w e b = atom-member o f t u _ (symbols_in w) (term-starts u 1 d k w e).no_range (reads_whole u s f d k w e (omega arith))

within-read : (o : Membership) (t : Term) (n : Range) → TermRead t → PredRead (within o t n)
unfolding write_pred
within-read o t n r = from-atom (within o t n) t r 1 (λ d k w. bare (membership_kind o) ∷ write_range n w) (omega arith)
    (λ d k w. omega (arith, range-fits n w))
    (λ d k w. membership-ends o) (λ d k w. refl) go
  where
    go : (f d k : ℕ) (w : List Written) → TermEnds 1 (first_of (symbols_in w)) → 2 * 1 ≤ suc f
        → parse_atom f t (fixed (membership_kind o) ∷ symbols_in (write_range n w)) ≡ got (within o t n) (symbols_in w)
    go zero d k w e b = absurd (omega arith)
    go (suc f) d k w e b = atom-within o f t n _ (symbols_in w) (range-starts n w).0 (reads-range n w)

related-read : (o : Membership) (t u s : Term) → TermRead t → TermRead u → TermRead s → PredRead (related o t u s)
unfolding write_pred
related-read o t u s r a c = from-atom (related o t u s) t r (2 + a.count + c.count)
    (λ d k w. bare kind.maplet ∷ write_term u d k (bare (membership_kind o) ∷ write_term s d k w)) (omega arith)
    (λ d k w. omega (arith, a.fits d k (bare (membership_kind o) ∷ write_term s d k w), c.fits d k w)) (λ d k w. maplet-ends) (λ d k w. refl) go
  where
    go : (f d k : ℕ) (w : List Written) → TermEnds 1 (first_of (symbols_in w)) → 2 * (2 + a.count + c.count) ≤ suc f
        → parse_atom f t (fixed kind.maplet ∷ symbols_in (write_term u d k (bare (membership_kind o) ∷ write_term s d k w))) ≡ got (related o t u s) (symbols_in w)
    go zero d k w e b = absurd (omega arith)
    go (suc f) d k w e b =
        atom-related o f t u s _ _ (symbols_in w) (reads_whole u a f d k (bare (membership_kind o) ∷ write_term s d k w) (membership-ends o) (omega arith))
        (reads_whole s c f d k w e (omega arith))

-- a connective's symbol, whatever depth it opens
connective-symbol : (o : Connective) (d : ℕ) → (connective o d).symbol ≡ fixed (connective_kind o)
connective-symbol and d = refl
connective-symbol or d = refl
connective-symbol implies d = refl
connective-symbol iff d = refl

-- a connective behind its left side, read so far
connective-spine : (o : Connective) (p q : Pred) (s : Symbol) (m n f g l : ℕ) (x v w : List Symbol) → s ≡ fixed (connective_kind o) → l ≤ connective_level o
    → parse_pred f l x ≡ parse_pred_rest g l p (s ∷ v) → ((i : ℕ) → 2 * n ≤ i → parse_pred i (right_level o) v ≡ got q w) → 2 * (1 + m + n) ≤ f → f ≤ g + m
    → PredSpine (1 + m + n) f l (connected o p q) x w
connective-spine o p q s m n f zero l x v w a h e r b c = absurd (omega arith)
connective-spine o p q s m n f (suc g) l x v w a h e r b c = record {
  bound = g;
  enough = omega arith;
  reads = e ∙ ap (λ (y : Symbol). parse_pred_rest (suc g) l p (y ∷ v)) a ∙ rest-connective o g l p q v w h (r g (omega arith));
}

-- a connective's sides have the levels that it asks for
connected-read : (o : Connective) (p q : Pred) → PredRead p → PredRead q → left_level o ≤ pred_level p → right_level o ≤ pred_level q → PredRead (connected o p q)
unfolding write_pred
connected-read o p q r s i j = record {
  count = 1 + r.count + s.count;
  fits = λ d k w. omega (arith, r.fits d k (connective o d ∷ write_pred q (right_depth o d) k w), s.fits (right_depth o d) k w);
  unquantified = λ d k w. r.unquantified d k (connective o d ∷ write_pred q (right_depth o d) k w);
  unary = λ f d k w h e b. absurd (omega (arith, connective-levels o));
  spine = λ f l d k w h e b.
      let c : PredEnds (tail_level p) (kind_of (connective o d).symbol) = rw (connective-symbol o d) (pred-ends-above (left-tail o p i) (connective-ends-pred o)) in
      let a : PredSpine r.count f l p _ _ = r.spine f l d k (connective o d ∷ write_pred q (right_depth o d) k w) (omega (arith, connective-levels o)) c (omega arith) in
      connective-spine o p q (connective o d).symbol r.count s.count f a.bound l _ _ (symbols_in w) (connective-symbol o d) h a.reads
      (λ g n. reads-pred q s g (right_level o) (right_depth o d) k w j e n) b a.enough;
}

-- every grouped tree is read
mutual
  unfolding TermGrouped

  pub term-read : (t : Term) → TermGrouped t → TermRead t
  term-read (number n) g = number_read n
  term-read (name x) g = name-read x
  term-read (group t) g = group-read t (term-read t g)
  term-read (prefix o t) g = prefix-read o t (term-read t g.1) g.0
  term-read (binary o t u) g = binary-read o t u (term-read t g.2) (term-read u g.3) g.0 g.1
  term-read (divided o t e) g = divided-read o t e (term-read t g.1) g.0
  term-read (listed ts) g = listed-read ts (items-read ts g)
  term-read (pairs ts) g = pairs-read ts (pairings-read ts g)
  term-read (such x n p) g = such-read x n p (pred-read p g)
  term-read (empty_set n) g = empty-read n
  term-read (empty_pairs n m) g = empty-pairs-read n m

  pub items-read : (ts : Items) → ItemsGrouped ts → ItemsRead ts
  items-read (only t) g = only-read t (term-read t g)
  items-read (also t ts) g = also-read t ts (term-read t g.0) (items-read ts g.1)

  pub pairings-read : (ts : Pairs) → PairsGrouped ts → PairsRead ts
  pairings-read (only_pair t u) g = only-pair-read t u (term-read t g.0) (term-read u g.1)
  pairings-read (also_pair t u ts) g = also-pair-read t u ts (term-read t g.0) (term-read u g.1) (pairings-read ts g.2)

  pub pred-read : (p : Pred) → PredGrouped p → PredRead p
  pred-read truth g = truth-read
  pred-read falsity g = falsity-read
  pred-read (negation p) g = negation-read p (pred-read p g.1) g.0
  pred-read (paren p) g = paren-read p (pred-read p g)
  pred-read (quantified q x t p) g = quantified-read q x t p (pred-read p g)
  pred-read (connected o p q) g = connected-read o p q (pred-read p g.2) (pred-read q g.3) g.0 g.1
  pred-read (compared o t u) g = compared-read o t u (term-read t g.0) (term-read u g.1)
  pred-read (member o t u) g = member-read o t u (term-read t g.0) (term-read u g.1)
  pred-read (within o t r) g = within-read o t r (term-read t g)
  pred-read (related o t u s) g = related-read o t u s (term-read t g.0) (term-read u g.1) (term-read s g.2)
