-- Terms, read: each kind of term, from how its parts are read.
use mathlib.Core.Path.{◌≡◌, ◌∙◌}
use mathlib.Core.Bool.{Bool, true, false}
use mathlib.Core.List.{List, ◌∷◌}
use Prim.Native.Nat.{ℕ, zero, suc, ◌+◌, ◌*◌, ◌≤◌, ◌<◌}
use native.Mathlib.Omega.{arith}
use lib.ListN.{length}
use Rattle.lexical.specs.Kinds as kind
use Rattle.lexical.specs.Symbols.{Name, Symbol, fixed}
use Rattle.form.specs.Tree.{End, Range, Prefix, Operator, Division}
use Rattle.form.specs.Tree.{Term, number, name, group, prefix, binary, divided, empty_set, empty_pairs}
use Rattle.form.specs.Written.{Written, bare, digits, operator_kind, division_kind, minus_of, write_end, write_range, write_term}
use Rattle.form.specs.Form.{operator_level, division_level, prefix_level, term_level}
use Rattle.form.specs.Parse.{got, parse_term, parse_term_rest, parse_operand, parse_end}
use Rattle.form.proofs.Takes.{symbols_in}
use Rattle.form.proofs.ParseSteps.{first_of, term-begins, rest-stops, rest-operator, rest-division, reads_end, operand-number, operand-name, operand-group, operand_prefix}
use Rattle.form.proofs.ParseSteps.{operand-empty, operand-empty-pairs}
use Rattle.form.proofs.ParseStarts.{TermEnds, ends_above, bracket-ends, operator-ends, division-ends}
use Rattle.form.proofs.Insert.{operator_most, term-least}

-- reading the symbols v at the level l with the bound f, of a term with n symbols: t is read, and the reader goes on behind it at w
pub record Spine (n f l : ℕ) (t : Term) (v w : List Symbol) : Type 0 where
  pub bound : ℕ
  pub enough : f ≤ bound + n
  pub reads : parse_term f l v ≡ parse_term_rest bound l t w

-- A term's symbols, `count` of them or more, are read as the term, with a bound of two for each symbol: by `operand` where it is one, with one less;
-- by `spine` at each level up to its own, before what ends it above.
pub record TermRead (t : Term) : Type 0 where
  pub count : ℕ
  pub some : 1 ≤ count
  pub fits : (d k : ℕ) (w : List Written) → count + length (symbols_in w) ≤ length (symbols_in (write_term t d k w))
  pub operand : (f l d k : ℕ) (w : List Written) → prefix_level ≤ term_level t → TermEnds l (first_of (symbols_in w)) → 2 * count ≤ suc f
      → parse_operand f (symbols_in (write_term t d k w)) ≡ got t (symbols_in w)
  pub spine : (f l d k : ℕ) (w : List Written) → l ≤ term_level t → TermEnds (suc (term_level t)) (first_of (symbols_in w)) → 2 * count ≤ f
      → Spine count f l t (symbols_in (write_term t d k w)) (symbols_in w)

-- a term of the level l, before what ends it there, is read alone
pub reads-term : (t : Term) (r : TermRead t) (f l d k : ℕ) (w : List Written) → l ≤ term_level t → TermEnds l (first_of (symbols_in w)) → 2 * r.count ≤ f
    → parse_term f l (symbols_in (write_term t d k w)) ≡ got t (symbols_in w)
reads-term t r f l d k w h e b =
    let s : Spine r.count f l t (symbols_in (write_term t d k w)) (symbols_in w) = r.spine f l d k w h (ends_above (omega arith) e) b in
    s.reads ∙ rest-stops s.bound l t (symbols_in w) e.level

-- a whole term before what ends it
pub reads_whole : (t : Term) (r : TermRead t) (f d k : ℕ) (w : List Written) → TermEnds 1 (first_of (symbols_in w)) → 2 * r.count ≤ f
    → parse_term f 1 (symbols_in (write_term t d k w)) ≡ got t (symbols_in w)
reads_whole t r f d k w e b = reads-term t r f 1 d k w (term-least t) e b

-- a term that is read as an operand is read as a term
abbrev pub Operand : Term → ℕ → Type 0
Operand t n = (f l d k : ℕ) (w : List Written) → TermEnds l (first_of (symbols_in w)) → 2 * n ≤ suc f → parse_operand f (symbols_in (write_term t d k w)) ≡ got t (symbols_in w)

pub from-operand : (t : Term) (n : ℕ) → 1 ≤ n → ((d k : ℕ) (w : List Written) → n + length (symbols_in w) ≤ length (symbols_in (write_term t d k w))) → Operand t n
    → TermRead t
from-operand t n i m o = record { count = n; some = i; fits = m; operand = λ f l d k w h e b. o f l d k w e b; spine = go }
  where
    go : (f l d k : ℕ) (w : List Written) → l ≤ term_level t → TermEnds (suc (term_level t)) (first_of (symbols_in w)) → 2 * n ≤ f
        → Spine n f l t (symbols_in (write_term t d k w)) (symbols_in w)
    go zero l d k w h e b = absurd (omega arith)
    go (suc f) l d k w h e b = record {
      bound = f;
      enough = omega arith;
      reads = term-begins f l t (symbols_in (write_term t d k w)) (symbols_in w) (o f (suc (term_level t)) d k w e b);
    }

-- the operands
pub number_read : (n : ℕ) → TermRead (number n)
unfolding write_term
number_read n = from-operand (number n) 1 (omega arith) (λ d k w. omega arith) go
  where
    go : Operand (number n) 1
    go zero l d k w e b = absurd (omega arith)
    go (suc f) l d k w e b = operand-number f n (symbols_in w)

pub name-read : (x : Name) → TermRead (name x)
unfolding write_term
name-read x = from-operand (name x) 1 (omega arith) (λ d k w. omega arith) go
  where
    go : Operand (name x) 1
    go zero l d k w e b = absurd (omega arith)
    go (suc f) l d k w e b = operand-name f x (symbols_in w)

pub group-read : (t : Term) → TermRead t → TermRead (group t)
unfolding write_term
group-read t r = from-operand (group t) (2 + r.count) (omega arith) (λ d k w. omega (arith, r.fits (suc d) k (bare kind.close_bracket ∷ w))) go
  where
    go : Operand (group t) (2 + r.count)
    go zero l d k w e b = absurd (omega arith)
    go (suc f) l d k w e b =
        operand-group f t _ (symbols_in w) (reads_whole t r f (suc d) k (bare kind.close_bracket ∷ w) bracket-ends (omega arith))

pub prefix-read : (o : Prefix) (t : Term) → TermRead t → prefix_level ≤ term_level t → TermRead (prefix o t)
unfolding write_term
prefix-read o t r i = from-operand (prefix o t) (1 + r.count) (omega arith) (λ d k w. omega (arith, r.fits (suc d) k w)) go
  where
    go : Operand (prefix o t) (1 + r.count)
    go zero l d k w e b = absurd (omega arith)
    go (suc f) l d k w e b = operand_prefix o f t _ (symbols_in w) (r.operand f l (suc d) k w i e (omega arith))

pub empty-read : (g : Name) → TermRead (empty_set g)
unfolding write_term
empty-read g = from-operand (empty_set g) 2 (omega arith) (λ d k w. omega arith) go
  where
    go : Operand (empty_set g) 2
    go zero l d k w e b = absurd (omega arith)
    go (suc f) l d k w e b = operand-empty f g (symbols_in w) e.not_name

pub empty-pairs-read : (g h : Name) → TermRead (empty_pairs g h)
unfolding write_term
empty-pairs-read g h = from-operand (empty_pairs g h) 3 (omega arith) (λ d k w. omega arith) go
  where
    go : Operand (empty_pairs g h) 3
    go zero l d k w e b = absurd (omega arith)
    go (suc f) l d k w e b = operand-empty-pairs f g h (symbols_in w)

-- an operator behind its left side, read so far
operator-spine : (o : Operator) (t u : Term) (m n f g l : ℕ) (x v w : List Symbol) → l ≤ operator_level o → parse_term f l x ≡ parse_term_rest g l t (fixed (operator_kind o) ∷ v)
    → ((i : ℕ) → 2 * n ≤ i → parse_term i (suc (operator_level o)) v ≡ got u w) → 2 * (1 + m + n) ≤ f → f ≤ g + m → Spine (1 + m + n) f l (binary o t u) x w
operator-spine o t u m n f zero l x v w h e r b c = absurd (omega arith)
operator-spine o t u m n f (suc g) l x v w h e r b c = record {
  bound = g;
  enough = omega arith;
  reads = e ∙ rest-operator o g l t u v w h (r g (omega arith));
}

-- an operator's left side is of its level, its right side above it
pub binary-read : (o : Operator) (t u : Term) → TermRead t → TermRead u → operator_level o ≤ term_level t → operator_level o < term_level u → TermRead (binary o t u)
unfolding write_term
binary-read o t u r s i j = record {
  count = 1 + r.count + s.count;
  some = omega arith;
  fits = λ d k w. omega (arith, r.fits d k (bare (operator_kind o) ∷ write_term u d k w), s.fits d k w);
  operand = λ f l d k w h e b. absurd (omega (arith, operator_most o));
  spine = λ f l d k w h e b.
      let p : Spine r.count f l t _ _ = r.spine f l d k (bare (operator_kind o) ∷ write_term u d k w) (omega arith) (ends_above (omega arith) (operator-ends o)) (omega arith) in
      operator-spine o t u r.count s.count f p.bound l _ _ (symbols_in w) h p.reads
      (λ g c. reads-term u s g (suc (operator_level o)) d k w j e c) b p.enough;
}

-- a division behind its left side, read so far
division-spine : (o : Division) (t : Term) (n : End) (m f g l : ℕ) (x v w : List Symbol) → l ≤ division_level → parse_term f l x ≡ parse_term_rest g l t (fixed (division_kind o) ∷ v)
    → parse_end v ≡ got n w → 2 * (1 + m) ≤ f → f ≤ g + m → Spine (1 + m) f l (divided o t n) x w
division-spine o t n m f zero l x v w h e r b c = absurd (omega arith)
division-spine o t n m f (suc g) l x v w h e r b c = record { bound = g; enough = omega arith; reads = e ∙ rest-division o g l t n v w h r }

-- an end and a range are not shorter than what stands behind them
end_fits : (b : Bool) (n : ℕ) (w : List Written) → suc (length (symbols_in w)) ≤ length (symbols_in (minus_of b (digits n ∷ w)))
end_fits true n w = omega arith
end_fits false n w = omega arith

pub range-fits : (r : Range) (w : List Written) → length (symbols_in w) ≤ length (symbols_in (write_range r w))
range-fits r w =
    omega (arith, end_fits r.lower.negative r.lower.magnitude (bare kind.up_to ∷ write_end r.upper w), end_fits r.upper.negative r.upper.magnitude w)

pub divided-read : (o : Division) (t : Term) (n : End) → TermRead t → division_level ≤ term_level t → TermRead (divided o t n)
unfolding write_term
divided-read o t n r i = record {
  count = 1 + r.count;
  some = omega arith;
  fits = λ d k w. omega (arith, r.fits d k (bare (division_kind o) ∷ write_end n w), end_fits n.negative n.magnitude w);
  operand = λ f l d k w h e b. absurd (omega arith);
  spine = λ f l d k w h e b.
      let p : Spine r.count f l t _ _ = r.spine f l d k (bare (division_kind o) ∷ write_end n w) (omega arith) (ends_above (omega arith) (division-ends o)) (omega arith) in
      division-spine o t n r.count f p.bound l _ _ (symbols_in w) h p.reads (reads_end n w) b p.enough;
}
