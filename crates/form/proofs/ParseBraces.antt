-- Terms in set braces, read: lists of terms and lists of pairs.
use mathlib.Core.Path.{◌≡◌, refl}
use mathlib.Core.Bool.{true, false}
use mathlib.Core.List.{List, ◌∷◌}
use Prim.Native.Nat.{ℕ, zero, suc, ◌+◌, ◌*◌, ◌≤◌}
use native.Mathlib.Omega.{arith}
use lib.ListN.{length}
use Rattle.lexical.specs.Kinds as kind
use Rattle.lexical.specs.Kinds.{is, code_of}
use Rattle.lexical.specs.Symbols.{Symbol, fixed}
use Rattle.form.specs.Tree.{Term, listed, pairs, Items, only, also, Pairs, only_pair, also_pair}
use Rattle.form.specs.Written.{Written, bare, write_term, write_items, write_pairs}
use Rattle.form.specs.Parse.{got, parse_term, parse_items, parse_pairs}
use Rattle.form.proofs.Takes.{symbols_in}
use Rattle.form.proofs.ParseSteps.{first_of, operand-brace, binds_at, brace-listed, brace-pairs, items-end, items_more, pairs_end, pairs-more}
use Rattle.form.proofs.ParseStarts.{comma-ends, maplet-ends, brace-ends, term-starts}
use Rattle.form.proofs.ParseTerms.{TermRead, reads_whole, Operand, from-operand}

-- The inside v of a brace, read with the bound f: its first term, and from behind that the whole list, up to the closing brace before w. It begins with
-- no bound name, and |-> stands behind the first term in a list of pairs only.
pub record ItemsAt (f : ℕ) (ts : Items) (v w : List Symbol) : Type 0 where
  pub first : Term
  pub behind : List Symbol
  pub unbound : binds_at v ≡ false
  pub reads : parse_term f 1 v ≡ got first behind
  pub no_pair : is (first_of behind) kind.maplet ≡ false
  pub goes_on : parse_items f first behind ≡ got ts (fixed kind.close_brace ∷ w)

pub record PairsAt (f : ℕ) (ts : Pairs) (v w : List Symbol) : Type 0 where
  pub first : Term
  pub behind : List Symbol
  pub unbound : binds_at v ≡ false
  pub reads : parse_term f 1 v ≡ got first behind
  pub a_pair : is (first_of behind) kind.maplet ≡ true
  pub goes_on : parse_pairs f first behind ≡ got ts (fixed kind.close_brace ∷ w)

-- a list's symbols, `count` of them or more, are read as the list, with a bound of two for each symbol
pub record ItemsRead (ts : Items) : Type 0 where
  pub count : ℕ
  pub fits : (d k : ℕ) (w : List Written) → count + length (symbols_in w) ≤ length (symbols_in (write_items ts d k w))
  pub inside : (f d k : ℕ) (w : List Written) → 2 * count ≤ f → ItemsAt f ts (symbols_in (write_items ts d k (bare kind.close_brace ∷ w))) (symbols_in w)

pub record PairsRead (ts : Pairs) : Type 0 where
  pub count : ℕ
  pub fits : (d k : ℕ) (w : List Written) → count + length (symbols_in w) ≤ length (symbols_in (write_pairs ts d k w))
  pub inside : (f d k : ℕ) (w : List Written) → 2 * count ≤ f → PairsAt f ts (symbols_in (write_pairs ts d k (bare kind.close_brace ∷ w))) (symbols_in w)

-- one term, and one more
pub only-read : (t : Term) → TermRead t → ItemsRead (only t)
unfolding write_items is code_of
only-read t r = record {
  count = r.count;
  fits = r.fits;
  inside = λ f d k w b. record {
    first = t;
    behind = fixed kind.close_brace ∷ symbols_in w;
    unbound = (term-starts t 1 d k (bare kind.close_brace ∷ w) brace-ends.term).unbound;
    reads = reads_whole t r f d k (bare kind.close_brace ∷ w) brace-ends.term b;
    no_pair = refl;
    goes_on = items-end f t (symbols_in w);
  };
}

pub also-read : (t : Term) (ts : Items) → TermRead t → ItemsRead ts → ItemsRead (also t ts)
unfolding write_items is code_of
also-read t ts r s = record {
  count = 1 + r.count + s.count;
  fits = λ d k w. omega (arith, r.fits d k (bare kind.comma ∷ write_items ts d k w), s.fits d k w);
  inside = λ f d k w b. record {
    first = t;
    behind = fixed kind.comma ∷ symbols_in (write_items ts d k (bare kind.close_brace ∷ w));
    unbound = (term-starts t 1 d k (bare kind.comma ∷ write_items ts d k (bare kind.close_brace ∷ w)) comma-ends).unbound;
    reads = reads_whole t r f d k (bare kind.comma ∷ write_items ts d k (bare kind.close_brace ∷ w)) comma-ends (omega arith);
    no_pair = refl;
    goes_on = go f d k w b;
  };
}
  where
    go : (f d k : ℕ) (w : List Written) → 2 * (1 + r.count + s.count) ≤ f
        → parse_items f t (fixed kind.comma ∷ symbols_in (write_items ts d k (bare kind.close_brace ∷ w))) ≡ got (also t ts) (fixed kind.close_brace ∷ symbols_in w)
    go zero d k w b = absurd (omega arith)
    go (suc f) d k w b =
        let i : ItemsAt f ts (symbols_in (write_items ts d k (bare kind.close_brace ∷ w))) (symbols_in w) = s.inside f d k w (omega arith) in
        items_more f t i.first ts _ i.behind _ i.reads i.goes_on

-- one pair, and one more
pub only-pair-read : (t u : Term) → TermRead t → TermRead u → PairsRead (only_pair t u)
unfolding write_pairs is code_of
only-pair-read t u r s = record {
  count = 1 + r.count + s.count;
  fits = λ d k w. omega (arith, r.fits d k (bare kind.maplet ∷ write_term u d k w), s.fits d k w);
  inside = λ f d k w b. record {
    first = t;
    behind = fixed kind.maplet ∷ symbols_in (write_term u d k (bare kind.close_brace ∷ w));
    unbound = (term-starts t 1 d k (bare kind.maplet ∷ write_term u d k (bare kind.close_brace ∷ w)) maplet-ends).unbound;
    reads = reads_whole t r f d k (bare kind.maplet ∷ write_term u d k (bare kind.close_brace ∷ w)) maplet-ends (omega arith);
    a_pair = refl;
    goes_on = go f d k w b;
  };
}
  where
    go : (f d k : ℕ) (w : List Written) → 2 * (1 + r.count + s.count) ≤ f
        → parse_pairs f t (fixed kind.maplet ∷ symbols_in (write_term u d k (bare kind.close_brace ∷ w))) ≡ got (only_pair t u) (fixed kind.close_brace ∷ symbols_in w)
    go zero d k w b = absurd (omega arith)
    go (suc f) d k w b = pairs_end f t u _ (symbols_in w) (reads_whole u s f d k (bare kind.close_brace ∷ w) brace-ends.term (omega arith))

pub also-pair-read : (t u : Term) (ts : Pairs) → TermRead t → TermRead u → PairsRead ts → PairsRead (also_pair t u ts)
unfolding write_pairs is code_of
also-pair-read t u ts r s q = record {
  count = 2 + r.count + s.count + q.count;
  fits = λ d k w. omega (arith, r.fits d k (bare kind.maplet ∷ write_term u d k (bare kind.comma ∷ write_pairs ts d k w)), s.fits d k (bare kind.comma ∷ write_pairs ts d k w), q.fits d k w);
  inside = λ f d k w b.
      let v : List Written = write_term u d k (bare kind.comma ∷ write_pairs ts d k (bare kind.close_brace ∷ w)) in
      record {
        first = t;
        behind = fixed kind.maplet ∷ symbols_in v;
        unbound = (term-starts t 1 d k (bare kind.maplet ∷ v) maplet-ends).unbound;
        reads = reads_whole t r f d k (bare kind.maplet ∷ v) maplet-ends (omega arith);
        a_pair = refl;
        goes_on = go f d k w b;
      };
}
  where
    go : (f d k : ℕ) (w : List Written) → 2 * (2 + r.count + s.count + q.count) ≤ f
        → parse_pairs f t (fixed kind.maplet ∷ symbols_in (write_term u d k (bare kind.comma ∷ write_pairs ts d k (bare kind.close_brace ∷ w))))
        ≡ got (also_pair t u ts) (fixed kind.close_brace ∷ symbols_in w)
    go zero d k w b = absurd (omega arith)
    go (suc f) d k w b =
        let i : PairsAt f ts (symbols_in (write_pairs ts d k (bare kind.close_brace ∷ w))) (symbols_in w) = q.inside f d k w (omega arith) in
        let e : parse_term f 1 (symbols_in (write_term u d k (bare kind.comma ∷ write_pairs ts d k (bare kind.close_brace ∷ w))))
        ≡ got u (fixed kind.comma ∷ symbols_in (write_pairs ts d k (bare kind.close_brace ∷ w)))
        = reads_whole u s f d k (bare kind.comma ∷ write_pairs ts d k (bare kind.close_brace ∷ w)) comma-ends (omega arith) in
        pairs-more f t u i.first ts _ _ i.behind _ e i.reads i.goes_on

-- lists in their braces
pub listed-read : (ts : Items) → ItemsRead ts → TermRead (listed ts)
unfolding write_term
listed-read ts r = from-operand (listed ts) (2 + r.count) (omega arith) (λ d k w. omega (arith, r.fits (suc d) k (bare kind.close_brace ∷ w))) go
  where
    go : Operand (listed ts) (2 + r.count)
    go zero l d k w e b = absurd (omega arith)
    go (suc zero) l d k w e b = absurd (omega arith)
    go (suc (suc f)) l d k w e b =
        let i : ItemsAt f ts (symbols_in (write_items ts (suc d) k (bare kind.close_brace ∷ w))) (symbols_in w) = r.inside f (suc d) k w (omega arith) in
        operand-brace (suc f) (listed ts) _ (symbols_in w) (brace-listed f i.first ts i.behind _ (symbols_in w) i.unbound i.reads i.no_pair i.goes_on)

pub pairs-read : (ts : Pairs) → PairsRead ts → TermRead (pairs ts)
unfolding write_term
pairs-read ts r = from-operand (pairs ts) (2 + r.count) (omega arith) (λ d k w. omega (arith, r.fits (suc d) k (bare kind.close_brace ∷ w))) go
  where
    go : Operand (pairs ts) (2 + r.count)
    go zero l d k w e b = absurd (omega arith)
    go (suc zero) l d k w e b = absurd (omega arith)
    go (suc (suc f)) l d k w e b =
        let i : PairsAt f ts (symbols_in (write_pairs ts (suc d) k (bare kind.close_brace ∷ w))) (symbols_in w) = r.inside f (suc d) k w (omega arith) in
        operand-brace (suc f) (pairs ts) _ (symbols_in w) (brace-pairs f i.first ts i.behind _ (symbols_in w) i.unbound i.reads i.a_pair i.goes_on)
