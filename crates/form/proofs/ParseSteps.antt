-- What each part of the reader of trees does, for terms, at what it begins with.
use mathlib.Core.Path.{◌≡◌, refl}
use mathlib.Core.Bool.{Bool, true, false, ◌&&◌}
use mathlib.Core.List.{List, [], ◌∷◌}
use Prim.Native.Nat.{ℕ, zero, suc, ◌≤◌, ◌<◌}
use borrow.Author.Tests.{le-leb, lt-leb}
use lib.ListN.{get_or}
use Rattle.lexical.specs.Kinds as kind
use Rattle.lexical.specs.Kinds.{Kind, is, lookup, code_of}
use Rattle.lexical.specs.Symbols.{Name, Ending, no_ending, prime, query, shriek, Symbol, fixed, numeral, kind_of, kind_of_name}
use Rattle.lexical.specs.Symbols as symbol
use Rattle.form.specs.Tree.{Letters, End, Range, Prefix, negate, size, dom, ran, Operator, plus, minus, union, without, times, inter, Division, quotient, remainder}
use Rattle.form.specs.Tree.{Term, number, name, group, prefix, binary, divided, listed, pairs, such, empty_set, empty_pairs, Items, only, also, Pairs, only_pair, also_pair, Pred}
use Rattle.form.specs.Written.{Written, bare, operator_kind, division_kind, prefix_kind, minus_of, digits, write_end, write_range}
use Rattle.form.specs.Form.{kind_at, operator_level, division_level}
use Rattle.form.specs.Parse.{got, parse_term, parse_term_rest, parse_operand, parse_brace, parse_items, parse_pairs, parse_pred, parse_end, parse_range, parse_empty}
use Rattle.form.specs.Parse.{a_name, a_prefix, starts, Infix, between, divides, not_infix, infixes}
use Rattle.form.proofs.Takes.{symbols_in}

-- the kind of the first symbol, the end counting as `end`
abbrev pub first_of : List Symbol → Kind
first_of w = kind_of (get_or w 0 (fixed kind.END))

-- a name's kind
abbrev pub is_name_kind : Kind → Bool
is_name_kind k = lookup ((kind.plain, true) ∷ (kind.primed, true) ∷ (kind.input, true) ∷ (kind.output, true) ∷ []) false k

-- how tightly what stands between two terms binds, 0 where nothing does
abbrev pub infix_level : Infix → ℕ
infix_level (between o) = operator_level o
infix_level (divides o) = division_level
infix_level not_infix = 0

-- a term is an operand and what goes on behind it
pub term-begins : (f l : ℕ) (t : Term) (v w : List Symbol) → parse_operand f v ≡ got t w → parse_term (suc f) l v ≡ parse_term_rest f l t w
unfolding parse_term
term-begins f l t v w e = rw (parse_term, e)

-- Behind a term: what binds less tightly than the level ends it; an operator or division of the level goes on with it.
pub rest-stops : (f l : ℕ) (t : Term) (w : List Symbol) → infix_level (lookup infixes not_infix (first_of w)) < l → parse_term_rest f l t w ≡ got t w
unfolding parse_term_rest kind_at
rest-stops zero l t w h = refl
rest-stops (suc f) l t w h = go (lookup infixes not_infix (first_of w)) refl h
  where
    go : (i : Infix) → lookup infixes not_infix (first_of w) ≡ i → infix_level i < l → parse_term_rest (suc f) l t w ≡ got t w
    go (between o) e g = rw (parse_term_rest, e, lt-leb l (operator_level o) g)
    go (divides o) e g = rw (parse_term_rest, e, lt-leb l division_level g)
    go not_infix e g = rw (parse_term_rest, e)

infix_operator : (o : Operator) → lookup infixes not_infix (operator_kind o) ≡ between o
unfolding lookup is code_of
infix_operator plus = refl
infix_operator minus = refl
infix_operator union = refl
infix_operator without = refl
infix_operator times = refl
infix_operator inter = refl

infix-division : (o : Division) → lookup infixes not_infix (division_kind o) ≡ divides o
unfolding lookup is code_of
infix-division quotient = refl
infix-division remainder = refl

pub rest-operator : (o : Operator) (f l : ℕ) (t u : Term) (v w : List Symbol) → l ≤ operator_level o → parse_term f (suc (operator_level o)) v ≡ got u w
    → parse_term_rest (suc f) l t (fixed (operator_kind o) ∷ v) ≡ parse_term_rest f l (binary o t u) w
unfolding parse_term_rest kind_at
rest-operator o f l t u v w h e = rw (parse_term_rest, infix_operator o, le-leb l (operator_level o) h, e)

pub rest-division : (o : Division) (f l : ℕ) (t : Term) (n : End) (v w : List Symbol) → l ≤ division_level → parse_end v ≡ got n w
    → parse_term_rest (suc f) l t (fixed (division_kind o) ∷ v) ≡ parse_term_rest f l (divided o t n) w
unfolding parse_term_rest kind_at
rest-division o f l t n v w h e = rw (parse_term_rest, infix-division o, le-leb l division_level h, e)

-- an end of a range, and a range
end_reads : (b : Bool) (n : ℕ) (w : List Written) → parse_end (symbols_in (minus_of b (digits n ∷ w))) ≡ got (record { negative = b; magnitude = n }) (symbols_in w)
unfolding parse_end is code_of kind_at
end_reads true n w = refl
end_reads false n w = refl

pub reads_end : (e : End) (w : List Written) → parse_end (symbols_in (write_end e w)) ≡ got e (symbols_in w)
reads_end e w = end_reads e.negative e.magnitude w

pub reads-range : (r : Range) (w : List Written) → parse_range (symbols_in (write_range r w)) ≡ got r (symbols_in w)
unfolding parse_range
reads-range r w = rw (parse_range, reads_end r.lower (bare kind.up_to ∷ write_end r.upper w), reads_end r.upper w)

-- What a term begins with, before operators: a number, a name, [, a prefix, {, `empty`.
pub operand-number : (f n : ℕ) (w : List Symbol) → parse_operand (suc f) (numeral n ∷ w) ≡ got (number n) w
unfolding parse_operand lookup is code_of kind_at
operand-number f n w = refl

start-name : (e : Ending) → lookup starts a_name (kind_of_name e) ≡ a_name
unfolding lookup is code_of
start-name no_ending = refl
start-name prime = refl
start-name query = refl
start-name shriek = refl

pub operand-name : (f : ℕ) (x : Name) (w : List Symbol) → parse_operand (suc f) (symbol.name x ∷ w) ≡ got (name x) w
unfolding parse_operand kind_at
operand-name f x w = rw (parse_operand, start-name x.ending)

pub operand-group : (f : ℕ) (t : Term) (v w : List Symbol) → parse_term f 1 v ≡ got t (fixed kind.close_bracket ∷ w)
    → parse_operand (suc f) (fixed kind.open_bracket ∷ v) ≡ got (group t) w
unfolding parse_operand lookup is code_of kind_at
operand-group f t v w e = rw (parse_operand, e)

start-prefix : (o : Prefix) → lookup starts a_name (prefix_kind o) ≡ a_prefix o
unfolding lookup is code_of
start-prefix negate = refl
start-prefix size = refl
start-prefix dom = refl
start-prefix ran = refl

pub operand_prefix : (o : Prefix) (f : ℕ) (t : Term) (v w : List Symbol) → parse_operand f v ≡ got t w → parse_operand (suc f) (fixed (prefix_kind o) ∷ v) ≡ got (prefix o t) w
unfolding parse_operand kind_at
operand_prefix o f t v w e = rw (parse_operand, start-prefix o, e)

pub operand-brace : (f : ℕ) (t : Term) (v w : List Symbol) → parse_brace f v ≡ got t w → parse_operand (suc f) (fixed kind.open_brace ∷ v) ≡ got t w
unfolding parse_operand lookup is code_of kind_at
operand-brace f t v w e = e

pub operand-empty : (f : ℕ) (g : Name) (w : List Symbol) → is_name_kind (first_of w) ≡ false
    → parse_operand (suc f) (fixed kind.EMPTY ∷ symbol.name g ∷ w) ≡ got (empty_set g) w
unfolding parse_operand parse_empty lookup is code_of kind_at
operand-empty f g w e = rw (parse_empty, e)

pub name-kind : (e : Ending) → is_name_kind (kind_of_name e) ≡ true
unfolding lookup is code_of
name-kind no_ending = refl
name-kind prime = refl
name-kind query = refl
name-kind shriek = refl

pub operand-empty-pairs : (f : ℕ) (g h : Name) (w : List Symbol)
    → parse_operand (suc f) (fixed kind.EMPTY ∷ symbol.name g ∷ symbol.name h ∷ w) ≡ got (empty_pairs g h) w
unfolding parse_operand parse_empty lookup is code_of kind_at
operand-empty-pairs f g h w = rw (parse_empty, name-kind h.ending)

-- The inside of a brace: a bound name, told by the name and : that it begins with; else terms or pairs, told by what stands behind the first term.
abbrev pub binds_at : List Symbol → Bool
binds_at v = is (kind_at v 0) kind.plain && is (kind_at v 1) kind.colon

pub brace-such : (f : ℕ) (x : Letters) (g : Name) (p : Pred) (v w : List Symbol) → parse_pred f 1 v ≡ got p (fixed kind.close_brace ∷ w)
    → parse_brace (suc f) (symbol.name (record { letters = x; ending = no_ending }) ∷ fixed kind.colon ∷ symbol.name g ∷ fixed kind.bar ∷ v) ≡ got (such x g p) w
unfolding parse_brace is code_of kind_at
brace-such f x g p v w e = rw (parse_brace, e)

pub brace-listed : (f : ℕ) (t : Term) (ts : Items) (u v w : List Symbol) → binds_at v ≡ false → parse_term f 1 v ≡ got t u → is (first_of u) kind.maplet ≡ false
    → parse_items f t u ≡ got ts (fixed kind.close_brace ∷ w) → parse_brace (suc f) v ≡ got (listed ts) w
unfolding parse_brace kind_at
brace-listed f t ts u v w b e m h = rw (parse_brace, b, e, m, e, h)

pub brace-pairs : (f : ℕ) (t : Term) (ts : Pairs) (u v w : List Symbol) → binds_at v ≡ false → parse_term f 1 v ≡ got t u → is (first_of u) kind.maplet ≡ true
    → parse_pairs f t u ≡ got ts (fixed kind.close_brace ∷ w) → parse_brace (suc f) v ≡ got (pairs ts) w
unfolding parse_brace kind_at
brace-pairs f t ts u v w b e m h = rw (parse_brace, b, e, m, e, h)

-- behind a term or pair of a list: the closing brace ends the list, a comma goes on with it
pub items-end : (f : ℕ) (t : Term) (w : List Symbol) → parse_items f t (fixed kind.close_brace ∷ w) ≡ got (only t) (fixed kind.close_brace ∷ w)
unfolding parse_items is code_of kind_at
items-end zero t w = refl
items-end (suc f) t w = refl

pub items_more : (f : ℕ) (t u : Term) (ts : Items) (v w x : List Symbol) → parse_term f 1 v ≡ got u w → parse_items f u w ≡ got ts x
    → parse_items (suc f) t (fixed kind.comma ∷ v) ≡ got (also t ts) x
unfolding parse_items is code_of kind_at
items_more f t u ts v w x e h = rw (parse_items, e, h)

pub pairs_end : (f : ℕ) (t u : Term) (v w : List Symbol) → parse_term f 1 v ≡ got u (fixed kind.close_brace ∷ w)
    → parse_pairs (suc f) t (fixed kind.maplet ∷ v) ≡ got (only_pair t u) (fixed kind.close_brace ∷ w)
unfolding parse_pairs is code_of kind_at
pairs_end f t u v w e = rw (parse_pairs, e, e)

pub pairs-more : (f : ℕ) (t u s : Term) (ts : Pairs) (v w x y : List Symbol) → parse_term f 1 v ≡ got u (fixed kind.comma ∷ w) → parse_term f 1 w ≡ got s x
    → parse_pairs f s x ≡ got ts y → parse_pairs (suc f) t (fixed kind.maplet ∷ v) ≡ got (also_pair t u ts) y
unfolding parse_pairs is code_of kind_at
pairs-more f t u s ts v w x y e h g = rw (parse_pairs, e, e, h, g)
