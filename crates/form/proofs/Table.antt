-- What holds of each entry of a table over kinds, and of its default, holds of what is looked up; and what a symbol of a kind carries.
use mathlib.Core.Path.{◌≡◌, refl, ap, ◌∙◌, sym, subst}
use mathlib.Core.Bool.{Bool, true, false, cond, true≢false}
use mathlib.Core.List.{List, [], ◌∷◌, ◌++◌}
use Prim.Native.Nat.{ℕ}
use lib.Dec.{eqb, leb}
use borrow.Author.Tests.{eqb-true}
use Rattle.std.specs.Simd.Lanes.{Each1}
use Rattle.lexical.specs.Kinds as kind
use Rattle.lexical.specs.Kinds.{Kind, code_of, is, lookup}
use Rattle.lexical.specs.Symbols.{Symbol, fixed, numeral, name, Ending, no_ending, prime, query, shriek, kind_of, kind_of_name}
use Rattle.form.specs.Tree.{Letters}

-- all kinds
abbrev pub kinds : List Kind
kinds =
    kind.number ∷ kind.plain ∷ kind.primed ∷ kind.input ∷ kind.output ∷ kind.colon ∷ kind.semicolon ∷ kind.comma ∷ kind.bar ∷ kind.spot
    ∷ kind.open_paren ∷ kind.close_paren ∷ kind.open_bracket ∷ kind.close_bracket ∷ kind.open_brace ∷ kind.close_brace ∷ kind.up_to ∷ kind.equals
    ∷ kind.differs ∷ kind.less ∷ kind.at_most ∷ kind.implies ∷ kind.iff ∷ kind.plus ∷ kind.minus ∷ kind.times ∷ kind.size ∷ kind.maplet
    ∷ kind.relation ∷ kind.partial ∷ kind.total ∷ kind.CONTENTS ∷ kind.GIVEN ∷ kind.ABSTRACT ∷ kind.CONCRETE ∷ kind.AINIT ∷ kind.CINIT
    ∷ kind.RETRIEVE ∷ kind.OP ∷ kind.END ∷ kind.WHERE ∷ kind.POWER ∷ kind.EMPTY ∷ kind.TRUE ∷ kind.FALSE ∷ kind.NOT ∷ kind.AND ∷ kind.OR
    ∷ kind.FORALL ∷ kind.EXISTS ∷ kind.EXISTS1 ∷ kind.IN ∷ kind.NOTIN ∷ kind.UNION ∷ kind.MINUS ∷ kind.INTER ∷ kind.DIV ∷ kind.MOD ∷ kind.DOM
    ∷ kind.RAN ∷ []

-- the kind with the number n in a list, or a number's
abbrev pub kind_in : List Kind → ℕ → Kind
kind_in [] n = kind.number
kind_in (k ∷ ks) n = elim (eqb (code_of k) n) [ true ↦ k | false ↦ kind_in ks n ]

-- a kind is told by its number
pub kind-back : (k : Kind) → kind_in kinds (code_of k) ≡ k
unfolding code_of
kind-back kind.number = refl
kind-back kind.plain = refl
kind-back kind.primed = refl
kind-back kind.input = refl
kind-back kind.output = refl
kind-back kind.colon = refl
kind-back kind.semicolon = refl
kind-back kind.comma = refl
kind-back kind.bar = refl
kind-back kind.spot = refl
kind-back kind.open_paren = refl
kind-back kind.close_paren = refl
kind-back kind.open_bracket = refl
kind-back kind.close_bracket = refl
kind-back kind.open_brace = refl
kind-back kind.close_brace = refl
kind-back kind.up_to = refl
kind-back kind.equals = refl
kind-back kind.differs = refl
kind-back kind.less = refl
kind-back kind.at_most = refl
kind-back kind.implies = refl
kind-back kind.iff = refl
kind-back kind.plus = refl
kind-back kind.minus = refl
kind-back kind.times = refl
kind-back kind.size = refl
kind-back kind.maplet = refl
kind-back kind.relation = refl
kind-back kind.partial = refl
kind-back kind.total = refl
kind-back kind.CONTENTS = refl
kind-back kind.GIVEN = refl
kind-back kind.ABSTRACT = refl
kind-back kind.CONCRETE = refl
kind-back kind.AINIT = refl
kind-back kind.CINIT = refl
kind-back kind.RETRIEVE = refl
kind-back kind.OP = refl
kind-back kind.END = refl
kind-back kind.WHERE = refl
kind-back kind.POWER = refl
kind-back kind.EMPTY = refl
kind-back kind.TRUE = refl
kind-back kind.FALSE = refl
kind-back kind.NOT = refl
kind-back kind.AND = refl
kind-back kind.OR = refl
kind-back kind.FORALL = refl
kind-back kind.EXISTS = refl
kind-back kind.EXISTS1 = refl
kind-back kind.IN = refl
kind-back kind.NOTIN = refl
kind-back kind.UNION = refl
kind-back kind.MINUS = refl
kind-back kind.INTER = refl
kind-back kind.DIV = refl
kind-back kind.MOD = refl
kind-back kind.DOM = refl
kind-back kind.RAN = refl

-- kinds are compared by their numbers
pub is-equal : (k j : Kind) → is k j ≡ true → k ≡ j
unfolding is
is-equal k j e = sym (kind-back k) ∙ ap (kind_in kinds) (eqb-true (code_of k) (code_of j) e) ∙ kind-back j

-- what holds of each entry of a table
abbrev pub Each : {A : Type 0} → (Kind → A → Type 0) → List (Kind × A) → Type 0
Each {A} P t = Each1 (λ (e : Kind × A). P e.0 e.1) t

-- the first entry's proof, and the others'
infixr 20 ◌&◌
abbrev pub ◌&◌ : {A B : Type 0} → A → B → A × B
a & b = (a, b)

-- what holds of each entry and of the default holds of what is looked up
pub by-table : {A : Type 0} (P : Kind → A → Type 0) (table : List (Kind × A)) (d : A) (k : Kind) → Each P table → P k d → P k (lookup table d k)
unfolding lookup
by-table P [] d k h p = p
by-table {A} P (e ∷ t) d k h p = on (is k e.0) refl (by-table P t d k h.1 p)
  where
    on : (b : Bool) → is k e.0 ≡ b → P k (lookup t d k) → P k (elim b as (λ (x : Bool). A) [ true ↦ e.1 | false ↦ lookup t d k ])
    on true q r = subst (λ (j : Kind). P j e.1) (sym (is-equal k e.0 q)) h.0
    on false q r = r

-- Numbers and names have the numbers below 10. A symbol is spelled if it is no fixed symbol of such a kind, which no text has.
abbrev pub is_fixed : Kind → Bool
is_fixed k = leb 10 (code_of k)

abbrev pub Spelled : Symbol → Type 0
Spelled (fixed k) = is_fixed k ≡ true
Spelled (numeral n) = Unit {0}
Spelled (name x) = Unit {0}

abbrev pub AllSpelled : List Symbol → Type 0
AllSpelled w = Each1 Spelled w

pub spelled-append : (u w : List Symbol) → AllSpelled u → AllSpelled w → AllSpelled (u ++ w)
spelled-append [] w p q = q
spelled-append (s ∷ u) w p q = (p.0, spelled-append u w p.1 q)

-- what a symbol carries beside its kind: a number its value, a name its letters
abbrev pub carried : (is_fixed is_number : Bool) → Type 0
carried true b = Unit {0}
carried false true = ℕ
carried false false = Letters

abbrev pub Carried : Kind → Type 0
Carried k = carried (is_fixed k) (is k kind.number)

-- the ending that a name of the kind k has
abbrev pub ending_at : Kind → Ending
ending_at k = cond (is k kind.primed) prime (cond (is k kind.input) query (cond (is k kind.output) shriek no_ending))

abbrev pub symbol_from : (a b : Bool) (k : Kind) → carried a b → Symbol
symbol_from true b k c = fixed k
symbol_from false true k n = numeral n
symbol_from false false k x = name (record { letters = x; ending = ending_at k })

-- the symbol of a kind that carries this
abbrev pub symbol_of : (k : Kind) → Carried k → Symbol
symbol_of k c = symbol_from (is_fixed k) (is k kind.number) k c

-- a spelled symbol is its kind and what it carries
pub carries : (s : Symbol) → Spelled s → (c : Carried (kind_of s)) × (symbol_of (kind_of s) c ≡ s)
unfolding is code_of
carries (fixed k) h = at (is_fixed k) h
  where
    at : (a : Bool) → a ≡ true → (c : carried a (is k kind.number)) × (symbol_from a (is k kind.number) k c ≡ fixed k)
    at true e = (tt, refl)
    at false e = absurd (true≢false (sym e))
carries (numeral n) h = (n, refl)
carries (name x) h = at x.ending
  where
    at : (e : Ending) → (c : Carried (kind_of_name e)) × (symbol_of (kind_of_name e) c ≡ name (record { letters = x.letters; ending = e }))
    at no_ending = (x.letters, refl)
    at prime = (x.letters, refl)
    at query = (x.letters, refl)
    at shriek = (x.letters, refl)
