-- Document 01, "Symbols": the kinds of symbol, and how each mark and each reserved word is spelled.
use Rattle.std.specs.Prelude.{List, [], ◌∷◌, Bool, true, false, ℕ, eqb}
use Prim.Native.String.{String}

pub data Kind : Type 0 where
  -- a number; a name by its ending: none, ', ?, !
  number plain primed input output : Kind
  -- : ; , | @ ( ) [ ] { } ..
  colon semicolon comma bar spot open_paren close_paren open_bracket close_bracket open_brace close_brace up_to : Kind
  -- = /= < <= => <=> + - * # |-> <-> -+> -->
  equals differs less at_most implies iff plus minus times size maplet relation partial total : Kind
  -- the words in BASE other than its names
  CONTENTS GIVEN ABSTRACT CONCRETE AINIT CINIT RETRIEVE OP END WHERE POWER EMPTY TRUE : Kind
  -- the other reserved words
  FALSE NOT AND OR FORALL EXISTS EXISTS1 IN NOTIN UNION MINUS INTER DIV MOD DOM RAN : Kind

-- "Marks: ..., the longest match taken"
abbrev pub marks : List (String × Kind)
marks = (":", colon) ∷ (";", semicolon) ∷ (",", comma) ∷ ("|", bar) ∷ ("@", spot) ∷ ("(", open_paren) ∷ (")", close_paren)
    ∷ ("[", open_bracket) ∷ ("]", close_bracket) ∷ ("{", open_brace) ∷ ("}", close_brace) ∷ ("..", up_to) ∷ ("=", equals) ∷ ("/=", differs)
    ∷ ("<", less) ∷ ("<=", at_most) ∷ ("=>", implies) ∷ ("<=>", iff) ∷ ("+", plus) ∷ ("-", minus) ∷ ("*", times) ∷ ("#", size)
    ∷ ("|->", maplet) ∷ ("<->", relation) ∷ ("-+>", partial) ∷ ("-->", total) ∷ []

-- "Reserved ...: the words in BASE other than its names, and ..."
abbrev pub words : List (String × Kind)
words = ("contents", CONTENTS) ∷ ("given", GIVEN) ∷ ("abstract", ABSTRACT) ∷ ("concrete", CONCRETE) ∷ ("ainit", AINIT) ∷ ("cinit", CINIT)
    ∷ ("retrieve", RETRIEVE) ∷ ("op", OP) ∷ ("end", END) ∷ ("where", WHERE) ∷ ("P", POWER) ∷ ("empty", EMPTY) ∷ ("true", TRUE)
    ∷ ("and", AND) ∷ ("or", OR) ∷ ("not", NOT) ∷ ("false", FALSE) ∷ ("forall", FORALL) ∷ ("exists", EXISTS) ∷ ("exists1", EXISTS1)
    ∷ ("in", IN) ∷ ("notin", NOTIN) ∷ ("union", UNION) ∷ ("minus", MINUS) ∷ ("inter", INTER) ∷ ("div", DIV) ∷ ("mod", MOD) ∷ ("dom", DOM) ∷ ("ran", RAN) ∷ []

-- a number for each kind, so that kinds are compared by numbers
unfoldable pub code_of : Kind → ℕ
code_of number = 1
code_of plain = 2
code_of primed = 3
code_of input = 4
code_of output = 5
code_of colon = 10
code_of semicolon = 11
code_of comma = 12
code_of bar = 13
code_of spot = 14
code_of open_paren = 15
code_of close_paren = 16
code_of open_bracket = 17
code_of close_bracket = 18
code_of open_brace = 19
code_of close_brace = 20
code_of up_to = 21
code_of equals = 22
code_of differs = 23
code_of less = 24
code_of at_most = 25
code_of implies = 26
code_of iff = 27
code_of plus = 28
code_of minus = 29
code_of times = 30
code_of size = 31
code_of maplet = 32
code_of relation = 33
code_of partial = 34
code_of total = 35
code_of CONTENTS = 36
code_of GIVEN = 37
code_of ABSTRACT = 38
code_of CONCRETE = 39
code_of AINIT = 40
code_of CINIT = 41
code_of RETRIEVE = 42
code_of OP = 43
code_of END = 44
code_of WHERE = 45
code_of POWER = 46
code_of EMPTY = 47
code_of TRUE = 48
code_of FALSE = 49
code_of NOT = 50
code_of AND = 51
code_of OR = 52
code_of FORALL = 53
code_of EXISTS = 54
code_of EXISTS1 = 55
code_of IN = 56
code_of NOTIN = 57
code_of UNION = 58
code_of MINUS = 59
code_of INTER = 60
code_of DIV = 61
code_of MOD = 62
code_of DOM = 63
code_of RAN = 64

unfoldable pub is : Kind → Kind → Bool
is k j = eqb (code_of k) (code_of j)

-- the first entry at the kind k of a table, or d
unfoldable pub lookup : {A : Type 0} → List (Kind × A) → A → Kind → A
lookup [] d k = d
lookup (e ∷ t) d k = elim (is k e.0) [ true ↦ e.1 | false ↦ lookup t d k ]
