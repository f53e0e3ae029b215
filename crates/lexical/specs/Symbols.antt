-- Document 01, "Symbols": bytes to symbols, and numbers 1, 2 and 3.
use Rattle.std.specs.Prelude.{Bool, true, false, not, ◌&&◌, ◌||◌, cond, List, [], ◌∷◌, map, ℕ, zero, suc, pred, ◌+◌, ◌-◌, ◌*◌, eqb, leb, ltb, length, drop, get_or}
use Rattle.std.proofs.Math.Option.{Option, none, some}
use Prim.Native.String.{String}
use Rattle.lexical.specs.Lists.{bytes, same, begins, all, any}
use Rattle.lexical.specs.Kinds.{Kind, number, plain, primed, input, output, marks, words}
use Rattle.refusals.specs.Refusals.{Fault, fault, long_text, unlisted_symbol, many_symbols}

-- "Bytes are sorted into classes by range: letters, digits, marks, blanks, all others."
pub data Class : Type 0 where
  letter digit mark blank other : Class

unfoldable pub between : ℕ → ℕ → ℕ → Bool
between lo hi b = leb lo b && leb b hi

-- "Space and newline separate."; the bytes that marks are made of
unfoldable pub class_of : ℕ → Class
class_of b =
    cond (between 97 122 b || between 65 90 b) letter
    (cond (between 48 57 b) digit
    (cond (eqb b 32 || eqb b 10) blank
    (cond (any (eqb b) (bytes ":;,|@()[]{}.=/<>+-*#")) mark other)))

-- what may end a name: nothing, ' ? or !
pub data Ending : Type 0 where
  no_ending prime query shriek : Ending

pub record Name : Type 0 where
  pub letters : List ℕ
  pub ending : Ending

pub data Symbol : Type 0 where
  -- a mark or a reserved word
  fixed : Kind → Symbol
  -- a number, by its value
  numeral : ℕ → Symbol
  name : Name → Symbol

abbrev pub kind_of_name : Ending → Kind
kind_of_name no_ending = plain
kind_of_name prime = primed
kind_of_name query = input
kind_of_name shriek = output

abbrev pub kind_of : Symbol → Kind
kind_of (fixed k) = k
kind_of (numeral n) = number
kind_of (name x) = kind_of_name x.ending

-- what some bytes begin with: a blank; a symbol, and how many bytes it has; a byte or symbol not listed
pub data Found : Type 0 where
  gap unlisted : Found
  found : Symbol → (length : ℕ) → Found

abbrev pub in_run : Class → Bool
in_run letter = true
in_run digit = true
in_run mark = false
in_run blank = false
in_run other = false

abbrev pub is_digit : Class → Bool
is_digit letter = false
is_digit digit = true
is_digit mark = false
is_digit blank = false
is_digit other = false

-- "A run of letters and digits is one symbol."
unfoldable pub run : List ℕ → List ℕ
run [] = []
run (b ∷ w) = elim (in_run (class_of b)) [ true ↦ b ∷ run w | false ↦ [] ]

-- the number that decimal digits write, after those that wrote n
unfoldable pub decimal_from : ℕ → List ℕ → ℕ
decimal_from n [] = n
decimal_from n (b ∷ w) = decimal_from (n * 10 + (b - 48)) w

-- "a number's is 0 to 1,000 without a leading zero"
unfoldable pub is_number : List ℕ → Bool
is_number r = all (λ (b : ℕ). is_digit (class_of b)) r && (eqb (length r) 1 || not (eqb (get_or r 0 48) 48)) && leb (decimal_from 0 r) 1000

unfoldable pub number_found : List ℕ → Found
number_found r = cond (is_number r) (found (numeral (decimal_from 0 r)) (length r)) unlisted

unfoldable pub reserved : List (String × Kind) → List ℕ → Option Kind
reserved [] r = none
reserved (e ∷ t) r = elim (same (bytes e.0) r) [ true ↦ some e.1 | false ↦ reserved t r ]

-- "takes along one ' ? or ! right after it"
unfoldable pub ending_of : List ℕ → Ending
ending_of [] = no_ending
ending_of (b ∷ w) = cond (eqb b 39) prime (cond (eqb b 63) query (cond (eqb b 33) shriek no_ending))

abbrev pub ending_length : Ending → ℕ
ending_length no_ending = 0
ending_length prime = 1
ending_length query = 1
ending_length shriek = 1

-- "A name's starts with a letter and has 16 at most"; a reserved word is "with a ' ? or ! not listed at all"
unfoldable pub word_of : List ℕ → Ending → Option Kind → Found
word_of r e none = cond (leb (length r) 16) (found (name (record { letters = r; ending = e })) (length r + ending_length e)) unlisted
word_of r no_ending (some k) = found (fixed k) (length r)
word_of r prime (some k) = unlisted
word_of r query (some k) = unlisted
word_of r shriek (some k) = unlisted

-- the longest of the marks that the bytes w begin with, and of what was found before
abbrev pub longer : Found → Kind → ℕ → Found
longer gap k n = found (fixed k) n
longer unlisted k n = found (fixed k) n
longer (found s m) k n = cond (ltb m n) (found (fixed k) n) (found s m)

unfoldable pub longest : List (String × Kind) → List ℕ → Found
longest [] w = unlisted
longest (e ∷ t) w = elim (begins (bytes e.0) w) [ true ↦ longer (longest t w) e.1 (length (bytes e.0)) | false ↦ longest t w ]

unfoldable pub by_class : Class → List ℕ → Found
by_class letter w = let r : List ℕ = run w in word_of r (ending_of (drop (length r) w)) (reserved words r)
by_class digit w = number_found (run w)
by_class mark w = longest marks w
by_class blank w = gap
by_class other w = unlisted

unfoldable pub symbol_at : List ℕ → Found
symbol_at w = by_class (class_of (get_or w 0 0)) w

-- a symbol and the place of its first byte
pub record Placed : Type 0 where
  pub symbol : Symbol
  pub place : ℕ

-- the symbols of a text, up to its end or to the place of a byte or symbol not listed
pub data Scan : Type 0 where
  done : Scan
  stopped : (place : ℕ) → Scan
  next : Placed → Scan → Scan

abbrev pub scanned : (skip : ℕ) → Found → (ℕ → ℕ → Scan) → ℕ → Scan
scanned (suc k) f rest p = rest k (p + 1)
scanned zero gap rest p = rest 0 (p + 1)
scanned zero (found s n) rest p = next (record { symbol = s; place = p }) (rest (pred n) (p + 1))
scanned zero unlisted rest p = stopped p

-- the symbols from the place p on; the first `skip` bytes belong to a symbol already taken
unfoldable pub scan_from : List ℕ → (skip p : ℕ) → Scan
scan_from [] skip p = done
scan_from (b ∷ w) skip p = scanned skip (symbol_at (b ∷ w)) (scan_from w) p

unfoldable pub scan : List ℕ → Scan
scan text = scan_from text 0 0

unfoldable pub symbols : Scan → List Placed
symbols done = []
symbols (stopped p) = []
symbols (next x s) = x ∷ symbols s

-- "P the byte offset": the first byte of the symbol i; the text's end, its length
unfoldable pub place_at : List ℕ → ℕ → ℕ
place_at text i = get_or (map (λ (x : Placed). x.place) (symbols (scan text))) i (length text)

-- 1. "Text over 32,768 bytes; place 32,768."
unfoldable pub length_faults : List ℕ → List Fault
length_faults text = cond (ltb 32768 (length text)) (fault 32768 long_text ∷ []) []

-- 2. "A byte or symbol not listed; its first byte." 3. "Symbol 4,097."; n symbols stand before
unfoldable pub scan_faults : (n : ℕ) → Scan → List Fault
scan_faults n done = []
scan_faults n (stopped p) = fault p unlisted_symbol ∷ []
scan_faults n (next x s) = elim (eqb n 4096) [ true ↦ fault x.place many_symbols ∷ scan_faults (suc n) s | false ↦ scan_faults (suc n) s ]
