-- What the functions below `scan` promise each other. Nothing here need be believed: `Promises.Scans` names none of it.
use Rattle.std.specs.Prelude.{◌≡◌, List, [], ◌∷◌, map, Bool, true, false, cond, ◌&&◌, ℕ, zero, suc, ◌+◌, ◌*◌, ◌-◌, ◌/◌, ◌%◌, ◌≤◌, ◌<◌, eqb, leb, length, take, get_or, Some, None, Ok}
use Rattle.std.specs.Prelude as prelude
use Rattle.std.proofs.Math.Option.{Option, none, some}
use Prim.Native.String.{String}
use Rattle.lexical.specs.Lists.{bytes}
use Rattle.lexical.specs.Kinds.{Kind, code_of}
use Rattle.refusals.specs.Refusals.{least}
use Rattle.lexical.specs.Symbols.{Symbol, fixed, numeral}
use Rattle.lexical.specs.Symbols as symbol
use Rattle.lexical.specs.Symbols.{Found, gap, unlisted, found, Placed, scan, symbols, scan_faults, Ending, no_ending, prime, query, shriek, class_of, is_digit}
use Rattle.lexical.specs.declared.Ending as name
use Rattle.lexical.specs.declared.Ending.TheVariants.{Plain, Prime, Query, Shriek}
use Rattle.lexical.specs.declared.Stop.{Stop}
use Rattle.lexical.specs.declared.Stop.TheVariants.{At, Free, Deep}
use Rattle.lexical.specs.declared.Token.{Token}
use Rattle.lexical.specs.declared.Token.TheVariants.{Gap, Unlisted, Listed}
use Rattle.lexical.specs.Promises.{number_in, code_in, Scanned, fault_of, taken, filled, value_in}

-- what the code says of what was found
abbrev pub token_of : Found → Token
token_of gap = Gap
token_of unlisted = Unlisted
token_of (found s n) = Listed (code_in s) n (number_in s)

-- the first k bytes as one number, the first byte lowest
unfoldable pub packed : ℕ → List ℕ → ℕ
packed zero w = 0
packed (suc k) [] = 0
packed (suc k) (b ∷ w) = b + 256 * packed k w

-- the code of the word of a table whose packed bytes are the key, or 0
unfoldable pub keyed : List (String × Kind) → ℕ → prelude.Option ℕ
keyed [] key = None
keyed (e ∷ t) key = elim (eqb key (packed 8 (bytes e.0))) [ true ↦ Some (code_of e.1) | false ↦ keyed t key ]

abbrev pub word_code : Option Kind → prelude.Option ℕ
word_code none = None
word_code (some k) = Some (code_of k)

-- the ending that the code's ending is
abbrev pub ending_is : name.Ending → Ending
ending_is Plain = no_ending
ending_is Prime = prime
ending_is Query = query
ending_is Shriek = shriek

-- what one more digit makes of a number that is at most 1,000 then
unfoldable pub more_of : ℕ → ℕ → prelude.Option ℕ
more_of v b = cond (is_digit (class_of b)) (cond (leb (v * 10 + (b - 48)) 1000) (Some (v * 10 + (b - 48))) None) None

-- what the digits w make of a number
unfoldable pub decimal_after : ℕ → List ℕ → prelude.Option ℕ
decimal_after v [] = Some v
decimal_after v (b ∷ w) = elim (more_of v b) [ Some m ↦ decimal_after m w | None ↦ None ]

-- what a scan answers, of a text that is not too long, and what it leaves in the three arrays
pub record Takes (text codes₀ starts₀ values₀ codes starts values : List ℕ) (r : Scanned) : Type 0 where
  pub answer : fault_of r ≡ least (scan_faults 0 (scan text))
  pub counted : (n : ℕ) → r ≡ Ok n → n ≡ length (symbols (scan text))
  pub few : (n : ℕ) → r ≡ Ok n → n ≤ 4096
  pub coded : codes ≡ filled (λ (x : Placed). code_in x.symbol) (taken text) codes₀
  pub placed : starts ≡ filled (λ (x : Placed). x.place) (taken text) starts₀
  pub valued : values ≡ filled (λ (x : Placed). number_in x.symbol) (taken text) values₀

-- a code of a name
abbrev pub is_name : ℕ → Bool
is_name c = leb 2 c && leb c 5

-- the letters of a name as one number; 0 for another symbol
abbrev pub letters_in : Symbol → ℕ
letters_in (fixed k) = 0
letters_in (numeral n) = 0
letters_in (symbol.name x) = packed 16 x.letters

abbrev pub filled_letters : List ℕ → List ℕ → List ℕ
filled_letters s old = filled (λ (x : Placed). letters_in x.symbol) (symbols (scan s)) old

abbrev pub filled_numbers : List ℕ → List ℕ
filled_numbers s = map (λ (x : Placed). number_in x.symbol) (symbols (scan s))

abbrev pub filled_values : List ℕ → List ℕ → List ℕ
filled_values s old = filled (λ (x : Placed). value_in (symbols (scan s)) x.symbol) (symbols (scan s)) old

-- the first n places of two arrays hold the codes and the places of all symbols of a text
pub record Rows (s codes starts : List ℕ) (n : ℕ) : Type 0 where
  pub short : length s ≤ 32768
  pub few : n ≤ 4096
  pub counted : n ≡ length (symbols (scan s))
  pub coded : take n codes ≡ map (λ (x : Placed). code_in x.symbol) (symbols (scan s))
  pub placed : take n starts ≡ map (λ (x : Placed). x.place) (symbols (scan s))

-- a step of a walk: at a slot that holds nothing, or a symbol's number and one
abbrev pub visited : (t slot : ℕ) → (ℕ → Bool) → (ℕ → Stop) → Stop
visited zero slot is rest = Free slot
visited (suc m) slot is rest = elim (is m) [ true ↦ At m | false ↦ rest m ]

-- a walk for the letters a down a tree of symbols, by the bits of p
unfoldable pub walk_from : ℕ → (letters tree : List ℕ) → (a p slot : ℕ) → Stop
walk_from zero letters tree a p slot = Deep
walk_from (suc f) letters tree a p slot =
    visited (get_or tree slot 0) slot (λ (m : ℕ). eqb (get_or letters m 0) a)
    (λ (m : ℕ). walk_from f letters tree a (p / 2) (2 * m + p % 2))

-- m is the first symbol that has the letters of symbol i
pub record IsFirst (letters : List ℕ) (i m : ℕ) : Type 0 where
  pub up_to : m ≤ i
  pub same : get_or letters m 0 ≡ get_or letters i 0
  pub none : (j : ℕ) → j < m → get_or letters j 0 ≡ get_or letters i 0 → ⊥

-- what a walk says of symbol j: the first symbol with its letters, or nothing
pub data Reached (letters : List ℕ) (j : ℕ) : Stop → Type 0 where
  reached : {m : ℕ} → IsFirst letters j m → Reached letters j (At m)
  deep : Reached letters j Deep

-- the tree of the names among the first i symbols
pub record Tree (letters tree : List ℕ) (i : ℕ) : Type 0 where
  pub below : (k : ℕ) → get_or tree k 0 ≤ i
  pub firsts : (k v : ℕ) → get_or tree k 0 ≡ suc v → IsFirst letters v v
  pub known : (j : ℕ) → j < i → (get_or letters j 0 ≡ 0 → ⊥)
      → Reached letters j (walk_from 128 letters tree (get_or letters j 0) (get_or letters j 0) 8192)
