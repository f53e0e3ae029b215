-- What holds of every mark and reserved word, every number of at most 1,000 and every name holds of every symbol of every text.
use mathlib.Core.Path.{◌≡◌, refl}
use mathlib.Core.Bool.{Bool, true, false, cond, not, ◌&&◌, ◌||◌}
use mathlib.Core.List.{List, [], ◌∷◌, map}
use mathlib.Core.Option.{Option, none, some}
use Prim.Native.Nat.{ℕ, zero, suc, ◌+◌, ◌≤◌}
use Prim.Native.String.{String}
use lib.Dec.{eqb, leb, ltb}
use lib.ListN.{length, drop, get_or}
use borrow.Author.Tests.{leb-true}
use Rattle.lexical.specs.Lists.{bytes, same, begins, all}
use Rattle.lexical.specs.Kinds.{Kind, marks, words}
use Rattle.lexical.specs.Symbols.{Class, letter, digit, mark, blank, other, Ending, no_ending, prime, query, shriek, Name, Symbol, fixed, numeral, name, Found, gap, unlisted, found}
use Rattle.lexical.specs.Symbols.{class_of, is_digit, run, decimal_from, is_number, number_found, reserved, ending_of, ending_length, word_of, longer, longest, by_class, symbol_at}
use Rattle.lexical.specs.Symbols.{Placed, scanned, scan_from, scan, symbols}
use Rattle.lexical.proofs.BooleanTests.{and_right, all-parts}

abbrev OfFound : (Symbol → Type 0) → Found → Type 0
OfFound P gap = Unit {0}
OfFound P unlisted = Unit {0}
OfFound P (found s n) = P s

abbrev OfKind : (Kind → Bool) → Option Kind → Type 0
OfKind f none = Unit {0}
OfKind f (some k) = f k ≡ true

abbrev of_entries : (Kind → Bool) → List (String × Kind) → Bool
of_entries f t = all (λ (e : String × Kind). f e.1) t

reserved-has : (f : Kind → Bool) (t : List (String × Kind)) (r : List ℕ) → of_entries f t ≡ true → OfKind f (reserved t r)
unfolding reserved
reserved-has f [] r h = tt
reserved-has f (e ∷ t) r h = let p = all-parts (λ (d : String × Kind). f d.1) e t h in on (same (bytes e.0) r) p.0 (reserved-has f t r p.1)
  where
    on : (b : Bool) → f e.1 ≡ true → OfKind f (reserved t r) → OfKind f (elim b as (λ (x : Bool). Option Kind) [ true ↦ some e.1 | false ↦ reserved t r ])
    on true p q = p
    on false p q = q

-- P is what holds of the symbols, f tells the kinds of those that are fixed, and All is that P holds of all symbols of a list
module _ (P : Symbol → Type 0) (f : Kind → Bool) (a_kind : (k : Kind) → f k ≡ true → P (fixed k)) (a_number : (n : ℕ) → n ≤ 1000 → P (numeral n)) (a_name : (x : Name) → P (name x)) where
  number-has : (r : List ℕ) → OfFound P (number_found r)
  unfolding number_found is_number
  number-has r =
      on (is_number r)
      (λ e.
      leb-true (decimal_from 0 r) 1000
      (and_right (all (λ (b : ℕ). is_digit (class_of b)) r && (eqb (length r) 1 || not (eqb (get_or r 0 48) 48))) (leb (decimal_from 0 r) 1000) e))
    where
      on : (b : Bool) → (b ≡ true → decimal_from 0 r ≤ 1000) → OfFound P (cond b (found (numeral (decimal_from 0 r)) (length r)) unlisted)
      on true h = a_number _ (h refl)
      on false h = tt

  word-has : (r : List ℕ) (e : Ending) (k : Option Kind) → OfKind f k → OfFound P (word_of r e k)
  unfolding word_of
  word-has r e none h = on (leb (length r) 16)
    where
      on : (b : Bool) → OfFound P (cond b (found (name (record { letters = r; ending = e })) (length r + ending_length e)) unlisted)
      on true = a_name _
      on false = tt
  word-has r no_ending (some k) h = a_kind k h
  word-has r prime (some k) h = tt
  word-has r query (some k) h = tt
  word-has r shriek (some k) h = tt

  longer-has : (g : Found) (k : Kind) (n : ℕ) → f k ≡ true → OfFound P g → OfFound P (longer g k n)
  longer-has gap k n h i = a_kind k h
  longer-has unlisted k n h i = a_kind k h
  longer-has (found s m) k n h i = on (ltb m n)
    where
      on : (b : Bool) → OfFound P (cond b (found (fixed k) n) (found s m))
      on true = a_kind k h
      on false = i

  longest-has : (t : List (String × Kind)) (w : List ℕ) → of_entries f t ≡ true → OfFound P (longest t w)
  unfolding longest
  longest-has [] w h = tt
  longest-has (e ∷ t) w h = let p = all-parts (λ (d : String × Kind). f d.1) e t h in on (begins (bytes e.0) w) p.0 (longest-has t w p.1)
    where
      on : (b : Bool) → f e.1 ≡ true → OfFound P (longest t w)
          → OfFound P (elim b as (λ (x : Bool). Found) [ true ↦ longer (longest t w) e.1 (length (bytes e.0)) | false ↦ longest t w ])
      on true p q = longer-has (longest t w) e.1 (length (bytes e.0)) p q
      on false p q = q

  module _ (of_words : of_entries f words ≡ true) (of_marks : of_entries f marks ≡ true) where
    class-has : (c : Class) (w : List ℕ) → OfFound P (by_class c w)
    unfolding by_class
    class-has letter w = word-has (run w) (ending_of (drop (length (run w)) w)) (reserved words (run w)) (reserved-has f words (run w) of_words)
    class-has digit w = number-has (run w)
    class-has mark w = longest-has marks w of_marks
    class-has blank w = tt
    class-has other w = tt

    module _ (All : List Symbol → Type 0) (nothing : All []) (more : (s : Symbol) (w : List Symbol) → P s → All w → All (s ∷ w)) where
      from-has : (w : List ℕ) (skip p : ℕ) → All (map (λ (x : Placed). x.symbol) (symbols (scan_from w skip p)))
      unfolding symbols scan_from symbol_at
      from-has [] skip p = nothing
      from-has (b ∷ w) skip p = on skip (symbol_at (b ∷ w)) (class-has (class_of (get_or (b ∷ w) 0 0)) (b ∷ w)) (from-has w)
        where
          on : (skip : ℕ) (g : Found) → OfFound P g → ((k q : ℕ) → All (map (λ (x : Placed). x.symbol) (symbols (scan_from w k q))))
              → All (map (λ (x : Placed). x.symbol) (symbols (scanned skip g (scan_from w) p)))
          on (suc k) g h r = r k (p + 1)
          on zero gap h r = r 0 (p + 1)
          on zero unlisted h r = nothing
          on zero (found s n) h r = more _ _ h (r _ (p + 1))

      pub scan-has : (text : List ℕ) → All (map (λ (x : Placed). x.symbol) (symbols (scan text)))
      unfolding scan
      scan-has text = from-has text 0 0
