-- Laws of the symbols of a text: what stands at the place of each, its code, and the letters of names.
use mathlib.Core.Path.{◌≡◌, refl, ap, ◌∙◌, sym, subst}
use mathlib.Core.Bool.{Bool, true, false, cond}
use mathlib.Core.List.{List, [], ◌∷◌, map}
use mathlib.Core.Option.{Option, none, some}
use Prim.Native.Nat.{ℕ, zero, suc, pred, ◌+◌, ◌≤◌, ◌<◌}
use Prim.Native.String.{String}
use native.Mathlib.Omega.{arith}
use lib.Dec.{leb, ltb}
use borrow.Author.Tests.{leb-true, ltb-true, ltb-false}
use lib.ListN.{length, drop, get_or, drop_of_length-le}
use lib.Seq.{drop-drop}
use Rattle.std.specs.Simd.Lanes.{Each1}
use Rattle.lexical.specs.Lists.{bytes, begins, same}
use Rattle.lexical.specs.Kinds.{Kind, marks, words, code_of}
use Rattle.lexical.specs.Symbols.{Class, letter, digit, mark, blank, other, class_of, in_run, run, Symbol, fixed, numeral, name, Found, gap, unlisted, found, Ending, no_ending, prime, query, shriek, ending_of, ending_length}
use Rattle.lexical.specs.Symbols.{reserved, word_of, is_number, number_found, decimal_from, longer, longest, by_class, symbol_at, Placed, scanned, scan_from, scan, symbols}

-- what is so of a symbol, where the text goes on by w
abbrev pub Sound : List ℕ → Symbol → Type 0
Sound w (fixed k) = 10 ≤ code_of k
Sound w (numeral n) = Unit {0}
Sound w (name x) = (x.letters ≡ run w) × (length x.letters ≤ 16) × (1 ≤ length x.letters)

abbrev SoundAt : List ℕ → Found → Type 0
SoundAt w gap = Unit {0}
SoundAt w unlisted = Unit {0}
SoundAt w (found s n) = Sound w s

abbrev EachCoded : List (String × Kind) → Type 0
EachCoded t = Each1 (λ (e : String × Kind). leb 10 (code_of e.1) ≡ true) t

words-coded : EachCoded words
unfolding code_of
words-coded = (refl, (refl, (refl, (refl, (refl, (refl, (refl, (refl, (refl, (refl, (refl, (refl, (refl, (refl, (refl, (refl, (refl, (refl, (refl, (refl, (refl, (refl, (refl, (refl, (refl, (refl, (refl, (refl, (refl, tt)))))))))))))))))))))))))))))

marks-coded : EachCoded marks
unfolding code_of
marks-coded = (refl, (refl, (refl, (refl, (refl, (refl, (refl, (refl, (refl, (refl, (refl, (refl, (refl, (refl, (refl, (refl, (refl, (refl, (refl, (refl, (refl, (refl, (refl, (refl, (refl, (refl, tt))))))))))))))))))))))))))

abbrev CodedOr : Option Kind → Type 0
CodedOr none = Unit {0}
CodedOr (some k) = 10 ≤ code_of k

reserved-coded : (t : List (String × Kind)) (r : List ℕ) → EachCoded t → CodedOr (reserved t r)
unfolding reserved
reserved-coded [] r h = tt
reserved-coded (e ∷ t) r h = on (same (bytes e.0) r) (reserved-coded t r h.1)
  where
    on : (b : Bool) → CodedOr (reserved t r) → CodedOr (elim b [ true ↦ some e.1 | false ↦ reserved t r ])
    on true i = leb-true 10 (code_of e.1) h.0
    on false i = i

longest-sound : (v : List ℕ) (t : List (String × Kind)) (w : List ℕ) → EachCoded t → SoundAt v (longest t w)
unfolding longest
longest-sound v [] w h = tt
longest-sound v (e ∷ t) w h = on (begins (bytes e.0) w) (longest t w) (longest-sound v t w h.1)
  where
    n : ℕ
    n = length (bytes e.0)

    pick : (b : Bool) (s : Symbol) (k : ℕ) → Sound v s → SoundAt v (cond b (found (fixed e.1) n) (found s k))
    pick true s k j = leb-true 10 (code_of e.1) h.0
    pick false s k j = j

    longer-sound : (f : Found) → SoundAt v f → SoundAt v (longer f e.1 n)
    longer-sound gap i = leb-true 10 (code_of e.1) h.0
    longer-sound unlisted i = leb-true 10 (code_of e.1) h.0
    longer-sound (found s k) i = pick (ltb k n) s k i

    on : (b : Bool) (f : Found) → SoundAt v f → SoundAt v (elim b [ true ↦ longer f e.1 n | false ↦ f ])
    on true f i = longer-sound f i
    on false f i = i

word_sound : (w r : List ℕ) (e : Ending) (o : Option Kind) → r ≡ run w → 1 ≤ length r → CodedOr o → SoundAt w (word_of r e o)
unfolding word_of
word_sound w r e none q l c = on (leb (length r) 16) refl
  where
    on : (b : Bool) → leb (length r) 16 ≡ b → SoundAt w (cond b (found (name (record { letters = r; ending = e })) (length r + ending_length e)) unlisted)
    on true h = (q, leb-true (length r) 16 h, l)
    on false h = tt
word_sound w r no_ending (some k) q l c = c
word_sound w r prime (some k) q l c = tt
word_sound w r query (some k) q l c = tt
word_sound w r shriek (some k) q l c = tt

number-sound : (w r : List ℕ) → SoundAt w (number_found r)
unfolding number_found
number-sound w r = on (is_number r)
  where
    on : (b : Bool) → SoundAt w (cond b (found (numeral (decimal_from 0 r)) (length r)) unlisted)
    on true = tt
    on false = tt

run-some : (b : ℕ) (w : List ℕ) → class_of b ≡ letter → 1 ≤ length (run (b ∷ w))
unfolding run
run-some b w q = on (in_run (class_of b)) (ap in_run q)
  where
    on : (x : Bool) → x ≡ true → 1 ≤ length {A = ℕ} (elim x [ true ↦ b ∷ run w | false ↦ [] ])
    on true e = omega arith
    on false e = let z : ◌≡◌ {A = ℕ} 0 1 = cc in absurd (omega arith)

symbol-sound : (b : ℕ) (w : List ℕ) → SoundAt (b ∷ w) (symbol_at (b ∷ w))
unfolding symbol_at by_class
symbol-sound b w = on (class_of b) refl
  where
    on : (v : Class) → class_of b ≡ v → SoundAt (b ∷ w) (by_class v (b ∷ w))
    on letter q = word_sound (b ∷ w) (run (b ∷ w)) (ending_of (drop (length (run (b ∷ w))) (b ∷ w))) (reserved words (run (b ∷ w))) refl (run-some b w q) (reserved-coded words (run (b ∷ w)) words-coded)
    on digit q = number-sound (b ∷ w) (run (b ∷ w))
    on mark q = longest-sound (b ∷ w) marks (b ∷ w) marks-coded
    on blank q = tt
    on other q = tt

-- each symbol stands at its place, which is in the text
abbrev pub Stands : List ℕ → Placed → Type 0
Stands s x = Sound (drop x.place s) x.symbol × (x.place < length s)

abbrev pub AllStand : List ℕ → List Placed → Type 0
AllStand s l = Each1 (Stands s) l

scan-stands : (s w : List ℕ) (k p : ℕ) → drop p s ≡ w → AllStand s (symbols (scan_from w k p))
unfolding scan_from symbols
scan-stands s [] k p h = tt
scan-stands s (b ∷ w) k p h = on k (symbol_at (b ∷ w)) (symbol-sound b w) (λ j. scan-stands s w j (p + 1) next-byte)
  where
    next-byte : drop (p + 1) s ≡ w
    next-byte = sym (drop-drop 1 p s) ∙ ap (drop 1) h

    inside : p < length s
    inside = by (ltb p (length s)) refl
      where
        by : (x : Bool) → ltb p (length s) ≡ x → p < length s
        by true q = ltb-true p (length s) q
        by false q =
            let g = ltb-false p (length s) q in
            let e : drop p s ≡ [] = drop_of_length-le s g in
            let n : length (b ∷ w) ≡ 0 = ap length (sym h ∙ e) in absurd (omega arith)

    on : (k : ℕ) (f : Found) → SoundAt (b ∷ w) f → ((j : ℕ) → AllStand s (symbols (scan_from w j (p + 1)))) → AllStand s (symbols (scanned k f (scan_from w) p))
    on (suc k) f i r = r k
    on zero gap i r = r 0
    on zero unlisted i r = tt
    on zero (found y n) i r = ((subst (λ (v : List ℕ). Sound v y) (sym h) i, inside), r (pred n))

pub all-stand : (s : List ℕ) → AllStand s (symbols (scan s))
unfolding scan
all-stand s = scan-stands s s 0 0 refl

-- what stands past the end
abbrev pub nowhere : Placed
nowhere = record { symbol = numeral 0; place = 0 }

pub stands_at : (s : List ℕ) (l : List Placed) (i : ℕ) → AllStand s l → i < length l → Stands s (get_or l i nowhere)
stands_at s [] i h lt = absurd (omega arith)
stands_at s (x ∷ l) zero h lt = h.0
stands_at s (x ∷ l) (suc i) h lt = stands_at s l i h.1 (omega arith)

pub map_at : (f : Placed → ℕ) (l : List Placed) (i : ℕ) → i < length l → get_or (map f l) i 0 ≡ f (get_or l i nowhere)
map_at f [] i lt = absurd (omega arith)
map_at f (x ∷ l) zero lt = refl
map_at f (x ∷ l) (suc i) lt = map_at f l i (omega arith)
