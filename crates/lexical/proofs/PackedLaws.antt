-- Laws of bytes packed as one number, from the last one on.
use mathlib.Core.Path.{◌≡◌, refl, ap, ◌∙◌, sym, subst}
use mathlib.Core.Bool.{Bool, true, false}
use mathlib.Core.List.{List, [], ◌∷◌, ◌++◌}
use Prim.Native.Nat.{ℕ, zero, suc, ◌+◌, ◌*◌, ◌≤◌, ◌<◌, min}
use native.Mathlib.Omega.{arith}
use lib.ListN.{length, take, drop, get_or, length-append, length-take}
use lib.Seq.{take_all}
use lib.Dec.{leb}
use borrow.Author.Tests.{leb-true, leb-false}
use Rattle.std.specs.List.{push}
use Rattle.std.proofs.lemmas.List.{append-nil, nil_from_length}
use Rattle.lexical.specs.SymbolPromises.{packed}

-- as many bytes as there are need no more room
pub packed-enough : (k : ℕ) (v : List ℕ) → length v ≤ k → packed k v ≡ packed (length v) v
unfolding packed
packed-enough zero [] h = refl
packed-enough (suc k) [] h = refl
packed-enough zero (b ∷ v) h = absurd (omega arith)
packed-enough (suc k) (b ∷ v) h = ap (λ (x : ℕ). b + 256 * x) (packed-enough k v (omega arith))

packed-front : (k : ℕ) (v : List ℕ) → packed k (take k v) ≡ packed k v
unfolding packed
packed-front zero v = refl
packed-front (suc k) [] = refl
packed-front (suc k) (b ∷ v) = ap (λ (x : ℕ). b + 256 * x) (packed-front k v)

unfoldable room : ℕ → ℕ
room zero = 1
room (suc k) = 256 * room k

some-room : (k : ℕ) → 0 < room k
unfolding room
some-room zero = omega arith
some-room (suc k) = let r = some-room k in omega arith

abbrev Bytes : List ℕ → Type 0
Bytes v = (i : ℕ) → get_or v i 0 < 256

packed-room : (k : ℕ) (v : List ℕ) → Bytes v → packed k v < room k
unfolding packed room
packed-room zero v f = omega arith
packed-room (suc k) [] f = let r = some-room k in omega arith
packed-room (suc k) (b ∷ v) f = let p = packed-room k v (λ i. f (suc i)) in let q = f 0 in omega arith

-- the letters that are not passed yet, from the front, and the number that those behind them make
pub record Packing (letters rest : List ℕ) (key : ℕ) : Type 0 where
  pub passed : List ℕ
  pub whole : rest ++ passed ≡ take 16 letters
  pub key_is : key ≡ packed (length passed) passed

bytes-front : (k : ℕ) (w : List ℕ) → Bytes w → Bytes (take k w)
bytes-front zero w f = λ i. omega arith
bytes-front (suc k) [] f = λ i. omega arith
bytes-front (suc k) (b ∷ w) f = λ i. on i (bytes-front k w (λ j. f (suc j)))
  where
    on : (i : ℕ) → Bytes (take k w) → get_or (b ∷ take k w) i 0 < 256
    on zero g = f 0
    on (suc i) g = g i

bytes-drop : (i : ℕ) (w : List ℕ) → Bytes w → Bytes (drop i w)
bytes-drop zero w f = f
bytes-drop (suc i) [] f = λ j. omega arith
bytes-drop (suc i) (b ∷ w) f = bytes-drop i w (λ j. f (suc j))

bytes-behind : (u v : List ℕ) → Bytes (u ++ v) → Bytes v
bytes-behind [] v f = f
bytes-behind (a ∷ u) v f = bytes-behind u v (λ i. f (suc i))

one-shorter : (u : List ℕ) (b : ℕ) (v : List ℕ) → (push u b) ++ v ≡ u ++ b ∷ v
one-shorter [] b v = refl
one-shorter (a ∷ u) b v = ap (λ (l : List ℕ). a ∷ l) (one-shorter u b v)

one-longer : (u : List ℕ) (b : ℕ) → length (push u b) ≡ suc (length u)
one-longer [] b = refl
one-longer (a ∷ u) b = ap suc (one-longer u b)

module _ {letters rest : List ℕ} {key : ℕ} (h : Packing letters rest key) where
  whole-length : length rest + length h.passed ≤ 16
  whole-length = let a = length-append rest h.passed in let b : length (rest ++ h.passed) ≡ length (take 16 letters) = ap length h.whole in let c = length-take 16 letters in omega arith

  -- one letter more, which stands in front of those that are passed
  pub packing-step : {rest' : List ℕ} {b x : ℕ} → rest ≡ push rest' b → x ≡ b → Packing letters rest' (256 * key + x)
  unfolding packed
  packing-step {rest'} {b} {x} e f = record {
    passed = b ∷ h.passed;
    whole = sym (one-shorter rest' b h.passed) ∙ ap (λ (l : List ℕ). l ++ h.passed) (sym e) ∙ h.whole;
    key_is = let k = h.key_is in omega arith;
  }

  -- where a letter is left, the number has room for one more
  pub packing-room : (rest' : List ℕ) (b : ℕ) → rest ≡ push rest' b → Bytes letters → key < 1329227995784915872903807060280344576
  unfolding room
  packing-room rest' b e f =
      let l = whole-length in
      let m : length rest ≡ suc (length rest') = ap length e ∙ one-longer rest' b in
      let g : Bytes h.passed = bytes-behind rest h.passed (subst Bytes (sym h.whole) (bytes-front 16 letters f)) in
      let p : packed 15 h.passed < 1329227995784915872903807060280344576 = packed-room 15 h.passed g in
      let q : key ≡ packed 15 h.passed = h.key_is ∙ sym (packed-enough 15 h.passed (omega arith)) in
      omega arith

  pub packing-end : length rest ≡ 0 → key ≡ packed 16 letters
  packing-end e =
      let l = whole-length in
      h.key_is ∙ sym (packed-enough 16 h.passed (omega arith)) ∙ ap (packed 16) (ap (λ (r : List ℕ). r ++ h.passed) (sym (nil_from_length rest e)) ∙ h.whole) ∙ packed-front 16 letters

pub packing-start : (letters rest : List ℕ) (n : ℕ) → rest ≡ take n letters → n ≡ min (length letters) 16 → Packing letters rest 0
unfolding packed
packing-start letters rest n e m = record { passed = []; whole = append-nil rest ∙ e ∙ on (leb 16 (length letters)) refl; key_is = refl }
  where
    on : (x : Bool) → leb 16 (length letters) ≡ x → take n letters ≡ take 16 letters
    on true q = let l = leb-true 16 (length letters) q in let k : n ≡ 16 = omega arith in ap (λ (i : ℕ). take i letters) k
    on false q = let l = leb-false 16 (length letters) q in take_all n letters (omega arith) ∙ sym (take_all 16 letters (omega arith))

pub packed-one-letter : (w : List ℕ) → 1 ≤ length w → length w < 2 → get_or w 0 0 ≡ packed 16 w
unfolding packed
packed-one-letter [] h k = absurd (omega arith)
packed-one-letter (b ∷ []) h k = omega arith
packed-one-letter (b ∷ c ∷ w) h k = absurd (omega arith)

-- eight bytes of a text fit a number of 64 bits
pub packed-eight : (s : List ℕ) (at k : ℕ) → Bytes s → k ≤ 8 → packed 16 (take k (drop at s)) < 18446744073709551616
unfolding room
packed-eight s at k f h =
    let v : List ℕ = take k (drop at s) in
    let l : length v ≤ 8 = omega (arith, length-take k (drop at s)) in
    let p : packed 8 v < 18446744073709551616 = packed-room 8 v (bytes-front k (drop at s) (bytes-drop at s f)) in
    let e : packed 16 v ≡ packed 8 v = packed-enough 16 v (omega arith) ∙ sym (packed-enough 8 v l) in
    omega arith
