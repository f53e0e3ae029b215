-- When bytes have the layout, and what the calls that write leave: the bytes of a text laid anew, and of the same text at another place.
use mathlib.Core.Path.{◌≡◌, refl, sym, ap, ap₂, ◌∙◌}
use mathlib.Core.Bool.{Bool, true, false, true≢false, ◌&&◌}
use mathlib.Core.List.{List, [], ◌∷◌, ◌++◌}
use mathlib.Core.Logic.{◌⊎◌, inl, inr}
use Prim.Native.Nat.{ℕ, zero, suc, ◌+◌, ◌-◌, ◌*◌, ◌/◌, ◌%◌, ◌≤◌, ◌<◌}
use native.Mathlib.Omega.{arith}
use lib.Dec.{eqb, leb}
use borrow.Author.Tests.{eqb-true, lt-leb}
use lib.ListN.{length, take, drop, get_or, set, replicate, length-drop, take-append-drop, replicate-append-replicate}
use lib.Seq.{drop_at, drop-drop, length-take-le, get_or-take, get_or-drop}
use Rattle.lexical.specs.Lists.{same}
use Rattle.lexical.proofs.WordLaws.{same_refl}
use Rattle.table_nodes.specs.TableWalkPromises.{patch}
use Rattle.held_checks.specs.HeldBytes.{little_endian, from_bytes, bytes_of, none_held, held_mark, held_text, held_place, is_laid}
use Rattle.held_checks.specs.BytePromises.{all_zero, Turned}
use Rattle.held_checks.proofs.HeldBytesLaws.{laid-is, laid-length, laid-short}
use Rattle.std.proofs.lemmas.Bool.{false_from_ne_true}
use Rattle.std.specs.Cmp.{both_ways}

-- bytes are told by the number that they are
number-back : (n : ℕ) (w : List ℕ) → length w ≡ n → ((i : ℕ) → i < length w → get_or w i 0 < 256) → little_endian n (from_bytes w) ≡ w
unfolding little_endian from_bytes
number-back zero [] h f = refl
number-back zero (b ∷ w) h f = absurd (omega arith)
number-back (suc n) [] h f = absurd (omega arith)
number-back (suc n) (b ∷ w) h f =
    let k : b < 256 = f 0 (omega arith) in
    let low : (b + 256 * from_bytes w) % 256 ≡ b = omega arith in
    let high : (b + 256 * from_bytes w) / 256 ≡ from_bytes w = omega arith in
    ap₂ (λ (x y : ℕ). x ∷ little_endian n y) low high ∙ ap (λ (v : List ℕ). b ∷ v) (number-back n w (omega arith) (λ i l. f (suc i) (omega arith)))

number-part : (n at : ℕ) (w : List ℕ) → at + n ≤ length w → ((i : ℕ) → get_or w i 0 < 256)
    → little_endian n (from_bytes (take n (drop at w))) ≡ take n (drop at w)
number-part n at w h f =
    let d = length-drop at w in
    let l = length-take-le n (drop at w) (omega arith) in
    number-back n (take n (drop at w)) l
    (λ i k. let e = get_or-take n (drop at w) i 0 (omega arith) in let g = get_or-drop at w i 0 in let b = f (at + i) in omega arith)

-- zeros only
zeros-are : (w : List ℕ) → all_zero w ≡ true → w ≡ replicate (length w) 0
zeros-are [] h = refl
zeros-are (b ∷ w) h = on (eqb b 0) refl h (zeros-are w)
  where
    on : (x : Bool) → eqb b 0 ≡ x → (x && all_zero w) ≡ true → (all_zero w ≡ true → w ≡ replicate (length w) 0)
        → b ∷ w ≡ 0 ∷ replicate (length w) 0
    on true e z r = ap₂ (λ (x : ℕ) (v : List ℕ). x ∷ v) (eqb-true b 0 e) (r z)
    on false e z r = absurd (true≢false (sym z))

zeros_zero : (n : ℕ) → all_zero (replicate n 0) ≡ true
zeros_zero zero = refl
zeros_zero (suc n) = zeros_zero n

-- the bytes behind the mark are those of the text and of the place
laid-tail : (n : ℕ) (r : List ℕ) → length r ≡ 32780 → ((i : ℕ) → get_or r i 0 < 256) → n ≡ from_bytes (take 4 r) → n ≤ 32768
    → all_zero (drop n (drop 12 r)) ≡ true
    → r ≡ little_endian 4 (length (take n (drop 12 r))) ++ (little_endian 8 (from_bytes (take 8 (drop 4 r))) ++ (take n (drop 12 r) ++ replicate (32768 - length (take n (drop 12 r))) 0))
laid-tail n r h f e k z =
    let a = length-drop 12 r in
    let b = length-drop n (drop 12 r) in
    let t : length (take n (drop 12 r)) ≡ n = length-take-le n (drop 12 r) (omega arith) in
    let zs : length (drop n (drop 12 r)) ≡ 32768 - length (take n (drop 12 r)) = omega arith in
    let behind : drop n (drop 12 r) ≡ replicate (32768 - length (take n (drop 12 r))) 0 = zeros-are (drop n (drop 12 r)) z ∙ ap (λ (j : ℕ). replicate {A = ℕ} j 0) zs in
    let text : drop 12 r ≡ take n (drop 12 r) ++ replicate (32768 - length (take n (drop 12 r))) 0 =
    sym (take-append-drop n (drop 12 r)) ∙ ap (λ (w : List ℕ). take n (drop 12 r) ++ w) behind in
    let place : drop 4 r ≡ little_endian 8 (from_bytes (take 8 (drop 4 r))) ++ drop 12 r =
    sym (take-append-drop 8 (drop 4 r)) ∙ ap₂ (λ (v w : List ℕ). v ++ w) (sym (number-part 8 4 r (omega arith) f)) (drop-drop 8 4 r) in
    let four : take 4 r ≡ little_endian 4 (length (take n (drop 12 r))) =
    sym (number-part 4 0 r (omega arith) f) ∙ ap (little_endian 4) (sym e ∙ sym t) in
    sym (take-append-drop 4 r)
    ∙ ap₂ (λ (v w : List ℕ). v ++ w) four (place ∙ ap (λ (w : List ℕ). little_endian 8 (from_bytes (take 8 (drop 4 r))) ++ w) text)

laid-head : (b : List ℕ) (n : ℕ) → length b ≡ 32784 → ((i : ℕ) → get_or b i 0 < 256) → n ≡ from_bytes (take 4 (drop 4 b)) → n ≤ 32768
    → all_zero (take 3 (drop 1 b)) ≡ true → all_zero (drop n (drop 16 b)) ≡ true → b ≡ bytes_of (take n (drop 16 b)) (held_place b) (held_mark b)
unfolding bytes_of held_place
laid-head [] n h f e k a z = absurd (omega arith)
laid-head (x₀ ∷ []) n h f e k a z = absurd (omega arith)
laid-head (x₀ ∷ x₁ ∷ []) n h f e k a z = absurd (omega arith)
laid-head (x₀ ∷ x₁ ∷ x₂ ∷ []) n h f e k a z = absurd (omega arith)
laid-head (x₀ ∷ x₁ ∷ x₂ ∷ x₃ ∷ r) n h f e k a z =
    ap (λ (w : List ℕ). x₀ ∷ (w ++ r)) (zeros-are (x₁ ∷ x₂ ∷ x₃ ∷ []) a)
    ∙ ap (λ (w : List ℕ). x₀ ∷ 0 ∷ 0 ∷ 0 ∷ w) (laid-tail n r (omega arith) (λ i. f (suc (suc (suc (suc i))))) e k z)

is-laid : (b : List ℕ) → b ≡ bytes_of (held_text b) (held_place b) (held_mark b) → is_laid b ≡ true
unfolding is_laid
is-laid b e = ap (same b) (sym e) ∙ same_refl b

zeros-laid : (b : List ℕ) → length b ≡ 32784 → is_laid b ≡ true → all_zero (drop (length (held_text b)) (drop 16 b)) ≡ true
unfolding bytes_of little_endian
zeros-laid b h e =
    ap (λ (w : List ℕ). all_zero (drop (length (held_text b)) (drop 16 w))) (laid-is b e)
    ∙ ap all_zero (drop_at (held_text b) (replicate (32768 - length (held_text b)) 0) (length (held_text b)) refl)
    ∙ zeros_zero (32768 - length (held_text b))

-- the last test decides
pub laid-zeros : (b : List ℕ) (n : ℕ) → length b ≡ 32784 → ((i : ℕ) → get_or b i 0 < 256) → n ≡ from_bytes (take 4 (drop 4 b)) → n ≤ 32768
    → all_zero (take 3 (drop 1 b)) ≡ true → all_zero (drop (16 + n) b) ≡ is_laid b
unfolding held_text
laid-zeros b n h f e k a =
    both_ways (all_zero (drop (16 + n) b)) (is_laid b)
    (λ z. is-laid b
    (laid-head b n h f e k a (ap all_zero (drop-drop n 16 b) ∙ z) ∙ ap (λ (j : ℕ). bytes_of (take j (drop 16 b)) (held_place b) (held_mark b)) e))
    (λ z. ap all_zero (sym (drop-drop n 16 b)) ∙ ap (λ (j : ℕ). all_zero (drop j (drop 16 b))) (e ∙ laid-length b h z) ∙ zeros-laid b h z)

-- a test that fails decides
pub laid-not : (b : List ℕ) → all_zero (take 3 (drop 1 b)) ≡ false → false ≡ is_laid b
unfolding bytes_of
laid-not b f = sym (false_from_ne_true (is_laid b) (λ z. true≢false (sym (ap (λ (w : List ℕ). all_zero (take 3 (drop 1 w))) (laid-is b z)) ∙ f)))

laid-long : (b : List ℕ) (n : ℕ) → length b ≡ 32784 → n ≡ from_bytes (take 4 (drop 4 b)) → 32768 < n → false ≡ is_laid b
laid-long b n h e k = sym (false_from_ne_true (is_laid b) (λ z. let s = laid-short b h z in absurd (omega arith)))

-- the first two tests do not both hold, and the first one does
pub laid-both_not : (b : List ℕ) (n : ℕ) {r t : Bool} → length b ≡ 32784 → n ≡ from_bytes (take 4 (drop 4 b)) → t ≡ leb n 32768 → r ≡ true → (r ≡ true × 32768 < n) ⊎ (r ≡ false) → t ≡ is_laid b
laid-both_not b n h e l r (inl k) = l ∙ lt-leb n 32768 k.1 ∙ laid-long b n h e k.1
laid-both_not b n h e l r (inr k) = absurd (true≢false (sym r ∙ k))

-- the place and the mark anew
pub turned : (b after : List ℕ) (place mark : ℕ) → after ≡ patch 8 (little_endian 8 place) (set b 0 mark) → Turned b place mark after
unfolding bytes_of little_endian patch
turned b after place mark e = record { is = λ t p m h k. e ∙ ap (λ (w : List ℕ). patch 8 (little_endian 8 place) (set w 0 mark)) k }

-- a text laid into zeros
drop_zeros : (k n : ℕ) → drop k (replicate {A = ℕ} n 0) ≡ replicate (n - k) 0
drop_zeros zero n = let e : n ≡ n - 0 = omega arith in ap (λ (j : ℕ). replicate {A = ℕ} j 0) e
drop_zeros (suc k) zero = let e : 0 ≡ 0 - suc k = omega arith in ap (λ (j : ℕ). replicate {A = ℕ} j 0) e
drop_zeros (suc k) (suc n) = let e : n - k ≡ suc n - suc k = omega arith in drop_zeros k n ∙ ap (λ (j : ℕ). replicate {A = ℕ} j 0) e

laid-over : (t z : List ℕ) → patch 16 t (patch 4 (little_endian 4 (length t)) (set (replicate 16 0 ++ z) 0 1))
    ≡ 1 ∷ 0 ∷ 0 ∷ 0 ∷ (little_endian 4 (length t) ++ (little_endian 8 0 ++ (t ++ drop (length t) z)))
unfolding little_endian patch
laid-over t z =
    let front : List ℕ = patch 4 (little_endian 4 (length t)) (set (replicate 16 0 ++ z) 0 1) in
    ap (λ (w : List ℕ). take 16 front ++ (t ++ w)) (sym (drop-drop (length t) 16 front))

pub laid-anew : (t after : List ℕ) → after ≡ patch 16 t (patch 4 (little_endian 4 (length t)) (set none_held 0 1)) → after ≡ bytes_of t 0 1
unfolding bytes_of none_held
laid-anew t after e =
    e ∙ ap (λ (w : List ℕ). patch 16 t (patch 4 (little_endian 4 (length t)) (set w 0 1))) (sym (replicate-append-replicate 16 32768 0))
    ∙ laid-over t (replicate 32768 0)
    ∙ ap (λ (w : List ℕ). 1 ∷ 0 ∷ 0 ∷ 0 ∷ (little_endian 4 (length t) ++ (little_endian 8 0 ++ (t ++ w)))) (drop_zeros (length t) 32768)
