-- A held check is told by its bytes: the text, the place and the mark that were laid are those that are read, and bytes that have the layout are those of what they hold.
use mathlib.Core.Path.{◌≡◌, refl, ap, ap₂, ◌∙◌}
use mathlib.Core.Bool.{Bool, true, false, cond}
use mathlib.Core.List.{List, ◌++◌}
use Prim.Native.Nat.{ℕ, zero, suc, ◌-◌, ◌/◌, ◌^◌, ◌≤◌, ◌<◌}
use native.Mathlib.Omega.{arith}
use native.Mathlib.Nat.{pow-suc}
use lib.Dec.{eqb}
use lib.ListN.{length, take, drop, replicate, length-append, length-replicate, length-take, length-drop}
use lib.Seq.{take-append_seam}
use Rattle.lexical.specs.Lists.{same}
use Rattle.lexical.proofs.WordLaws.{same_refl, same_true}
use Rattle.static_rules.specs.Read.{Reading, read}
use Rattle.obligations.specs.Calls.{nothing}
use Rattle.held_checks.specs.HeldBytes.{little_endian, from_bytes, bytes_of, held_mark, held_text, held_place, is_laid, fitting, held_in, held_by}

-- a number below 256 ^ n is told by its n bytes
pub number_of : (n x : ℕ) → x < 256 ^ n → from_bytes (little_endian n x) ≡ x
unfolding little_endian from_bytes
number_of zero x h = omega arith
number_of (suc n) x h =
    let p = pow-suc 256 n in
    let e = number_of n (x / 256) (omega arith) in
    omega arith

length-number : (t : List ℕ) → length t ≤ 32768 → from_bytes (little_endian 4 (length t)) ≡ length t
length-number t h = number_of 4 (length t) (omega arith)

pub text_of : (t : List ℕ) (p m : ℕ) → length t ≤ 32768 → held_text (bytes_of t p m) ≡ t
unfolding held_text bytes_of little_endian
text_of t p m h = ap (λ (k : ℕ). take k (t ++ replicate (32768 - length t) 0)) (length-number t h) ∙ take-append_seam t (replicate (32768 - length t) 0)

pub place-of : (t : List ℕ) (p m : ℕ) → p < 256 ^ 8 → held_place (bytes_of t p m) ≡ p
unfolding held_place bytes_of little_endian
place-of t p m h = number_of 8 p h

pub mark-of : (t : List ℕ) (p m : ℕ) → held_mark (bytes_of t p m) ≡ m
unfolding bytes_of
mark-of t p m = refl

pub length-of : (t : List ℕ) (p m : ℕ) → length t ≤ 32768 → length (bytes_of t p m) ≡ 32784
unfolding bytes_of little_endian
length-of t p m h =
    let a = length-append t (replicate (32768 - length t) 0) in
    let b = length-replicate {A = ℕ} (32768 - length t) 0 in
    omega arith

pub laid-bytes : (t : List ℕ) (p m : ℕ) → length t ≤ 32768 → p < 256 ^ 8 → is_laid (bytes_of t p m) ≡ true
unfolding is_laid
laid-bytes t p m h k =
    ap₂ (λ (u : List ℕ) (q : ℕ). same (bytes_of t p m) (bytes_of u q (held_mark (bytes_of t p m)))) (text_of t p m h) (place-of t p m k)
    ∙ ap (λ (n : ℕ). same (bytes_of t p m) (bytes_of t p n)) (mark-of t p m)
    ∙ same_refl (bytes_of t p m)

pub laid-is : (b : List ℕ) → is_laid b ≡ true → b ≡ bytes_of (held_text b) (held_place b) (held_mark b)
unfolding is_laid
laid-is b h = same_true b (bytes_of (held_text b) (held_place b) (held_mark b)) h

-- the text's length, as the bytes have it
length-read : (t : List ℕ) (p m : ℕ) → length t ≤ 32768 → from_bytes (take 4 (drop 4 (bytes_of t p m))) ≡ length t
unfolding bytes_of little_endian
length-read t p m h = length-number t h

-- the text inside is no longer than what stands behind the place
text-short : (b : List ℕ) → length b ≡ 32784 → length (held_text b) ≤ 32768
unfolding held_text
text-short b h =
    let a = length-take (from_bytes (take 4 (drop 4 b))) (drop 16 b) in
    let d = length-drop 16 b in
    omega arith

pub laid-length : (b : List ℕ) → length b ≡ 32784 → is_laid b ≡ true → from_bytes (take 4 (drop 4 b)) ≡ length (held_text b)
laid-length b h e =
    ap (λ (x : List ℕ). from_bytes (take 4 (drop 4 x))) (laid-is b e) ∙ length-read (held_text b) (held_place b) (held_mark b) (text-short b h)

pub laid-short : (b : List ℕ) → length b ≡ 32784 → is_laid b ≡ true → from_bytes (take 4 (drop 4 b)) ≤ 32768
laid-short b h e =
    let l = laid-length b h e in
    let s = text-short b h in
    omega arith

-- the held check of laid bytes, by their text, place and mark
pub by_fields : (b : List ℕ) {t : List ℕ} {p m : ℕ} {r : Reading} → is_laid b ≡ true → held_text b ≡ t → held_place b ≡ p → held_mark b ≡ m → read t ≡ r → held_by b ≡ held_in r p m
unfolding held_by
by_fields b {r = r} l e f g h =
    ap (λ (x : Bool). cond x (held_in (read (held_text b)) (held_place b) (held_mark b)) nothing) l
    ∙ ap (λ (x : List ℕ). held_in (read x) (held_place b) (held_mark b)) e
    ∙ ap (λ (x : Reading). held_in x (held_place b) (held_mark b)) h
    ∙ ap₂ (held_in r) f g

-- no other number is a mark's
pub no_mark : (n p m : ℕ) → eqb m 1 ≡ false → eqb m 2 ≡ false → eqb m 3 ≡ false → fitting n p m ≡ false
unfolding fitting
no_mark n p m f g h = rw (f, g, h) refl
