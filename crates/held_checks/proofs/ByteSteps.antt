-- What the functions that read and write the held bytes count on: numbers byte by byte, zeros, a text copied, a mark that fits.
use mathlib.Core.Path.{◌≡◌, refl, sym, ap, ap₂, ◌∙◌}
use mathlib.Core.Bool.{◌&&◌, or-false}
use mathlib.Core.List.{List, [], ◌∷◌, ◌++◌}
use Prim.Native.Nat.{ℕ, zero, suc, ◌+◌, ◌-◌, ◌*◌, ◌/◌, ◌%◌, ◌^◌, ◌≤◌}
use native.Mathlib.Omega.{arith}
use native.Mathlib.Nat.{pow-suc, div-div-eq-div-mul}
use lib.Dec.{eqb, leb, ltb}
use lib.ListN.{length, length-append, length-replicate, length-drop, take, drop, replicate}
use lib.Seq.{drop-drop, length-take-le}
use borrow.Rule.Slice.PartMut.{put_mid}
use Rattle.table_nodes.specs.TableWalkPromises.{patch}
use Rattle.std.specs.Int.{w64, to_le_bytes, from_le_bytes, bytes_low_first}
use Rattle.held_checks.specs.HeldBytes.{little_endian, from_bytes, fitting}

-- the number that bytes are: the library's of eight bytes, no more than the bytes tell, and the same with zeros behind them
nested : (a b c d e f g h : ℕ) → a + b * 256 + c * 65536 + d * 16777216 + e * 4294967296 + f * 1099511627776 + g * 281474976710656 + h * 72057594037927936
    ≡ a + 256 * (b + 256 * (c + 256 * (d + 256 * (e + 256 * (f + 256 * (g + 256 * (h + 256 * 0)))))))
nested a b c d e f g h = omega arith

read-eight : (w : List ℕ) → length w ≡ 8 → from_le_bytes w64 w ≡ from_bytes w
unfolding from_bytes
read-eight [] l = absurd (omega arith)
read-eight (a ∷ []) l = absurd (omega arith)
read-eight (a ∷ b ∷ []) l = absurd (omega arith)
read-eight (a ∷ b ∷ c ∷ []) l = absurd (omega arith)
read-eight (a ∷ b ∷ c ∷ d ∷ []) l = absurd (omega arith)
read-eight (a ∷ b ∷ c ∷ d ∷ e ∷ []) l = absurd (omega arith)
read-eight (a ∷ b ∷ c ∷ d ∷ e ∷ f ∷ []) l = absurd (omega arith)
read-eight (a ∷ b ∷ c ∷ d ∷ e ∷ f ∷ g ∷ []) l = absurd (omega arith)
read-eight (a ∷ b ∷ c ∷ d ∷ e ∷ f ∷ g ∷ h ∷ []) l = nested a b c d e f g h
read-eight (a ∷ b ∷ c ∷ d ∷ e ∷ f ∷ g ∷ h ∷ x ∷ w) l = absurd (omega arith)

zeros_none : (k n : ℕ) → from_bytes (drop k (replicate {A = ℕ} n 0)) ≡ 0
unfolding from_bytes
zeros_none zero zero = refl
zeros_none zero (suc n) = let e = zeros_none zero n in omega arith
zeros_none (suc k) zero = refl
zeros_none (suc k) (suc n) = zeros_none k n

zeros_behind : (w z : List ℕ) → from_bytes z ≡ 0 → from_bytes (w ++ z) ≡ from_bytes w
unfolding from_bytes
zeros_behind [] z e = e
zeros_behind (b ∷ w) z e = ap (λ (x : ℕ). b + 256 * x) (zeros_behind w z e)

pub number-read : (b v : List ℕ) (r : ℕ) → length b ≤ 8 → v ≡ b → r ≡ from_le_bytes w64 (v ++ drop (length b) (replicate {A = ℕ} 8 0)) → r ≡ from_bytes b
number-read b v r m e f =
    let zeros = drop (length b) (replicate {A = ℕ} 8 0) in
    let whole : length (v ++ zeros) ≡ 8 = omega (arith, length-append v zeros, ap length e, length-drop (length b) (replicate {A = ℕ} 8 0), length-replicate {A = ℕ} 8 0) in
    f ∙ read-eight (v ++ zeros) whole ∙ zeros_behind v zeros (zeros_none (length b) 8) ∙ ap from_bytes e

-- a number in bytes: the first n of the library's eight
low-bytes : (m k x : ℕ) → bytes_low_first (suc k) m x ≡ little_endian m (x / 256 ^ suc k)
unfolding little_endian
low-bytes zero k x = refl
low-bytes (suc m) k x =
    ap (λ (w : List ℕ). (x / 256 ^ suc k % 256) ∷ w)
    (low-bytes m (suc k) x ∙ ap (little_endian m) (ap (λ (n : ℕ). x / n) (pow-suc 256 (suc k)) ∙ sym (div-div-eq-div-mul x (256 ^ suc k) 256)))

first-bytes : (n m x : ℕ) → n ≤ m → take n (little_endian m x) ≡ little_endian n x
unfolding little_endian
first-bytes zero m x h = refl
first-bytes (suc n) zero x h = absurd (omega arith)
first-bytes (suc n) (suc m) x h = ap (λ (w : List ℕ). (x % 256) ∷ w) (first-bytes n m (x / 256) (omega arith))

little_length : (n x : ℕ) → length (little_endian n x) ≡ n
unfolding little_endian
little_length zero x = refl
little_length (suc n) x = let e = little_length n (x / 256) in omega arith

-- bytes laid over others
pub laid-at : (at n : ℕ) (piece b : List ℕ) {w : List ℕ} → w ≡ piece → length piece ≡ n → put_mid at (at + n - at) b w ≡ patch at piece b
unfolding patch
laid-at at n piece b e l =
    let f : at + n - at ≡ length piece = omega arith in
    ap₂ (λ (v u : List ℕ). take at b ++ (v ++ u)) e (drop-drop (at + n - at) at b ∙ ap (λ (k : ℕ). drop (at + k) b) f)

pub number-put : (bytes : List ℕ) (n x : ℕ) → n ≤ 8 → bytes ≡ to_le_bytes w64 x → take n bytes ≡ little_endian n x
unfolding little_endian
number-put bytes n x h e = ap (take n) (e ∙ ap (λ (v : List ℕ). (x % 256) ∷ v) (low-bytes 7 0 x)) ∙ first-bytes n 8 x h

pub number-laid : (at n x : ℕ) (b : List ℕ) {w : List ℕ} → at + n ≤ length b → w ≡ little_endian (length (take n (drop at b))) x → put_mid at (at + n - at) b w ≡ patch at (little_endian n x) b
number-laid at n x b h e =
    laid-at at n (little_endian n x) b (e ∙ ap (λ (k : ℕ). little_endian k x) (length-take-le n (drop at b) (omega (arith, h, length-drop at b)))) (little_length n x)

-- a mark that fits, by the mark
pub fits-unfinished : (n p m : ℕ) → m ≡ 1 → ltb p n ≡ fitting n p m
unfolding fitting
fits-unfinished n p m e = sym (ap (fitting n p) e ∙ or-false (ltb p n))

pub fits-accepted : (n p m : ℕ) → m ≡ 2 → eqb p n ≡ fitting n p m
unfolding fitting
fits-accepted n p m e = sym (ap (fitting n p) e ∙ or-false (eqb p n))

pub fits-refuted : (n p m : ℕ) → m ≡ 3 → leb 1 p && leb p n ≡ fitting n p m
unfolding fitting
fits-refuted n p m e = sym (ap (fitting n p) e)
