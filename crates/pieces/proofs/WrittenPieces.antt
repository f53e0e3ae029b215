-- Pieces of text written side by side are one piece: one byte, no byte, two pieces, a byte of a text behind the bytes before it.
use mathlib.Core.Path.{◌≡◌, refl, sym, ap, ap₂, ◌∙◌, subst}
use mathlib.Core.Bool.{Bool, true, false}
use mathlib.Core.List.{List, [], ◌∷◌, ◌++◌}
use Prim.Native.Nat.{ℕ, ◌+◌, ◌-◌, ◌≤◌, ◌<◌}
use native.Mathlib.Omega.{arith}
use native.Mathlib.Nat.{add-zero}
use lib.Dec.{leb}
use Rattle.std.specs.Prelude.{min}
use borrow.Author.Tests.{leb-true, leb-false}
use lib.ListN.{length, take, drop, set, length-set, length-take, length-drop, length-append}
use lib.Seq.{take_all, drop-drop, take-take}
use borrow.Rule.Slice.PartMut.{put_mid}
use Rattle.lexical.specs.Symbols.{run}
use Rattle.lexical.proofs.WordLaws.{run_take, run_length}
use Rattle.table_nodes.specs.TableWalkPromises.{patch}
use Rattle.table_nodes.proofs.Pieces.{patch-none, patch-set, patch-behind, patch-length}
use Rattle.pieces.specs.PiecePromises.{Writes, Adds, letters_at}
use Rattle.pieces.specs.declared.Writer.{Writer}

-- a piece as another list that is the same
pub piece_is : {p q : List ℕ} {v w : Writer} → p ≡ q → Adds p v w → Adds q v w
piece_is {v = v} {w} e a = subst (λ (s : List ℕ). Adds s v w) e a

-- no byte
pub nothing_added : (v : Writer) → Adds [] v v
nothing_added v = record { same_bytes = refl; written = record { written = sym (patch-none v.at v.out.now); end = sym (add-zero v.at); long = refl } }

-- one byte
pub byte-written : (a : List ℕ) (at b : ℕ) → at < length a → Writes at (b ∷ []) a (set a at b) (at + 1)
byte-written a at b h = record { written = patch-set at b a h; end = refl; long = length-set a at b }

-- a piece that ends behind the bytes changes how many there are
too_long : (at : ℕ) (s a : List ℕ) → 0 < length s → length a < at + length s → length (patch at s a) ≡ length a → ⊥
unfolding patch
too_long at s a k h e =
    let p = length-append (take at a) (s ++ drop (at + length s) a) in
    let q = length-append s (drop (at + length s) a) in
    let t = length-take at a in
    omega arith

-- two pieces side by side
pub both-written : {at m r : ℕ} {p q a b c : List ℕ} → Writes at p a b m → Writes m q b c r → Writes at (p ++ q) a c r
both-written {at} {m} {r} {p} {q} {a} {b} {c} v w = on p v (leb m (length a)) refl
  where
    on : (s : List ℕ) → Writes at s a b m → (t : Bool) → leb m (length a) ≡ t → Writes at (s ++ q) a c r
    on s x true e = record {
      written = w.written ∙ ap (patch m q) x.written ∙ patch-behind at m s q a x.end (leb-true m (length a) e);
      end = let n = length-append s q in omega (arith, x.end, w.end);
      long = w.long ∙ x.long;
    }
    on [] x false e =
        let n = leb-false m (length a) e in
        let same : m ≡ at = x.end ∙ add-zero at in
        record {
          written = w.written ∙ ap₂ (λ (i : ℕ) (l : List ℕ). patch i q l) same (x.written ∙ patch-none at a);
          end = w.end ∙ ap (λ (i : ℕ). i + length q) same;
          long = w.long ∙ x.long;
        }
    on (y ∷ s) x false e =
        absurd (too_long at (y ∷ s) a (omega arith) (let n = leb-false m (length a) e in omega (arith, x.end)) (sym (ap (λ (l : List ℕ). length l) x.written) ∙ x.long))

pub both-added : {p q : List ℕ} {u v w : Writer} → Adds p u v → Adds q v w → Adds (p ++ q) u w
both-added a b = record { same_bytes = b.same_bytes ∙ a.same_bytes; written = both-written a.written b.written }

-- a text copied over as many bytes
pub text-written : (out text bytes : List ℕ) (at k r : ℕ) → k ≡ length text → bytes ≡ text → r ≡ at + length text → at + length text ≤ length out
    → Writes at text out (put_mid at k out bytes) r
unfolding patch
text-written out text bytes at k r e f g h =
    let is : put_mid at k out bytes ≡ patch at text out =
    ap₂ (λ (w v : List ℕ). take at out ++ (w ++ v)) f (drop-drop k at out ∙ ap (λ (n : ℕ). drop (at + n) out) e) in
    record { written = is; end = g; long = ap length is ∙ patch-length at text out h }

-- the letters and digits from a place on, as many as a name has
pub letters-are : (text : List ℕ) (p n : ℕ) → n ≤ length (run (drop p text)) → n ≤ 16 → (n < 16 → n ≡ length (run (drop p text)))
    → take n (drop p text) ≡ letters_at text p
unfolding letters_at
letters-are text p n h k f = sym (take-take n (length r) w h) ∙ ap (take n) (run_take w) ∙ on (leb 16 n) refl
  where
    w : List ℕ
    w = drop p text

    r : List ℕ
    r = run w

    on : (t : Bool) → leb 16 n ≡ t → take n r ≡ take 16 r
    on true e = let l = leb-true 16 n e in let s : n ≡ 16 = omega arith in ap (λ (i : ℕ). take i r) s
    on false e = let l : n ≡ length r = f (leb-false 16 n e) in take_all n r (omega arith) ∙ sym (take_all 16 r (omega arith))

pub letters-length : (text : List ℕ) (p : ℕ) → length (letters_at text p) ≤ 16
unfolding letters_at
letters-length text p = let t = length-take 16 (run (drop p text)) in omega arith

-- of the l letters and digits that stand from p on as many are written as a name has
module _ (text : List ℕ) (p : ℕ) {l n : ℕ} (is : l ≡ length (run (drop p text))) (least : n ≡ min l 16) where
  pub letters-inside : 0 < n → p + n ≤ length text
  letters-inside k = omega (arith, is, least, run_length (drop p text), length-drop p text, k)

  letters-same : take n (drop p text) ≡ letters_at text p
  letters-same = letters-are text p n (omega (arith, is, least)) (omega (arith, least)) (λ g. omega (arith, is, least, g))

  pub no_letters : n ≤ 0 → {v : Writer} → Adds (letters_at text p) v v
  no_letters e {v} =
      let z : n ≡ 0 = omega arith in
      piece_is (ap (λ (k : ℕ). take k (drop p text)) (sym z) ∙ letters-same) (nothing_added v)

  pub some-letters : {v w : Writer} → Adds (take (p + n - p) (drop p text)) v w → Adds (letters_at text p) v w
  some-letters a =
      let z : p + n - p ≡ n = omega arith in
      piece_is (ap (λ (k : ℕ). take k (drop p text)) z ∙ letters-same) a
