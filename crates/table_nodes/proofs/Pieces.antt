-- Pieces written side by side are one piece, whichever of them is written first.
use mathlib.Core.Path.{◌≡◌, refl, sym, ap, ap₂, ◌∙◌}
use mathlib.Core.List.{List, [], ◌∷◌, ◌++◌, append_assoc}
use Prim.Native.Nat.{ℕ, suc, ◌+◌, ◌≤◌, ◌<◌}
use native.Mathlib.Omega.{arith}
use lib.ListN.{length, take, drop, set, length-append, length-drop, take-append-drop}
use lib.Seq.{set_split, take_at, drop_at, take-take, take-append-le, drop-drop, length-take-le}
use borrow.Rule.Slice.PartMut.{put_mid}
use Rattle.table_nodes.specs.TableWalkPromises.{patch}

-- nothing is written; one number is
pub patch-none : (n : ℕ) (out : List ℕ) → patch n [] out ≡ out
unfolding patch
patch-none n out = let e : n + 0 ≡ n = omega arith in ap (λ (k : ℕ). take n out ++ drop k out) e ∙ take-append-drop n out

pub patch-set : (n v : ℕ) (out : List ℕ) → n < length out → set out n v ≡ patch n (v ∷ []) out
unfolding patch
patch-set n v out h = let e : suc n ≡ n + 1 = omega arith in set_split out n v h ∙ ap (λ (k : ℕ). take n out ++ (v ∷ drop k out)) e

-- a piece that fits leaves the length as it was
pub patch-length : (b : ℕ) (t out : List ℕ) → b + length t ≤ length out → length (patch b t out) ≡ length out
unfolding patch
patch-length b t out h =
    let p = length-append (take b out) (t ++ drop (b + length t) out) in
    let q = length-append t (drop (b + length t) out) in
    let r = length-take-le b out (omega arith) in
    let s = length-drop (b + length t) out in
    omega arith

-- the two pieces t and u, from b on, with what follows them
both : (b m : ℕ) (t u out : List ℕ) → m ≡ b + length t
    → take b out ++ (t ++ (u ++ drop (m + length u) out)) ≡ patch b (t ++ u) out
unfolding patch
both b m t u out h =
    let n = length-append t u in
    let e : m + length u ≡ b + length (t ++ u) = omega arith in
    ap (λ (x : List ℕ). take b out ++ x) (sym (append_assoc t u (drop (m + length u) out)) ∙ ap (λ (k : ℕ). (t ++ u) ++ drop k out) e)

-- the first one is written last
pub patch-before : (b m : ℕ) (t u out : List ℕ) → m ≡ b + length t → m ≤ length out → patch b t (patch m u out) ≡ patch b (t ++ u) out
unfolding patch
patch-before b m t u out h l =
    let r = length-take-le m out l in
    let rest : List ℕ = u ++ drop (m + length u) out in
    let front : take b (take m out ++ rest) ≡ take b out = take-append-le b (take m out) rest (omega arith) ∙ take-take b m out (omega arith) in
    let back : drop (b + length t) (take m out ++ rest) ≡ rest = drop_at (take m out) rest (b + length t) (omega arith) in
    ap₂ (λ (x y : List ℕ). x ++ (t ++ y)) front back ∙ both b m t u out h

-- the first one is written first
pub patch-behind : (b m : ℕ) (t u out : List ℕ) → m ≡ b + length t → m ≤ length out → patch m u (patch b t out) ≡ patch b (t ++ u) out
unfolding patch
patch-behind b m t u out h l =
    let r = length-take-le b out (omega arith) in
    let rest : List ℕ = drop (b + length t) out in
    let head : List ℕ = take b out ++ t in
    let n : length head ≡ m = length-append (take b out) t ∙ omega arith in
    let split : take b out ++ (t ++ rest) ≡ head ++ rest = sym (append_assoc (take b out) t rest) in
    let front : take m (take b out ++ (t ++ rest)) ≡ head = ap (take m) split ∙ take_at head rest m n in
    let back : drop (m + length u) (take b out ++ (t ++ rest)) ≡ drop (m + length u) out =
    sym (drop-drop (length u) m (take b out ++ (t ++ rest)))
    ∙ ap (λ (x : List ℕ). drop (length u) x) (ap (drop m) split ∙ drop_at head rest m n ∙ ap (λ (k : ℕ). drop k out) (sym h))
    ∙ drop-drop (length u) m out in
    ap₂ (λ (x y : List ℕ). x ++ (u ++ y)) front back ∙ append_assoc (take b out) t (u ++ drop (m + length u) out) ∙ both b m t u out h

-- a part of a slice, written as a whole
pub part-written : (a k : ℕ) (out ys piece : List ℕ) → ys ≡ piece → length piece ≡ k → put_mid a k out ys ≡ patch a piece out
unfolding patch
part-written a k out ys piece e h =
    let n : a + k ≡ a + length piece = omega arith in
    ap₂ (λ (x y : List ℕ). take a out ++ (x ++ y)) e (drop-drop k a out ∙ ap (λ (j : ℕ). drop j out) n)

-- one number more behind the piece
pub patch-more : (n m v : ℕ) (x out : List ℕ) → m ≡ n + length x → m < length out → set (patch n x out) m v ≡ patch n (x ++ (v ∷ [])) out
patch-more n m v x out e h =
    let l = patch-length n x out (omega arith) in
    patch-set m v (patch n x out) (omega arith) ∙ patch-behind n m x (v ∷ []) out e (omega arith)

-- four numbers, stored one behind the other
pub four-stored : (out : List ℕ) (at k i a b : ℕ) → at + 4 ≤ length out → set (set (set (set out at b) (at + 1) a) (at + 2) i) (at + 3) k ≡ patch at (b ∷ a ∷ i ∷ k ∷ []) out
four-stored out at k i a b h =
    ap (λ (x : List ℕ). set (set (set x (at + 1) a) (at + 2) i) (at + 3) k) (patch-set at b out (omega arith))
    ∙ ap (λ (x : List ℕ). set (set x (at + 2) i) (at + 3) k) (patch-more at (at + 1) a (b ∷ []) out refl (omega arith))
    ∙ ap (λ (x : List ℕ). set x (at + 3) k) (patch-more at (at + 2) i (b ∷ a ∷ []) out refl (omega arith))
    ∙ patch-more at (at + 3) k (b ∷ a ∷ i ∷ []) out refl (omega arith)
