-- A list that stands among numbers: how long it is, where its two parts stand, and each number of it.
use mathlib.Core.Path.{◌≡◌, refl, sym, ap, subst, ◌∙◌}
use mathlib.Core.List.{List, ◌++◌}
use Prim.Native.Nat.{ℕ, ◌+◌, ◌-◌, ◌<◌}
use native.Mathlib.Omega.{arith}
use lib.ListN.{length, take, drop, get_or, length-append, length-drop}
use lib.Seq.{length-take-le, take-take, take-append_seam, take-add, drop_at, drop-drop, get_or-append-add, get_or-take, get_or-drop}
use Rattle.parser.specs.Sections.{PartOf}
use Rattle.node_spans.specs.Spans.{Stands}

pub stands-length : {t : List ℕ} {from end : ℕ} {x : List ℕ} → Stands t from end x → end ≡ from + length x
stands-length {t} {from} {end} {x} s =
    let o = s.ordered in
    let i = s.inside in
    let d = length-drop from t in
    let e : length x ≡ end - from = sym (ap length s.stands) ∙ length-take-le (end - from) (drop from t) (omega arith) in
    omega arith

-- the first part, and the second
pub stands-left : {t : List ℕ} {from end : ℕ} (x y : List ℕ) (m : ℕ) → Stands t from end (x ++ y) → m ≡ from + length x → Stands t from m x
stands-left {t} {from} {end} x y m s e =
    let o = s.ordered in
    let i = s.inside in
    let l = stands-length s in
    let n = length-append x y in
    let k : m - from ≡ length x = omega arith in
    record {
      ordered = omega arith;
      inside = omega arith;
      stands =
          ap (λ (j : ℕ). take j (drop from t)) k ∙ sym (take-take (length x) (end - from) (drop from t) (omega arith))
          ∙ ap (take (length x)) s.stands ∙ take-append_seam x y;
    }

pub stands-right : {t : List ℕ} {from end : ℕ} (x y : List ℕ) (m : ℕ) → Stands t from end (x ++ y) → m ≡ from + length x → Stands t m end y
stands-right {t} {from} {end} x y m s e =
    let o = s.ordered in
    let i = s.inside in
    let l = stands-length s in
    let n = length-append x y in
    let d = length-drop from t in
    let k : end - from ≡ length x + (end - m) = omega arith in
    let a : List ℕ = drop from t in
    let u : x ++ y ≡ take (length x) a ++ take (end - m) (drop (length x) a) =
    sym s.stands ∙ ap (λ (j : ℕ). take j a) k ∙ take-add (length x) (end - m) a in
    let v : take (end - m) (drop (length x) a) ≡ y =
    sym (drop_at (take (length x) a) (take (end - m) (drop (length x) a)) (length x) (length-take-le (length x) a (omega arith)))
    ∙ ap (drop (length x)) (sym u) ∙ drop_at x y (length x) refl in
    record {
      ordered = omega arith;
      inside = omega arith;
      stands = ap (λ (j : ℕ). take (end - m) (drop j t)) e ∙ ap (take (end - m)) (sym (drop-drop (length x) from t)) ∙ v;
    }

-- a number of the part
pub stands_at : {t : List ℕ} {from end : ℕ} (x y : List ℕ) (j n : ℕ) → Stands t from end (x ++ y) → j < length y → n ≡ from + (length x + j) → get_or t n 0 ≡ get_or y j 0
stands_at {t} {from} {end} x y j n s h e =
    let l = stands-length s in
    let k = length-append x y in
    ap (λ (i : ℕ). get_or t i 0) e ∙ sym (get_or-drop from t (length x + j) 0)
    ∙ sym (get_or-take (end - from) (drop from t) (length x + j) 0 (omega arith))
    ∙ ap (λ (z : List ℕ). get_or z (length x + j) 0) s.stands ∙ get_or-append-add x y j 0

-- what is read between two places: the list that stands there
pub part-stands : (nodes : List ℕ) (from to : ℕ) (code l : List ℕ) → PartOf nodes from to code → Stands nodes from to l → code ≡ l
part-stands nodes from to code l p s = p.part s.ordered s.inside ∙ s.stands

pub part-read : (nodes : List ℕ) (a a' b b' : ℕ) (r : List ℕ) → a ≡ a' → b ≡ b' → PartOf nodes a b r → PartOf nodes a' b' r
part-read nodes a a' b b' r p q s = subst (λ (m : ℕ). PartOf nodes a' m r) q (subst (λ (m : ℕ). PartOf nodes m b r) p s)
