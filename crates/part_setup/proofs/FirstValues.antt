-- The first values one behind the other in both arrays of slots. Assumes nothing.
use mathlib.Core.Path.{◌≡◌, sym, ap, subst, ◌∙◌}
use mathlib.Core.Logic.{◌⊎◌, inl, inr}
use mathlib.Core.List.{List, []}
use Prim.Native.Nat.{ℕ, ◌+◌, ◌<◌, ◌≤◌}
use native.Mathlib.Omega.{arith}
use lib.ListN.{get_or, length, set, length-set}
use lib.Seq.{get_or-set_same, get_or-set_other}
use lib.IntN.{ℤ, pos}
use Rattle.slot_carriers.specs.Cells.{value_in}
use Rattle.std.proofs.lemmas.Bool.{cases_lt}
use Rattle.points.specs.Points.{primed_slot}

-- the first n of an array of slots have the first values, number t that of the slot f t
pub record FirstsIn (cells : List ℕ) (f : ℕ → ℕ) (n : ℕ) (a : List ℤ) : Type 0 where
  pub long : length a ≡ 64
  pub each : (t : ℕ) → t < n → get_or a t (pos 0) ≡ value_in cells (f t) 0

-- both arrays: the slots below n have their first values, and the first m plain slots those of the primed ones
pub record Filling (cells : List ℕ) (n m : ℕ) (arrays : List (List ℤ)) : Type 0 where
  pub two : length arrays ≡ 2
  pub before : FirstsIn cells (λ (s : ℕ). s) n (get_or arrays 0 [])
  pub after : FirstsIn cells primed_slot m (get_or arrays 1 [])

firsts-next : (cells : List ℕ) (f : ℕ → ℕ) (n : ℕ) (x : ℤ) (a b : List ℤ) → n < 64 → FirstsIn cells f n a → b ≡ set a n x → x ≡ value_in cells (f n) 0
    → FirstsIn cells f (n + 1) b
firsts-next cells f n x a b low w e v = record { long = ap length e ∙ length-set a n x ∙ w.long; each = λ t h. go t h (cases_lt t n) }
  where
    apart : (t : ℕ) → t < n → t ≡ n → ⊥
    apart t g q = omega arith

    inside : n < length a
    inside = omega (arith, w.long)

    go : (t : ℕ) → t < n + 1 → (t < n) ⊎ (n ≤ t) → get_or b t (pos 0) ≡ value_in cells (f t) 0
    go t h (inl g) = ap (λ (z : List ℤ). get_or z t (pos 0)) e ∙ get_or-set_other a n t x (pos 0) (apart t g) ∙ w.each t g
    go t h (inr g) =
        let q : n ≡ t = omega arith in
        subst (λ (i : ℕ). get_or b i (pos 0) ≡ value_in cells (f i) 0) q (ap (λ (z : List ℤ). get_or z n (pos 0)) e ∙ get_or-set_same a n x (pos 0) inside ∙ v)

-- the first value of one primed slot more, under its plain slot in the second array
pub after-next : (cells : List ℕ) (n m : ℕ) (x : ℤ) (arrays : List (List ℤ)) → m < 64 → Filling cells n m arrays → x ≡ value_in cells (primed_slot m) 0
    → Filling cells n (m + 1) (set arrays 1 (set (get_or arrays 1 []) m x))
after-next cells n m x arrays low w v = record {
  two = length-set arrays 1 filled ∙ w.two;
  before = subst (λ (l : List ℤ). FirstsIn cells (λ (s : ℕ). s) n l) (sym (get_or-set_other arrays 1 0 filled [] (λ e. let z : ⊥ = omega arith in z))) w.before;
  after = firsts-next cells primed_slot m x (get_or arrays 1 []) _ low w.after (get_or-set_same arrays 1 filled [] (omega (arith, w.two))) v;
}
  where
    filled : List ℤ
    filled = set (get_or arrays 1 []) m x
