-- A list of nodes as a list of arrays of w numbers: the array of the number k is what stands at w times k, and begins what is left there.
use mathlib.Core.Path.{◌≡◌, ap, sym, ◌∙◌}
use mathlib.Core.List.{List, ◌++◌}
use Prim.Native.Nat.{ℕ, zero, suc, ◌+◌, ◌*◌, ◌/◌, ◌≤◌, ◌<◌}
use native.Mathlib.Numerals.{add-one}
use native.Mathlib.Omega.{arith}
use lib.ListN.{length, drop, take, get_or, length-drop}
use lib.Seq.{drop-drop, length-take-le}
use Rattle.std.specs.Simd.{first_chunks}
use Rattle.std.proofs.Math.Nat.{mul-zero, mul-suc, mul-div-le, mul-le-mul_left}
use Rattle.std.proofs.lemmas.List.{take-append-drop}

times-next : (w k : ℕ) → w * k + w ≡ w * (k + 1)
times-next w k = sym (ap (λ (n : ℕ). w * n) (add-one k) ∙ mul-suc w k)

pub chunk : (w m k : ℕ) (code none : List ℕ) → k < m → get_or (first_chunks w m code) k none ≡ take w (drop (w * k) code)
chunk w zero k code none h = absurd (omega arith)
chunk w (suc m) zero code none h = ap (λ (n : ℕ). take w (drop n code)) (sym (mul-zero w))
chunk w (suc m) (suc k) code none h =
    let behind : w + w * k ≡ w * suc k = omega (arith, mul-suc w k) in
    chunk w m k (drop w code) none (omega arith) ∙ ap (λ (l : List ℕ). take w l) (drop-drop (w * k) w code ∙ ap (λ (n : ℕ). drop n code) behind)

module _ (w k : ℕ) (code none : List ℕ) (items : List (List ℕ)) (all : items ≡ first_chunks w (length code / w) code) (below : k < length code / w) where
  array-is : get_or items k none ≡ take w (drop (w * k) code)
  array-is = ap (λ (l : List (List ℕ)). get_or l k none) all ∙ chunk w (length code / w) k code none below

  fits : w * k + w ≤ length code
  fits =
      let next : w * (k + 1) ≤ w * (length code / w) = mul-le-mul_left w (omega arith) in
      omega (arith, times-next w k, next, mul-div-le (length code) w)

  pub array-long : length (get_or items k none) ≡ w
  array-long = ap (λ (l : List ℕ). length l) array-is ∙ length-take-le w (drop (w * k) code) (omega (arith, fits, length-drop (w * k) code))

  pub array-cut : drop (w * k) code ≡ get_or items k none ++ drop (w * (k + 1)) code
  array-cut =
      sym (take-append-drop w (drop (w * k) code))
      ∙ (ap (λ (l : List ℕ). take w (drop (w * k) code) ++ l) (drop-drop w (w * k) code ∙ ap (λ (n : ℕ). drop n code) (times-next w k))
      ∙ ap (λ (l : List ℕ). l ++ drop (w * (k + 1)) code) (sym array-is))
