-- A node is written behind others.
use mathlib.Core.Path.{◌≡◌, refl, ap, ◌∙◌}
use mathlib.Core.List.{List, [], ◌∷◌, ◌++◌, append_assoc}
use Prim.Native.Nat.{ℕ, suc, ◌+◌, ◌≤◌, ◌<◌}
use native.Mathlib.Omega.{arith}
use lib.ListN.{length, take, set, length-set}
use lib.Seq.{take-suc-set, drop-set-lt}
use Rattle.form.specs.Codes.{node}
use Rattle.form_nodes.specs.FormPromises.{Writes}

one : (a : List ℕ) (m k v : ℕ) (x : List ℕ) → m < length a → k ≡ suc m → take m a ≡ x → take k (set a m v) ≡ x ++ (v ∷ [])
one a m k v x l e q = ap (λ (i : ℕ). take i (set a m v)) e ∙ take-suc-set a m v l ∙ ap (λ (y : List ℕ). y ++ (v ∷ [])) q

pub four : (a : List ℕ) (n k p x y : ℕ) → n + 4 ≤ length a → Writes a n (node k p x y) (set (set (set (set a n y) (n + 1) x) (n + 2) p) (n + 3) k) (n + 4)
four a n k p x y l =
    let a₁ : List ℕ = set a n y in
    let a₂ : List ℕ = set a₁ (n + 1) x in
    let a₃ : List ℕ = set a₂ (n + 2) p in
    let e₁ : length a₁ ≡ length a = length-set a n y in
    let e₂ : length a₂ ≡ length a = length-set a₁ (n + 1) x ∙ e₁ in
    let e₃ : length a₃ ≡ length a = length-set a₂ (n + 2) p ∙ e₂ in
    record {
      count = refl;
      nodes =
          one a₃ (n + 3) (n + 4) k _ (omega arith) (omega arith)
          (one a₂ (n + 2) (n + 3) p _ (omega arith) (omega arith)
          (one a₁ (n + 1) (n + 2) x _ (omega arith) (omega arith)
          (one a n (n + 1) y (take n a) (omega arith) (omega arith) refl)))
          ∙ simp append_assoc;
      rest =
          drop-set-lt (n + 4) a₃ (n + 3) k (omega arith) ∙ drop-set-lt (n + 4) a₂ (n + 2) p (omega arith)
          ∙ drop-set-lt (n + 4) a₁ (n + 1) x (omega arith) ∙ drop-set-lt (n + 4) a n y (omega arith);
    }
