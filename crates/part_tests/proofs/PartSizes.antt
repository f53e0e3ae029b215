-- How many places the check as a whole has, and that each part stands among them. Assumes nothing.
use mathlib.Core.Path.{◌≡◌, refl}
use mathlib.Core.List.{List, [], ◌∷◌}
use mathlib.Core.Option.{some}
use Prim.Native.Nat.{ℕ, zero, suc, ◌+◌, ◌*◌, ◌<◌, ◌≤◌, ◌^◌}
use native.Mathlib.Nat.{mul-le-mul}
use native.Mathlib.Omega.{arith}
use lib.ListN.{length, get_elem?}
use Rattle.form.specs.Tree.{Operation, Dossier}
use Rattle.obligations.specs.Subjects.{subject_of}
use Rattle.obligations.specs.Order.{total}
use Rattle.obligations.proofs.Digits.{abstracts, concretes, givens, results, applicability_size, correctness_size, size_of_first, length-opening, total-ends}

-- the most places that an operation's two parts can have: 2 ^ 30 and 2 ^ 48
small-applicability : (a c i : ℕ) → a ≤ 4096 → c ≤ 4096 → i ≤ 64 → a * c * i ≤ 1073741824
small-applicability a c i la lc li = mul-le-mul {n₂ = 16777216} {m₂ = 64} (mul-le-mul {n₂ = 4096} {m₂ = 4096} la lc) li

small-correctness : (a c i o : ℕ) → a ≤ 4096 → c ≤ 4096 → i ≤ 64 → o ≤ 64 → a * c * i * o * c ≤ 281474976710656
small-correctness a c i o la lc li lo =
    mul-le-mul {n₂ = 68719476736} {m₂ = 4096} (mul-le-mul {n₂ = 1073741824} {m₂ = 64} (small-applicability a c i la lc li) lo) lc

sum-small : (a c s n : ℕ) → a ≤ 1073741824 → c ≤ 281474976710656 → s ≤ 281476050452480 * n → a + c + s ≤ 281476050452480 * suc n
sum-small a c s n la lc ls = omega arith

both-more : (n s t : ℕ) → s ≤ t → n + s ≤ n + t
both-more n s t h = omega arith

module _ (d : Dossier) where
  -- the groups of the operations of a list are within the limits of document 01
  abbrev pub Small : List Operation → Type 0
  Small ops = (j : ℕ) (op : Operation) → get_elem? ops j ≡ some op → (givens d op ≤ 64) × (results d op ≤ 64)

  module _ (la : abstracts d ≤ 4096) (lc : concretes d ≤ 4096) where
    first_small : (ops : List Operation) → Small ops → size_of_first d (length ops) ops ≤ 281476050452480 * length ops
    unfolding size_of_first
    first_small [] h = omega arith
    first_small (op ∷ ops) h =
        let a : applicability_size d op ≤ 1073741824 = small-applicability (abstracts d) (concretes d) (givens d op) la lc (h 0 op refl).0 in
        let b : correctness_size d op ≤ 281474976710656 = small-correctness (abstracts d) (concretes d) (givens d op) (results d op) la lc (h 0 op refl).0 (h 0 op refl).1 in
        sum-small (applicability_size d op) (correctness_size d op) (size_of_first d (length ops) ops) (length ops) a b (first_small ops (λ j o e. h (suc j) o e))

    -- "a part and the check as a whole have fewer than 2^53 places"
    pub total-small : Small d.operations → length d.operations ≤ 16 → total (subject_of d) < 2 ^ 53
    total-small h l = omega (arith, first_small d.operations h, total-ends (subject_of d), length-opening (subject_of d))

  first-within : (j : ℕ) (ops : List Operation) → size_of_first d j ops ≤ size_of_first d (length ops) ops
  unfolding size_of_first
  first-within zero ops = omega arith
  first-within (suc j) [] = omega arith
  first-within (suc j) (op ∷ ops) = both-more (applicability_size d op + correctness_size d op) (size_of_first d j ops) (size_of_first d (length ops) ops) (first-within j ops)
