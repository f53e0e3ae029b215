-- The parts of a check by number: how many places each has, where it begins, and that all of them together are the places of the check. Assumes nothing.
use mathlib.Core.Path.{◌≡◌, refl, sym, ap, ap₂, ◌∙◌}
use mathlib.Core.Option.{some}
use Prim.Native.Nat.{ℕ, zero, suc, ◌+◌, ◌-◌, ◌*◌, ◌/◌, ◌%◌, ◌<◌, ◌≤◌}
use native.Mathlib.Omega.{arith}
use lib.ListN.{length, get_elem?}
use Rattle.form.specs.Tree.{Operation, Dossier}
use Rattle.meaning.proofs.Places.{entry-below, below-entry}
use Rattle.obligations.specs.Subjects.{subject_of}
use Rattle.obligations.specs.Order.{total}
use Rattle.obligations.proofs.Digits.{concretes, applicability_size, correctness_size, start_of, length-opening, start_first, start-next, total-ends}
use Rattle.part_setup.specs.PartTestsPartOrder.{operation_part_size, part_size, part_begin}

module _ (d : Dossier) where
  -- initialisation comes first
  pub first-size : part_size d 0 ≡ concretes d
  unfolding part_size
  first-size = refl

  pub first-begin : part_begin d 0 ≡ 0
  unfolding part_begin
  first-begin = refl

  -- each part begins where the one before it ends
  pub next-begin : (k : ℕ) → part_begin d (k + 1) ≡ part_begin d k + part_size d k
  unfolding part_begin
  next-begin k = let s : k + 1 ≡ suc k = omega arith in ap (part_begin d) s

  -- the sizes of the two parts of an operation
  size-by : (n w j : ℕ) (op : Operation) → n % 2 ≡ w → n / 2 ≡ j → get_elem? d.operations j ≡ some op → part_size d (n + 1) ≡ operation_part_size d w (some op)
  unfolding part_size
  size-by n w j op e f listed =
      let s : n + 1 ≡ suc n = omega arith in
      ap (part_size d) s
      ∙ ap₂ (operation_part_size d) e (ap (get_elem? d.operations) f ∙ listed)

  module _ (j : ℕ) (op : Operation) (listed : get_elem? d.operations j ≡ some op) where
    pub applicability-size : part_size d (1 + 2 * j) ≡ applicability_size d op
    unfolding operation_part_size
    applicability-size =
        let s : 1 + 2 * j ≡ 2 * j + 1 = omega arith in
        ap (part_size d) s ∙ size-by (2 * j) 0 j op (omega arith) (omega arith) listed

    pub correctness-size : part_size d (2 + 2 * j) ≡ correctness_size d op
    unfolding operation_part_size
    correctness-size =
        let s : 2 + 2 * j ≡ 1 + 2 * j + 1 = omega arith in
        ap (part_size d) s ∙ size-by (1 + 2 * j) 1 j op (omega arith) (omega arith) listed

  -- where they begin
  pub applicability-begin : (j : ℕ) → j ≤ length d.operations → part_begin d (1 + 2 * j) ≡ start_of (subject_of d) j
  applicability-begin zero h =
      let e : part_begin d (0 + 1) ≡ part_begin d 0 + part_size d 0 = next-begin 0 in
      omega (arith, e, first-begin, first-size, start_first (subject_of d), length-opening (subject_of d))
  applicability-begin (suc j) h =
      let t : (op : Operation) × (get_elem? d.operations j ≡ some op) = below-entry d.operations j (omega arith) in
      let a : part_begin d (1 + 2 * j) ≡ start_of (subject_of d) j = applicability-begin j (omega arith) in
      let n : start_of (subject_of d) (suc j) ≡ start_of (subject_of d) j + (applicability_size d t.0 + correctness_size d t.0) = start-next (subject_of d) j t.0 t.1 in
      let s : 1 + 2 * suc j ≡ 2 + 2 * j + 1 = omega arith in
      let r : 2 + 2 * j ≡ 1 + 2 * j + 1 = omega arith in
      let e : part_begin d (2 + 2 * j + 1) ≡ start_of (subject_of d) (suc j)
      = next-begin (2 + 2 * j)
      ∙ ap₂ ◌+◌ (ap (part_begin d) r ∙ next-begin (1 + 2 * j) ∙ ap₂ ◌+◌ a (applicability-size j t.0 t.1)) (correctness-size j t.0 t.1)
      ∙ (let m : start_of (subject_of d) j + applicability_size d t.0 + correctness_size d t.0 ≡ start_of (subject_of d) (suc j) = omega (arith, n) in m) in
      ap (part_begin d) s ∙ e

  pub correctness-begin : (j : ℕ) (op : Operation) → get_elem? d.operations j ≡ some op
      → part_begin d (2 + 2 * j) ≡ start_of (subject_of d) j + applicability_size d op
  correctness-begin j op listed =
      let h : j < length d.operations = entry-below op d.operations j listed in
      let r : 2 + 2 * j ≡ 1 + 2 * j + 1 = omega arith in
      ap (part_begin d) r ∙ next-begin (1 + 2 * j) ∙ ap₂ ◌+◌ (applicability-begin j (omega arith)) (applicability-size j op listed)

  -- the last part ends where the check does
  pub all_end : part_begin d (1 + 2 * length d.operations) ≡ total (subject_of d)
  all_end = applicability-begin (length d.operations) (omega arith) ∙ sym (total-ends (subject_of d))

  begin_grows : (k n : ℕ) → part_begin d k ≤ part_begin d (k + n)
  begin_grows k zero = let e : k + zero ≡ k = omega arith in omega (arith, ap (part_begin d) e)
  begin_grows k (suc n) =
      let e : k + suc n ≡ k + n + 1 = omega arith in
      omega (arith, ap (part_begin d) e, next-begin (k + n), begin_grows k n)

  -- each part stands among the places of the check
  pub part-within : (k : ℕ) → k < 1 + 2 * length d.operations → part_begin d k + part_size d k ≤ total (subject_of d)
  part-within k h =
      let n : ℕ = 1 + 2 * length d.operations - (k + 1) in
      let e : k + 1 + n ≡ 1 + 2 * length d.operations = omega arith in
      omega (arith, begin_grows (k + 1) n, ap (part_begin d) e, next-begin k, all_end)
