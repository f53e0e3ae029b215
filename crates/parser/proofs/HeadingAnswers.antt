-- The pass over the headings answers with the least fault of number 7.
use Rattle.std.specs.Prelude.{Some, None}
use Rattle.std.specs.Prelude as prelude
use mathlib.Core.Path.{◌≡◌, refl, sym, ap, ◌∙◌, subst, subst₂}
use mathlib.Core.List.{List, [], ◌++◌, append-nil}
use Prim.Native.Nat.{ℕ, ◌+◌, ◌≤◌}
use native.Mathlib.Omega.{arith}
use lib.ListN.{length, take, get_or}
use Rattle.refusals.specs.Refusals.{Fault}
use Rattle.form.specs.Tree.{Dossier}
use Rattle.form.specs.Written.{symbols_of}
use Rattle.form.specs.Headings.{givens_at, abstract_at, operations_at, given_headings, operation_headings, heading_faults}
use Rattle.form.specs.Codes.{Numbering, state_codes, dossier_codes}
use Rattle.parser.specs.Sections.{Tells, Finds, size_of, Compares, Compared, entries_from, givens_from, abstract_from, operations_from}
use Rattle.parser.proofs.ItemNodes.{Split, split-as, split_at, split-length, above, state-above}
use Rattle.parser.proofs.PartPlaces.{from_abstract, from_concrete, from_givens, given_part, operation_part, entries_at, one, two, at-start, at-entries, at-givens}
use Rattle.parser.proofs.PartPlaces.{at-abstract, at-operations, givens-from, laid, of_array}
use Rattle.parser.proofs.HeadingOrder.{Rising, headed, finds-first, others-first, one-first}
use Rattle.parser.proofs.BodyFaults.{Body, body_codes, faults, faults-rise, compares}
use Rattle.parser.proofs.TitledBodies.{given_bodies, givens_end, givens-codes, givens-faults, givens-risen, givens-inners, givens-end-at, abstract-before}
use Rattle.parser.proofs.TitledBodies.{operation_bodies, operations_end, operations-codes, operations-faults, operations-risen, operations-inners, operations-end-at}
use Rattle.parser.proofs.HeadingLetters.{given-entries-known, operation-entries-known, given-titles-known, operation-titles-known}

three : (a : ℕ) → 4 ≡ size_of 3 a
unfolding size_of
three a = refl

eight : (a : ℕ) → 4 ≡ size_of 8 a
unfolding size_of
eight a = refl

module _ (d : Dossier) (ρ : Numbering) where
  abbrev nodes : List ℕ
  nodes = dossier_codes d ρ

  abbrev pub given_faults : List Fault
  given_faults = given_headings (givens_at d) d.given_entries d.givens

  abbrev pub operation_faults : List Fault
  operation_faults = operation_headings (operations_at d) d.operation_entries d.operations

  abbrev given_sets : List Body
  given_sets = given_bodies (givens_at d) d.givens ρ

  abbrev operations : List Body
  operations = operation_bodies (operations_at d) d.operations ρ

  from_entries : 0 + length (given_part d ρ) ≡ entries_from d ρ
  unfolding entries_from
  from_entries = omega arith

  from-givens : givens_from d ρ + length (body_codes 3 ρ given_sets) ≡ abstract_from d ρ
  unfolding abstract_from
  from-givens = ap (λ (l : List ℕ). givens_from d ρ + length l) (sym (givens-codes (givens_at d) d.givens ρ))

  -- the given sets against their entries
  first-compares : Tells ρ (symbols_of d) → Compares nodes (length nodes) 4 4 (entries_from d ρ) (abstract_from d ρ) (abstract_at d) 0 (givens_from d ρ) (headed given_faults)
  first-compares t =
      subst₂ (λ (z : ℕ) (f : List Fault). Compares nodes (length nodes) 4 4 (entries_from d ρ) (abstract_from d ρ) z 0 (givens_from d ρ) (headed f))
      (givens-end-at d) (sym (givens-faults (givens_at d) d.given_entries d.givens ρ))
      (compares nodes (symbols_of d) ρ 1 3 4 4 (entries_from d ρ) (abstract_from d ρ) (givens_end (givens_at d) d.givens) t (one d ρ) three (omega arith)
      (operation_part d ρ ++ from_givens d ρ) (from_abstract d ρ) (above 5 4 4 (from_abstract d ρ) (state-above (abstract_at d) d.abstract ρ (from_concrete d ρ)) (omega arith))
      1 0 (givens_from d ρ) d.given_entries given_sets (at-start d ρ) from_entries
      (split-as (ap (λ (l : List ℕ). l ++ from_abstract d ρ) (givens-codes (givens_at d) d.givens ρ)) (at-givens d ρ)) from-givens
      (givens-inners (givens_at d) d.givens ρ) (given-entries-known d) (given-titles-known d ρ))

  -- the operations against theirs
  last-bodies : Split nodes (operations_from d ρ) (body_codes 8 ρ operations ++ [])
  last-bodies =
      split-as (operations-codes (operations_at d) d.operations ρ ∙ sym (append-nil (body_codes 8 ρ operations))) (at-operations d ρ)

  to_end : operations_from d ρ + length (body_codes 8 ρ operations) ≡ length nodes
  to_end =
      ap (λ (l : List ℕ). operations_from d ρ + length l) (sym (operations-codes (operations_at d) d.operations ρ))
      ∙ sym (split-length (at-operations d ρ))

  second-compares : Tells ρ (symbols_of d)
      → Compares nodes (length nodes) 6 7 (givens_from d ρ) (length nodes) (length (symbols_of d)) (entries_from d ρ) (operations_from d ρ) (headed operation_faults)
  second-compares t =
      subst₂ (λ (z : ℕ) (f : List Fault). Compares nodes (length nodes) 6 7 (givens_from d ρ) (length nodes) z (entries_from d ρ) (operations_from d ρ) (headed f))
      (operations-end-at d) (sym (operations-faults (operations_at d) d.operation_entries d.operations ρ))
      (compares nodes (symbols_of d) ρ 2 8 6 7 (givens_from d ρ) (length nodes) (operations_end (operations_at d) d.operations) t (two d ρ) eight (omega arith)
      (from_givens d ρ) [] (omega arith) (entries_at d ρ) (entries_from d ρ) (operations_from d ρ) d.operation_entries operations (at-entries d ρ) (givens-from d ρ)
      last-bodies to_end (operations-inners (operations_at d) d.operations ρ) (operation-entries-known d) (operation-titles-known d ρ))

  -- all faults, in the order of their places
  pub rising : Rising (givens_at d) (given_faults ++ operation_faults)
  rising =
      let z : ℕ = givens_end (givens_at d) d.givens in
      let l : z ≤ operations_at d = (let e = givens-end-at d in let b = abstract-before d in omega arith) in
      let f : List Fault = faults (operations_end (operations_at d) d.operations) d.operation_entries operations in
      let r : Rising z (f ++ []) = faults-rise z (operations_end (operations_at d) d.operations) d.operation_entries operations [] (operations-risen z (operations_at d) d.operations ρ l) tt in
      let s : Rising z operation_faults = subst (Rising z) (append-nil f ∙ sym (operations-faults (operations_at d) d.operation_entries d.operations ρ)) r in
      subst (λ (x : List Fault). Rising (givens_at d) (x ++ operation_faults)) (sym (givens-faults (givens_at d) d.given_entries d.givens ρ))
      (faults-rise (givens_at d) z d.given_entries given_sets operation_faults (givens-risen (givens_at d) (givens_at d) d.givens ρ (omega arith)) s)

  pub finds : (r : prelude.Option ℕ) → headed (given_faults ++ operation_faults) ≡ r → Finds (heading_faults d) r
  unfolding heading_faults
  finds r e = subst (Finds (heading_faults d)) e (finds-first (givens_at d) (given_faults ++ operation_faults) rising)

  -- the place of a wanting given set
  abstract-place : get_or nodes (abstract_from d ρ + 2) 0 ≡ abstract_at d
  unfolding state_codes
  abstract-place = split_at (at-abstract d ρ) 2

-- what is compared, at equal places
at_places : (a : List ℕ) (m : ℕ) {low high to last wanting from head to' last' wanting' from' head' : ℕ} {r : prelude.Option ℕ}
    → to ≡ to' → last ≡ last' → wanting ≡ wanting' → from ≡ from' → head ≡ head'
    → Compared a m low high to last wanting from head r → Compared a m low high to' last' wanting' from' head' r
at_places a m {low} {high} {r = r} p q s t u f = subst (λ (X : Type 0). X) (λ i. Compared a m low high (p i) (q i) (s i) (t i) (u i) r) f

module _ (d : Dossier) (ρ : Numbering) (a : List ℕ) (m : ℕ) (l : m ≤ length a) (e : take m a ≡ dossier_codes d ρ) (t : Tells ρ (symbols_of d)) where
  pub wanting-at : {abstracts r : ℕ} → abstracts ≡ abstract_from d ρ → (abstracts + 4 ≤ m → r ≡ get_or (take m a) (abstracts + 2) 0) → r ≡ abstract_at d
  wanting-at {abstracts} {r} p f =
      let x = (laid d ρ a m l e).concretes.room in
      f (omega arith) ∙ ap (λ (i : ℕ). get_or (take m a) (i + 2) 0) p
      ∙ of_array (λ (c : List ℕ) (n : ℕ). get_or c (abstract_from d ρ + 2) 0 ≡ abstract_at d) a m (dossier_codes d ρ) l e (abstract-place d ρ)

  pub first-answer : {entries givens abstracts wanting : ℕ} {r : prelude.Option ℕ} → entries ≡ entries_from d ρ → givens ≡ givens_from d ρ → abstracts ≡ abstract_from d ρ → wanting ≡ abstract_at d
      → Compared a m 4 4 entries abstracts wanting 0 givens r → r ≡ headed (given_faults d ρ)
  first-answer p q s u f =
      at_places a m p s u refl q f (headed (given_faults d ρ))
      (of_array (λ (c : List ℕ) (n : ℕ). Compares c n 4 4 (entries_from d ρ) (abstract_from d ρ) (abstract_at d) 0 (givens_from d ρ) (headed (given_faults d ρ)))
      a m (dossier_codes d ρ) l e (first-compares d ρ t))

  pub second-answer : {entries givens operations symbols : ℕ} {r : prelude.Option ℕ} → entries ≡ entries_from d ρ → givens ≡ givens_from d ρ → operations ≡ operations_from d ρ → symbols ≡ length (symbols_of d)
      → Compared a m 6 7 givens m symbols entries operations r → r ≡ headed (operation_faults d ρ)
  second-answer p q s u f =
      at_places a m q refl u p s f (headed (operation_faults d ρ))
      (of_array (λ (c : List ℕ) (n : ℕ). Compares c n 6 7 (givens_from d ρ) n (length (symbols_of d)) (entries_from d ρ) (operations_from d ρ) (headed (operation_faults d ρ)))
      a m (dossier_codes d ρ) l e (second-compares d ρ t))

  pub fit-first : {r q : prelude.Option ℕ} → r ≡ headed (given_faults d ρ) → q ≡ headed (operation_faults d ρ) → r ≡ None → Finds (heading_faults d) q
  fit-first {r} {q} p s u = finds d ρ q (others-first (given_faults d ρ) (operation_faults d ρ) (sym p ∙ u) ∙ sym s)

  pub differ-first : {r : prelude.Option ℕ} {p : ℕ} → r ≡ headed (given_faults d ρ) → r ≡ Some p → Finds (heading_faults d) (Some p)
  differ-first {r} {p} s u = finds d ρ (Some p) (one-first (given_faults d ρ) (operation_faults d ρ) p (sym s ∙ u))
