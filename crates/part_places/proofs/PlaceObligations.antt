-- The obligation of the check at a place, by the number of its part. Assumes nothing.
use mathlib.Core.Path.{◌≡◌, refl, sym, ap, ◌∙◌}
use mathlib.Core.List.{[]}
use mathlib.Core.Option.{some}
use Prim.Native.Nat.{ℕ, ◌+◌, ◌*◌, ◌<◌}
use native.Mathlib.Omega.{arith}
use lib.ListN.{length, get_elem?}
use Rattle.form.specs.Tree.{Operation, Dossier}
use Rattle.meaning.proofs.Places.{member-at, below-entry}
use Rattle.obligations.specs.Subjects.{subject_of}
use Rattle.obligations.specs.Order as order
use Rattle.obligations.specs.Order.{Check, initialises, initialisation, applicability, correctness, obligation_of, applicability_checks, correctness_checks}
use Rattle.obligations.specs.Report.{check_at}
use Rattle.obligations.proofs.Groups.{every-applicability, every-correctness}
use Rattle.obligations.proofs.Digits.{applicability_size, correctness_size, start_of, length-applicability, length-correctness}
use Rattle.obligations.proofs.Digits.{initialisation-place, applicability-place, correctness-place}
use Rattle.part_setup.specs.PartTestsPartOrder.{part_size, part_begin}
use Rattle.held_checks.specs.declared.Obligation.{Obligation}
use Rattle.held_checks.specs.Answers.{obligation_is}
use Rattle.held_checks.specs.StepPromises.{PartTold}
use Rattle.held_checks.proofs.StepLaws.{told-case}
use Rattle.part_places.specs.Places.{parts}
use Rattle.parts.proofs.PartOrderLaws.{first-size, first-begin, applicability-size, correctness-size, applicability-begin, correctness-begin}

module _ (d : Dossier) where
  module _ (part q : ℕ) (low : q < part_size d part) where
    pub obligation-opening : part ≡ 0 → obligation_of (check_at (subject_of d) (part_begin d part + q)) ≡ initialisation
    obligation-opening e =
        let s : part_begin d part + q ≡ q = omega (arith, ap (part_begin d) e, first-begin d) in
        ap (λ (n : ℕ). obligation_of (check_at (subject_of d) n)) s
        ∙ ap obligation_of (initialisation-place (subject_of d) q (omega (arith, low, ap (part_size d) e, first-size d)))

    pub obligation-applying : (j : ℕ) → part ≡ 1 + 2 * j → j < length d.operations → obligation_of (check_at (subject_of d) (part_begin d part + q)) ≡ applicability j
    obligation-applying j e h =
        let t : (op : Operation) × (get_elem? d.operations j ≡ some op) = below-entry d.operations j h in
        let l : q < applicability_size d t.0 = omega (arith, low, ap (part_size d) e, applicability-size d j t.0 t.1) in
        let s : part_begin d part + q ≡ start_of (subject_of d) j + q = omega (arith, ap (part_begin d) e, applicability-begin d j (omega arith)) in
        ap (λ (n : ℕ). obligation_of (check_at (subject_of d) n)) s
        ∙ ap obligation_of (applicability-place (subject_of d) j t.0 t.1 q l)
        ∙ every-applicability d (λ (x : Check). obligation_of x ≡ applicability j) j t.0 (λ a c i. refl) _
        (member-at (applicability_checks d j t.0) q (initialises []) (omega (arith, l, length-applicability d j t.0)))

    pub obligation-correcting : (j : ℕ) → part ≡ 2 + 2 * j → j < length d.operations → obligation_of (check_at (subject_of d) (part_begin d part + q)) ≡ correctness j
    obligation-correcting j e h =
        let t : (op : Operation) × (get_elem? d.operations j ≡ some op) = below-entry d.operations j h in
        let l : q < correctness_size d t.0 = omega (arith, low, ap (part_size d) e, correctness-size d j t.0 t.1) in
        let s : part_begin d part + q ≡ start_of (subject_of d) j + applicability_size d t.0 + q = omega (arith, ap (part_begin d) e, correctness-begin d j t.0 t.1) in
        ap (λ (n : ℕ). obligation_of (check_at (subject_of d) n)) s
        ∙ ap obligation_of (correctness-place (subject_of d) j t.0 t.1 q l)
        ∙ every-correctness d (λ (x : Check). obligation_of x ≡ correctness j) j t.0 (λ a c i o c'. refl) _
        (member-at (correctness_checks d j t.0) q (initialises []) (omega (arith, l, length-correctness d j t.0)))

-- the obligation that is told of a part is that of the checks at its places
pub part-obligation : (d : Dossier) (part q : ℕ) {r : Obligation} → PartTold part r → part < parts d → q < part_size d part → obligation_is r ≡ obligation_of (check_at (subject_of d) (part_begin d part + q))
part-obligation d part q t h l =
    told-case (λ (o : order.Obligation). o ≡ obligation_of (check_at (subject_of d) (part_begin d part + q))) part t (λ e. sym (obligation-opening d part q l e))
    (λ j e. sym (obligation-applying d part q l j e (omega (arith, e, h)))) (λ j e. sym (obligation-correcting d part q l j e (omega (arith, e, h))))
