-- The tests of a part at a place, and the check that stands there in the search order. Assumes nothing.
use mathlib.Core.Path.{◌≡◌, sym, ap, ◌∙◌}
use mathlib.Core.Bool.{Bool}
use mathlib.Core.List.{[]}
use mathlib.Core.Option.{some}
use Prim.Native.Nat.{ℕ, zero, suc, ◌+◌, ◌*◌, ◌/◌, ◌%◌, ◌<◌}
use native.Mathlib.Nat.{div-one, div-add-mod', mod-lt, mod-eq_of_lt, div-lt_iff_lt-mul, zero-lt-suc}
use native.Mathlib.Omega.{arith}
use lib.ListN.{get_or, get_elem?}
use Rattle.form.specs.Tree.{Operation, Dossier}
use Rattle.obligations.specs.Subjects.{subject_of}
use Rattle.obligations.specs.Order.{initialises, applicability_checks, correctness_checks, passes}
use Rattle.obligations.specs.Report.{check_at}
use Rattle.obligations.proofs.Digits.{abstracts, concretes, givens, results, applicability_size, correctness_size, start_of}
use Rattle.obligations.proofs.Digits.{applicability-digits, correctness-digits, initialisation-place, applicability-place, correctness-place}
use Rattle.nest_steps.specs.PartTests.{passes_at, passes_from}
use Rattle.part_tests.specs.PartsByNumber.{initialisation_tests, applicability_tests, correctness_tests}
use Rattle.part_tests.proofs.PartObligations.{passes-initialises, passes-applies, passes-corrects}

-- a place below m * n has a digit below n, and what is before it is below m
record Digit (q m n : ℕ) : Type 0 where
  rest : q / n < m
  last : q % n < n
  again : q / n * n + q % n ≡ q

digit : (q m n : ℕ) → q < m * n → Digit q m n
digit q m zero h = absurd (omega arith)
digit q m (suc n) h = record { rest = (div-lt_iff_lt-mul (zero-lt-suc n)).1 h; last = mod-lt q (zero-lt-suc n); again = div-add-mod' q (suc n) }

module _ (d : Dossier) where
  pub initialisation-part : (q : ℕ) → q < concretes d → passes_from (initialisation_tests d) (concretes d) 1 1 1 q ≡ passes (subject_of d) (check_at (subject_of d) q)
  unfolding passes_from
  initialisation-part q h =
      let e : q / 1 / 1 / 1 ≡ q = div-one (q / 1 / 1) ∙ div-one (q / 1) ∙ div-one q in
      let f : q / 1 / 1 / 1 % concretes d ≡ q = ap (λ (m : ℕ). m % concretes d) e ∙ mod-eq_of_lt h in
      ap (λ (c : ℕ). passes_at (initialisation_tests d) (q / 1 / 1 / 1 / concretes d) c (q / 1 / 1 % 1) (q / 1 % 1) (q % 1)) f
      ∙ passes-initialises d (q / 1 / 1 / 1 / concretes d) q (q / 1 / 1 % 1) (q / 1 % 1) (q % 1)
      ∙ ap (passes (subject_of d)) (sym (initialisation-place (subject_of d) q h))

  module _ (j : ℕ) (op : Operation) (listed : get_elem? d.operations j ≡ some op) where
    pub applicability-part : (q : ℕ) → q < applicability_size d op
        → passes_from (applicability_tests d op) (concretes d) (givens d op) 1 1 q ≡ passes (subject_of d) (check_at (subject_of d) (start_of (subject_of d) j + q))
    unfolding passes_from
    applicability-part q h =
        let i : Digit q (abstracts d * concretes d) (givens d op) = digit q (abstracts d * concretes d) (givens d op) h in
        let c : Digit (q / givens d op) (abstracts d) (concretes d) = digit (q / givens d op) (abstracts d) (concretes d) i.rest in
        let e : q / 1 / 1 ≡ q = div-one (q / 1) ∙ div-one q in
        let s : (q / givens d op / concretes d * concretes d + q / givens d op % concretes d) * givens d op + q % givens d op ≡ q
        = ap (λ (m : ℕ). m * givens d op + q % givens d op) c.again ∙ i.again in
        ap (λ (m : ℕ). passes_at (applicability_tests d op) (m / givens d op / concretes d) (m / givens d op % concretes d) (m % givens d op) (q / 1 % 1) (q % 1)) e
        ∙ passes-applies d op j listed (q / givens d op / concretes d) (q / givens d op % concretes d) (q % givens d op) (q / 1 % 1) (q % 1)
        ∙ ap (passes (subject_of d)) (sym (applicability-place (subject_of d) j op listed q h
        ∙ ap (λ (m : ℕ). get_or (applicability_checks d j op) m (initialises [])) (sym s)
        ∙ applicability-digits d j op (initialises []) (q / givens d op / concretes d) (q / givens d op % concretes d) (q % givens d op) c.rest c.last i.last))

    pub correctness-part : (front : (c i o : ℕ) → Bool) (q : ℕ) → q < correctness_size d op
        → passes_from (correctness_tests d op front) (concretes d) (givens d op) (results d op) (concretes d) q
        ≡ passes (subject_of d) (check_at (subject_of d) (start_of (subject_of d) j + applicability_size d op + q))
    unfolding passes_from
    correctness-part front q h =
        let k : Digit q (abstracts d * concretes d * givens d op * results d op) (concretes d) = digit q (abstracts d * concretes d * givens d op * results d op) (concretes d) h in
        let p : ℕ = q / concretes d in
        let o : Digit p (abstracts d * concretes d * givens d op) (results d op) = digit p (abstracts d * concretes d * givens d op) (results d op) k.rest in
        let r : ℕ = p / results d op in
        let i : Digit r (abstracts d * concretes d) (givens d op) = digit r (abstracts d * concretes d) (givens d op) o.rest in
        let t : ℕ = r / givens d op in
        let c : Digit t (abstracts d) (concretes d) = digit t (abstracts d) (concretes d) i.rest in
        let s : (((t / concretes d * concretes d + t % concretes d) * givens d op + r % givens d op) * results d op + p % results d op) * concretes d + q % concretes d ≡ q
        = ap (λ (m : ℕ). ((m * givens d op + r % givens d op) * results d op + p % results d op) * concretes d + q % concretes d) c.again
        ∙ ap (λ (m : ℕ). (m * results d op + p % results d op) * concretes d + q % concretes d) i.again
        ∙ ap (λ (m : ℕ). m * concretes d + q % concretes d) o.again
        ∙ k.again in
        passes-corrects d op j listed front (t / concretes d) (t % concretes d) (r % givens d op) (p % results d op) (q % concretes d)
        ∙ ap (passes (subject_of d)) (sym (correctness-place (subject_of d) j op listed q h
        ∙ ap (λ (m : ℕ). get_or (correctness_checks d j op) m (initialises [])) (sym s)
        ∙ correctness-digits d j op (initialises []) (t / concretes d) (t % concretes d) (r % givens d op) (p % results d op) (q % concretes d)
        c.rest c.last i.last o.last k.last))
