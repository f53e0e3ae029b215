-- Blocks of places that pass because a premise of their first groups fails. Assumes nothing.
use mathlib.Core.Path.{◌≡◌, ap, ◌∙◌}
use mathlib.Core.Bool.{true, false, ◌&&◌}
use mathlib.Core.Option.{some}
use mathlib.Core.List.{List, []}
use Prim.Native.Nat.{ℕ, suc, ◌+◌, ◌-◌, ◌*◌, ◌<◌}
use native.Mathlib.Omega.{arith}
use lib.Arith.{digits_lt}
use lib.ListN.{length, get_or, get_elem?}
use Rattle.form.specs.Tree.{Operation}
use Rattle.static_rules.specs.Scope.{inputs}
use Rattle.meaning.specs.Meaning.{Binding}
use Rattle.meaning.specs.Bindings.{bindings, Among}
use Rattle.meaning.specs.Operations.{abstract_bindings, concrete_bindings, related, abstract_pre}
use Rattle.meaning.proofs.Places.{member-at}
use Rattle.obligations.specs.Subjects.{Subject}
use Rattle.obligations.specs.Machines.{pre, abstract_side}
use Rattle.obligations.specs.Obligations.{applicability_at, correctness_at}
use Rattle.obligations.specs.Order.{Check, initialises, applies, corrects, passes}
use Rattle.obligations.specs.Report.{check_at}
use Rattle.std.proofs.lemmas.Bool.{and_left as and-left-false, and_right as and-right-false}
use Rattle.obligations.proofs.OperationTests.{abstract-pre-at}
use Rattle.obligations.proofs.GivesLaws.{gives-vacuous}
use Rattle.obligations.proofs.Groups.{applies_at, corrects_by, corrects_at, every-applies-at, every-corrects-by, every-corrects-at}
use Rattle.obligations.proofs.Accuracy.{PassBetween}
use Rattle.obligations.proofs.Digits.{nth, abstracts, concretes, givens, results, applicability_size, start_of, length-applies-at, length-corrects-by, length-corrects-at, applies-block, corrects-block, corrects-by-block, applicability-digits, applicability-place, correctness-place}

module _ (σ : Subject) where
  -- "abstract precondition and retrieve give ...": where either fails, the check passes
  pub unrelated-applies : (k : ℕ) (op : Operation) (a c i : Binding) → related σ.dossier a c ≡ false → passes σ (applies k op a c i) ≡ true
  unfolding passes applicability_at
  unrelated-applies k op a c i e = gives-vacuous _ _ (and-right-false (pre (abstract_side σ.dossier) k a i) (related σ.dossier a c) e)

  pub unrelated-corrects : (k : ℕ) (op : Operation) (a c i o c' : Binding) → related σ.dossier a c ≡ false → passes σ (corrects k op a c i o c') ≡ true
  unfolding passes correctness_at
  unrelated-corrects k op a c i o c' e =
      gives-vacuous _ _ (and-left-false (pre (abstract_side σ.dossier) k a i && related σ.dossier a c) _ (and-right-false (pre (abstract_side σ.dossier) k a i) (related σ.dossier a c) e))

  pub inapplicable-applies : (k : ℕ) (op : Operation) → get_elem? σ.dossier.operations k ≡ some op → (a c i : Binding) → abstract_pre σ.dossier op a i ≡ false → passes σ (applies k op a c i) ≡ true
  unfolding passes applicability_at
  inapplicable-applies k op listed a c i e = gives-vacuous _ _ (and-left-false (pre (abstract_side σ.dossier) k a i) (related σ.dossier a c) (abstract-pre-at σ.dossier k op listed a i ∙ e))

  pub inapplicable-corrects : (k : ℕ) (op : Operation) → get_elem? σ.dossier.operations k ≡ some op → (a c i o c' : Binding) → abstract_pre σ.dossier op a i ≡ false
      → passes σ (corrects k op a c i o c') ≡ true
  unfolding passes correctness_at
  inapplicable-corrects k op listed a c i o c' e =
      gives-vacuous _ _
      (and-left-false (pre (abstract_side σ.dossier) k a i && related σ.dossier a c) _ (and-left-false (pre (abstract_side σ.dossier) k a i) (related σ.dossier a c) (abstract-pre-at σ.dossier k op listed a i ∙ e)))

  abbrev Passing : Check → Type 0
  Passing x = passes σ x ≡ true

  -- a member of a list all of whose checks pass stands at the place j
  passes_at : (xs : List Check) → ((x : Check) → Among x xs → Passing x) → (j q : ℕ) → q < length xs → check_at σ j ≡ get_or xs q (initialises []) → passes σ (check_at σ j) ≡ true
  passes_at xs h j q l e = ap (passes σ) e ∙ h (get_or xs q (initialises [])) (member-at xs q (initialises []) l)

  module _ (k : ℕ) (op : Operation) (listed : get_elem? σ.dossier.operations k ≡ some op) (a c : ℕ) (la : a < abstracts σ.dossier) (lc : c < concretes σ.dossier) where
    abbrev abstract_one : Binding
    abstract_one = nth (abstract_bindings σ.dossier) a

    abbrev concrete_one : Binding
    concrete_one = nth (concrete_bindings σ.dossier) c

    -- not related: the whole block of the a-th abstract and the c-th concrete binding
    pub unrelated-applicability : related σ.dossier (nth (abstract_bindings σ.dossier) a) (nth (concrete_bindings σ.dossier) c) ≡ false
        → PassBetween σ (start_of σ k + (a * concretes σ.dossier + c) * givens σ.dossier op) (start_of σ k + suc (a * concretes σ.dossier + c) * givens σ.dossier op)
    unrelated-applicability e j low high =
        let q : ℕ = j - (start_of σ k + (a * concretes σ.dossier + c) * givens σ.dossier op) in
        let lq : q < givens σ.dossier op = omega arith in
        let s : j ≡ start_of σ k + ((a * concretes σ.dossier + c) * givens σ.dossier op + q) = omega arith in
        passes_at (applies_at σ.dossier k op abstract_one concrete_one)
        (every-applies-at σ.dossier Passing k op abstract_one concrete_one (λ i. unrelated-applies k op abstract_one concrete_one i e))
        j q (omega (arith, length-applies-at σ.dossier k op abstract_one concrete_one))
        (ap (check_at σ) s ∙ applicability-place σ k op listed ((a * concretes σ.dossier + c) * givens σ.dossier op + q) (digits_lt (digits_lt la lc) lq)
        ∙ applies-block σ.dossier k op (initialises []) a c q la lc lq)

    pub unrelated-correctness : related σ.dossier (nth (abstract_bindings σ.dossier) a) (nth (concrete_bindings σ.dossier) c) ≡ false
        → PassBetween σ (start_of σ k + applicability_size σ.dossier op + (a * concretes σ.dossier + c) * givens σ.dossier op * results σ.dossier op * concretes σ.dossier)
        (start_of σ k + applicability_size σ.dossier op + suc (a * concretes σ.dossier + c) * givens σ.dossier op * results σ.dossier op * concretes σ.dossier)
    unrelated-correctness e j low high =
        let q : ℕ = j - (start_of σ k + applicability_size σ.dossier op + (a * concretes σ.dossier + c) * (givens σ.dossier op * (results σ.dossier op * concretes σ.dossier))) in
        let lq : q < givens σ.dossier op * (results σ.dossier op * concretes σ.dossier) = omega arith in
        let s : j ≡ start_of σ k + applicability_size σ.dossier op + ((a * concretes σ.dossier + c) * (givens σ.dossier op * (results σ.dossier op * concretes σ.dossier)) + q) = omega arith in
        let b : (a * concretes σ.dossier + c) * (givens σ.dossier op * (results σ.dossier op * concretes σ.dossier)) + q < abstracts σ.dossier * concretes σ.dossier * (givens σ.dossier op * (results σ.dossier op * concretes σ.dossier))
        = digits_lt (digits_lt la lc) lq in
        passes_at (corrects_at σ.dossier k op abstract_one concrete_one)
        (every-corrects-at σ.dossier Passing k op abstract_one concrete_one (λ i o c'. unrelated-corrects k op abstract_one concrete_one i o c' e))
        j q (omega (arith, length-corrects-at σ.dossier k op abstract_one concrete_one))
        (ap (check_at σ) s ∙ correctness-place σ k op listed ((a * concretes σ.dossier + c) * (givens σ.dossier op * (results σ.dossier op * concretes σ.dossier)) + q) (omega arith)
        ∙ corrects-block σ.dossier k op (initialises []) a c q la lc lq)

    module _ (i : ℕ) (li : i < givens σ.dossier op) where
      abbrev input_one : Binding
      input_one = nth (bindings (inputs σ.dossier op)) i

      -- no abstract precondition: the block of these and of the i-th inputs
      pub inapplicable-applicability : abstract_pre σ.dossier op (nth (abstract_bindings σ.dossier) a) (nth (bindings (inputs σ.dossier op)) i) ≡ false
          → passes σ (check_at σ (start_of σ k + ((a * concretes σ.dossier + c) * givens σ.dossier op + i))) ≡ true
      inapplicable-applicability e =
          ap (passes σ)
          (applicability-place σ k op listed ((a * concretes σ.dossier + c) * givens σ.dossier op + i) (digits_lt (digits_lt la lc) li)
          ∙ applicability-digits σ.dossier k op (initialises []) a c i la lc li)
          ∙ inapplicable-applies k op listed abstract_one concrete_one input_one e

      pub inapplicable-correctness : abstract_pre σ.dossier op (nth (abstract_bindings σ.dossier) a) (nth (bindings (inputs σ.dossier op)) i) ≡ false
          → PassBetween σ (start_of σ k + applicability_size σ.dossier op + ((a * concretes σ.dossier + c) * givens σ.dossier op + i) * results σ.dossier op * concretes σ.dossier)
          (start_of σ k + applicability_size σ.dossier op + suc ((a * concretes σ.dossier + c) * givens σ.dossier op + i) * results σ.dossier op * concretes σ.dossier)
      inapplicable-correctness e j low high =
          let q : ℕ = j - (start_of σ k + applicability_size σ.dossier op + ((a * concretes σ.dossier + c) * givens σ.dossier op + i) * (results σ.dossier op * concretes σ.dossier)) in
          let lq : q < results σ.dossier op * concretes σ.dossier = omega arith in
          let s : j ≡ start_of σ k + applicability_size σ.dossier op + (((a * concretes σ.dossier + c) * givens σ.dossier op + i) * (results σ.dossier op * concretes σ.dossier) + q) = omega arith in
          let b : ((a * concretes σ.dossier + c) * givens σ.dossier op + i) * (results σ.dossier op * concretes σ.dossier) + q < abstracts σ.dossier * concretes σ.dossier * givens σ.dossier op * (results σ.dossier op * concretes σ.dossier)
          = digits_lt (digits_lt (digits_lt la lc) li) lq in
          passes_at (corrects_by σ.dossier k op abstract_one concrete_one input_one)
          (every-corrects-by σ.dossier Passing k op abstract_one concrete_one input_one (λ o c'. inapplicable-corrects k op listed abstract_one concrete_one input_one o c' e))
          j q (omega (arith, length-corrects-by σ.dossier k op abstract_one concrete_one input_one))
          (ap (check_at σ) s
          ∙ correctness-place σ k op listed (((a * concretes σ.dossier + c) * givens σ.dossier op + i) * (results σ.dossier op * concretes σ.dossier) + q) (omega arith)
          ∙ corrects-by-block σ.dossier k op (initialises []) a c i q la lc li lq)
