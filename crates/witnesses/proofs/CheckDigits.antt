-- The check at a place of a part, by the digits of the place that the code takes. Assumes nothing.
use mathlib.Core.Path.{◌≡◌, sym, ap, ap₂, subst, ◌∙◌}
use mathlib.Core.List.{List, []}
use mathlib.Core.Option.{some}
use Prim.Native.Nat.{ℕ, ◌+◌, ◌*◌, ◌/◌, ◌%◌, ◌<◌}
use native.Mathlib.Nat.{div-add-mod', mod-lt, div-lt_iff_lt-mul}
use native.Mathlib.Omega.{arith}
use lib.ListN.{length, get_or, get_elem?}
use Rattle.form.specs.Tree.{Operation, Dossier}
use Rattle.static_rules.specs.Carriers.{Variable}
use Rattle.static_rules.specs.Scope.{unprimed, inputs, outputs}
use Rattle.static_rules.specs.Limits.{binding_count}
use Rattle.meaning.specs.Bindings.{bindings}
use Rattle.meaning.specs.Operations.{abstract_bindings, concrete_bindings, output_bindings}
use Rattle.meaning.proofs.Places.{entry-below}
use Rattle.carriers.proofs.Bindings.{bindings-some}
use Rattle.obligations.specs.Subjects.{subject_of}
use Rattle.obligations.specs.Order.{Check, initialises, applies, corrects, applicability_checks, correctness_checks}
use Rattle.obligations.specs.Report.{check_at}
use Rattle.obligations.proofs.Digits.{nth, concretes, givens, results}
use Rattle.obligations.proofs.Digits.{applicability-digits, correctness-digits, initialisation-place, applicability-place, correctness-place}
use Rattle.part_places.specs.PartTestsPartOrder.{part_begin}
use Rattle.part_places.proofs.PartsReadingSizes.{abstracts-count, concretes-count, givens-count, results-count, applicability-counts, correctness-counts}
use Rattle.part_places.proofs.PartsPartOrderLaws.{first-begin, applicability-begin, correctness-begin}

-- a group's digit, and what is before it
pub digit-in : (vs : List Variable) (q : ℕ) → q % binding_count vs < binding_count vs
digit-in vs q = mod-lt q (bindings-some vs)

pub front-in : (vs : List Variable) (q m : ℕ) → q < m * binding_count vs → q / binding_count vs < m
front-in vs q m h = (div-lt_iff_lt-mul (bindings-some vs)).1 h

module _ (d : Dossier) where
  -- the variables of both states
  abbrev pub us : List Variable
  us = unprimed d d.abstract

  abbrev pub cs : List Variable
  cs = unprimed d d.concrete

  -- how many bindings they have
  abbrev pub na : ℕ
  na = binding_count us

  abbrev pub nc : ℕ
  nc = binding_count cs

  pub opening-check : (q : ℕ) → q < nc → check_at (subject_of d) (part_begin d 0 + q) ≡ initialises (nth (bindings cs) q)
  unfolding concrete_bindings
  opening-check q h =
      let e : part_begin d 0 + q ≡ q = omega (arith, first-begin d) in
      ap (check_at (subject_of d)) e ∙ initialisation-place (subject_of d) q (subst (λ (n : ℕ). q < n) (sym (concretes-count d)) h)

  module _ (op : Operation) where
    abbrev pub ni : ℕ
    ni = binding_count (inputs d op)

    abbrev pub nq : ℕ
    nq = binding_count (outputs d op)

    module _ (j : ℕ) (listed : get_elem? d.operations j ≡ some op) where
      abbrev z : Check
      z = initialises []

      below : j < length d.operations
      below = entry-below op d.operations j listed

      pub applicability-check : (q : ℕ) → q < na * nc * ni
          → check_at (subject_of d) (part_begin d (1 + 2 * j) + q)
          ≡ applies j op (nth (bindings us) (q / ni / nc)) (nth (bindings cs) (q / ni % nc)) (nth (bindings (inputs d op)) (q % ni))
      unfolding abstract_bindings concrete_bindings
      applicability-check q h =
          let r : ℕ = q / ni in
          let lr : r < na * nc = front-in (inputs d op) q (na * nc) h in
          let a : ℕ = r / nc in
          let c : ℕ = r % nc in
          let i : ℕ = q % ni in
          let s : q ≡ (a * concretes d + c) * givens d op + i
          = sym (div-add-mod' q (ni))
          ∙ ap (λ (x : ℕ). x * ni + i) (sym (div-add-mod' r (nc)))
          ∙ ap₂ (λ (x y : ℕ). (a * x + c) * y + i) (sym (concretes-count d)) (sym (givens-count d op)) in
          ap (λ (x : ℕ). check_at (subject_of d) (x + q)) (applicability-begin d j (omega (arith, below)))
          ∙ applicability-place (subject_of d) j op listed q (subst (λ (n : ℕ). q < n) (sym (applicability-counts d op)) h)
          ∙ ap (λ (x : ℕ). get_or (applicability_checks d j op) x z) s
          ∙ applicability-digits d j op z a c i
          (subst (λ (n : ℕ). a < n) (sym (abstracts-count d)) (front-in cs r (na) lr))
          (subst (λ (n : ℕ). c < n) (sym (concretes-count d)) (digit-in cs r))
          (subst (λ (n : ℕ). i < n) (sym (givens-count d op)) (digit-in (inputs d op) q))

      pub correctness-check : (q : ℕ) → q < na * nc * ni * nq * nc
          → check_at (subject_of d) (part_begin d (2 + 2 * j) + q)
          ≡ corrects j op (nth (bindings us) (q / nc / nq / ni / nc)) (nth (bindings cs) (q / nc / nq / ni % nc))
          (nth (bindings (inputs d op)) (q / nc / nq % ni)) (nth (bindings (outputs d op)) (q / nc % nq)) (nth (bindings cs) (q % nc))
      unfolding abstract_bindings concrete_bindings output_bindings
      correctness-check q h =
          let p : ℕ = q / nc in
          let lp : p < na * nc * ni * nq = front-in cs q (na * nc * ni * nq) h in
          let r : ℕ = p / nq in
          let lr : r < na * nc * ni = front-in (outputs d op) p (na * nc * ni) lp in
          let t : ℕ = r / ni in
          let lt : t < na * nc = front-in (inputs d op) r (na * nc) lr in
          let a : ℕ = t / nc in
          let c : ℕ = t % nc in
          let i : ℕ = r % ni in
          let o : ℕ = p % nq in
          let k : ℕ = q % nc in
          let s : q ≡ (((a * concretes d + c) * givens d op + i) * results d op + o) * concretes d + k
          = sym (div-add-mod' q (nc))
          ∙ ap (λ (x : ℕ). x * nc + k) (sym (div-add-mod' p (nq)))
          ∙ ap (λ (x : ℕ). (x * nq + o) * nc + k) (sym (div-add-mod' r (ni)))
          ∙ ap (λ (x : ℕ). ((x * ni + i) * nq + o) * nc + k) (sym (div-add-mod' t (nc)))
          ∙ (λ m. (((a * sym (concretes-count d) m + c) * sym (givens-count d op) m + i) * sym (results-count d op) m + o) * sym (concretes-count d) m + k) in
          ap (λ (x : ℕ). check_at (subject_of d) (x + q)) (correctness-begin d j op listed)
          ∙ correctness-place (subject_of d) j op listed q (subst (λ (n : ℕ). q < n) (sym (correctness-counts d op)) h)
          ∙ ap (λ (x : ℕ). get_or (correctness_checks d j op) x z) s
          ∙ correctness-digits d j op z a c i o k
          (subst (λ (n : ℕ). a < n) (sym (abstracts-count d)) (front-in cs t (na) lt))
          (subst (λ (n : ℕ). c < n) (sym (concretes-count d)) (digit-in cs t))
          (subst (λ (n : ℕ). i < n) (sym (givens-count d op)) (digit-in (inputs d op) r))
          (subst (λ (n : ℕ). o < n) (sym (results-count d op)) (digit-in (outputs d op) p))
          (subst (λ (n : ℕ). k < n) (sym (concretes-count d)) (digit-in cs q))
