-- The check at a place of the search order, by the numbers of its groups' bindings, and where each operation begins. Assumes nothing.
use mathlib.Core.Path.{◌≡◌, refl, sym, ap, ap₂, ◌∙◌}
use mathlib.Core.Option.{some, none-ne-some, some-injective}
use mathlib.Core.List.{List, [], ◌∷◌}
use Prim.Native.Nat.{ℕ, zero, suc, ◌+◌, ◌*◌, ◌<◌}
use native.Mathlib.Nat.{zero-add, add-zero}
use native.Mathlib.Omega.{arith}
use lib.Arith.{digits_lt}
use lib.ListN.{length, get_or, get_elem?, length-append, length-map, get_or-append}
use lib.Seq.{get_or-append-add}
use Rattle.form.specs.Tree.{Operation, Dossier}
use Rattle.static_rules.specs.Scope.{inputs}
use Rattle.meaning.specs.Meaning.{Binding}
use Rattle.meaning.specs.Bindings.{bindings}
use Rattle.meaning.specs.Operations.{abstract_bindings, concrete_bindings, output_bindings}
use Rattle.meaning.proofs.Places.{at_map, at-flat, length-flat}
use Rattle.obligations.specs.Subjects.{Subject}
use Rattle.obligations.specs.Order.{Check, initialises, applies, corrects, applicability_checks, correctness_checks, operation_checks, opening, checks, total}
use Rattle.obligations.specs.Report.{check_at}
use Rattle.obligations.proofs.Groups.{applies_at, applies_from, corrects_giving, corrects_by, corrects_at, corrects_from, block_of}

-- the binding at a place
abbrev pub nth : List Binding → ℕ → Binding
nth bs p = get_or bs p []

module _ (d : Dossier) where
  -- how many bindings each group has
  abbrev pub abstracts : ℕ
  abstracts = length (abstract_bindings d)

  abbrev pub concretes : ℕ
  concretes = length (concrete_bindings d)

  abbrev pub givens : Operation → ℕ
  givens op = length (bindings (inputs d op))

  abbrev pub results : Operation → ℕ
  results op = length (output_bindings d op)

  -- how many checks each obligation of an operation has
  abbrev pub applicability_size : Operation → ℕ
  applicability_size op = abstracts * concretes * givens op

  abbrev pub correctness_size : Operation → ℕ
  correctness_size op = abstracts * concretes * givens op * results op * concretes

  module _ (k : ℕ) (op : Operation) where
    -- the checks that agree in their first groups are as many as there are bindings of the others
    pub length-applies-at : (a c : Binding) → length (applies_at d k op a c) ≡ givens op
    length-applies-at a c = length-map (bindings (inputs d op)) (applies k op a c)

    length-applies-from : (a : Binding) → length (applies_from d k op a) ≡ concretes * givens op
    length-applies-from a = length-flat (applies_at d k op a) (givens op) (length-applies-at a) (concrete_bindings d)

    pub length-applicability : length (applicability_checks d k op) ≡ applicability_size op
    unfolding applicability_checks
    length-applicability =
        let e : abstracts * (concretes * givens op) ≡ applicability_size op = omega arith in
        length-flat (applies_from d k op) (concretes * givens op) length-applies-from (abstract_bindings d) ∙ e

    length-corrects-giving : (a c i o : Binding) → length (corrects_giving d k op a c i o) ≡ concretes
    length-corrects-giving a c i o = length-map (concrete_bindings d) (corrects k op a c i o)

    pub length-corrects-by : (a c i : Binding) → length (corrects_by d k op a c i) ≡ results op * concretes
    length-corrects-by a c i = length-flat (corrects_giving d k op a c i) concretes (length-corrects-giving a c i) (output_bindings d op)

    pub length-corrects-at : (a c : Binding) → length (corrects_at d k op a c) ≡ givens op * (results op * concretes)
    length-corrects-at a c = length-flat (corrects_by d k op a c) (results op * concretes) (length-corrects-by a c) (bindings (inputs d op))

    length-corrects-from : (a : Binding) → length (corrects_from d k op a) ≡ concretes * (givens op * (results op * concretes))
    length-corrects-from a = length-flat (corrects_at d k op a) (givens op * (results op * concretes)) (length-corrects-at a) (concrete_bindings d)

    pub length-correctness : length (correctness_checks d k op) ≡ correctness_size op
    unfolding correctness_checks
    length-correctness =
        let e : abstracts * (concretes * (givens op * (results op * concretes))) ≡ correctness_size op = omega arith in
        length-flat (corrects_from d k op) (concretes * (givens op * (results op * concretes))) length-corrects-from (abstract_bindings d) ∙ e

    pub length-block : length (block_of d k op) ≡ applicability_size op + correctness_size op
    length-block = length-append (applicability_checks d k op) (correctness_checks d k op) ∙ ap₂ ◌+◌ length-applicability length-correctness

    module _ (z : Check) where
      -- of applicability, the checks of the a-th abstract and the c-th concrete binding
      pub applies-block : (a c q : ℕ) → a < abstracts → c < concretes → q < givens op
          → get_or (applicability_checks d k op) ((a * concretes + c) * givens op + q) z ≡ get_or (applies_at d k op (nth (abstract_bindings d) a) (nth (concrete_bindings d) c)) q z
      unfolding applicability_checks
      applies-block a c q la lc lq =
          let e : (a * concretes + c) * givens op + q ≡ a * (concretes * givens op) + (c * givens op + q) = omega arith in
          ap (λ (j : ℕ). get_or (applicability_checks d k op) j z) e
          ∙ at-flat (applies_from d k op) (concretes * givens op) length-applies-from (abstract_bindings d) a (c * givens op + q) [] z la (digits_lt lc lq)
          ∙ at-flat (applies_at d k op (nth (abstract_bindings d) a)) (givens op) (length-applies-at (nth (abstract_bindings d) a)) (concrete_bindings d) c q [] z lc lq

      -- "applicability over abstract, concrete, inputs; the last fastest"
      pub applicability-digits : (a c i : ℕ) → a < abstracts → c < concretes → i < givens op
          → get_or (applicability_checks d k op) ((a * concretes + c) * givens op + i) z
          ≡ applies k op (nth (abstract_bindings d) a) (nth (concrete_bindings d) c) (nth (bindings (inputs d op)) i)
      applicability-digits a c i la lc li =
          applies-block a c i la lc li ∙ at_map (applies k op (nth (abstract_bindings d) a) (nth (concrete_bindings d) c)) (bindings (inputs d op)) i [] z li

      -- of correctness, the checks of the a-th abstract and the c-th concrete binding; those of the i-th inputs among them
      pub corrects-block : (a c q : ℕ) → a < abstracts → c < concretes → q < givens op * (results op * concretes)
          → get_or (correctness_checks d k op) ((a * concretes + c) * (givens op * (results op * concretes)) + q) z
          ≡ get_or (corrects_at d k op (nth (abstract_bindings d) a) (nth (concrete_bindings d) c)) q z
      unfolding correctness_checks
      corrects-block a c q la lc lq =
          let m : ℕ = givens op * (results op * concretes) in
          let e : (a * concretes + c) * (givens op * (results op * concretes)) + q ≡ a * (concretes * (givens op * (results op * concretes))) + (c * (givens op * (results op * concretes)) + q) = omega arith in
          ap (λ (j : ℕ). get_or (correctness_checks d k op) j z) e
          ∙ at-flat (corrects_from d k op) (concretes * m) length-corrects-from (abstract_bindings d) a (c * m + q) [] z la (digits_lt lc lq)
          ∙ at-flat (corrects_at d k op (nth (abstract_bindings d) a)) m (length-corrects-at (nth (abstract_bindings d) a)) (concrete_bindings d) c q [] z lc lq

      pub corrects-by-block : (a c i q : ℕ) → a < abstracts → c < concretes → i < givens op → q < results op * concretes
          → get_or (correctness_checks d k op) (((a * concretes + c) * givens op + i) * (results op * concretes) + q) z
          ≡ get_or (corrects_by d k op (nth (abstract_bindings d) a) (nth (concrete_bindings d) c) (nth (bindings (inputs d op)) i)) q z
      corrects-by-block a c i q la lc li lq =
          let e : ((a * concretes + c) * givens op + i) * (results op * concretes) + q ≡ (a * concretes + c) * (givens op * (results op * concretes)) + (i * (results op * concretes) + q) = omega arith in
          ap (λ (j : ℕ). get_or (correctness_checks d k op) j z) e
          ∙ corrects-block a c (i * (results op * concretes) + q) la lc (digits_lt li lq)
          ∙ at-flat (corrects_by d k op (nth (abstract_bindings d) a) (nth (concrete_bindings d) c)) (results op * concretes)
          (length-corrects-by (nth (abstract_bindings d) a) (nth (concrete_bindings d) c)) (bindings (inputs d op)) i q [] z li lq

      -- "correctness over abstract, concrete, inputs, outputs, concrete primed; the last fastest"
      pub correctness-digits : (a c i o c' : ℕ) → a < abstracts → c < concretes → i < givens op → o < results op → c' < concretes
          → get_or (correctness_checks d k op) ((((a * concretes + c) * givens op + i) * results op + o) * concretes + c') z
          ≡ corrects k op (nth (abstract_bindings d) a) (nth (concrete_bindings d) c) (nth (bindings (inputs d op)) i) (nth (output_bindings d op) o) (nth (concrete_bindings d) c')
      correctness-digits a c i o c' la lc li lo lc' =
          let e : (((a * concretes + c) * givens op + i) * results op + o) * concretes + c' ≡ ((a * concretes + c) * givens op + i) * (results op * concretes) + (o * concretes + c') = omega arith in
          let a' : Binding = nth (abstract_bindings d) a in
          let c'' : Binding = nth (concrete_bindings d) c in
          let i' : Binding = nth (bindings (inputs d op)) i in
          ap (λ (j : ℕ). get_or (correctness_checks d k op) j z) e
          ∙ corrects-by-block a c i (o * concretes + c') la lc li (digits_lt lo lc')
          ∙ at-flat (corrects_giving d k op a' c'' i') concretes (length-corrects-giving a' c'' i') (output_bindings d op) o c' [] z lo lc'
          ∙ at_map (corrects k op a' c'' i' (nth (output_bindings d op) o)) (concrete_bindings d) c' [] z lc'

  -- how many checks the first j operations have
  unfoldable pub size_of_first : ℕ → List Operation → ℕ
  size_of_first zero ops = 0
  size_of_first (suc j) [] = 0
  size_of_first (suc j) (op ∷ ops) = applicability_size op + correctness_size op + size_of_first j ops

  operation-at : (k j : ℕ) (op : Operation) (ops : List Operation) → get_elem? ops j ≡ some op → (q : ℕ) (z : Check) → q < applicability_size op + correctness_size op
      → get_or (operation_checks d k ops) (size_of_first j ops + q) z ≡ get_or (block_of d (k + j) op) q z
  unfolding operation_checks size_of_first
  operation-at k j op [] e q z h = absurd (none-ne-some op e)
  operation-at k zero op (x ∷ ops) e q z h =
      let l : q < length (block_of d k op) = omega (arith, length-block k op) in
      ap (λ (y : Operation). get_or (operation_checks d k (y ∷ ops)) (0 + q) z) (some-injective x op e)
      ∙ ap (λ (i : ℕ). get_or (operation_checks d k (op ∷ ops)) i z) (zero-add q)
      ∙ get_or-append (block_of d k op) (operation_checks d (suc k) ops) z q l
      ∙ ap (λ (i : ℕ). get_or (block_of d i op) q z) (sym (add-zero k))
  operation-at k (suc j) op (x ∷ ops) e q z h =
      let s : applicability_size x + correctness_size x + size_of_first j ops + q ≡ length (block_of d k x) + (size_of_first j ops + q) = omega (arith, length-block k x) in
      let t : suc k + j ≡ k + suc j = omega arith in
      ap (λ (i : ℕ). get_or (operation_checks d k (x ∷ ops)) i z) s
      ∙ get_or-append-add (block_of d k x) (operation_checks d (suc k) ops) (size_of_first j ops + q) z
      ∙ operation-at (suc k) j op ops e q z h
      ∙ ap (λ (i : ℕ). get_or (block_of d i op) q z) t

  size-next : (j : ℕ) (op : Operation) (ops : List Operation) → get_elem? ops j ≡ some op → size_of_first (suc j) ops ≡ size_of_first j ops + (applicability_size op + correctness_size op)
  unfolding size_of_first
  size-next j op [] e = absurd (none-ne-some op e)
  size-next zero op (x ∷ ops) e =
      let s : (y : Operation) → applicability_size y + correctness_size y + 0 ≡ 0 + (applicability_size y + correctness_size y) = λ y. omega arith in
      s x ∙ ap (λ (y : Operation). 0 + (applicability_size y + correctness_size y)) (some-injective x op e)
  size-next (suc j) op (x ∷ ops) e = let s : size_of_first (suc j) ops ≡ size_of_first j ops + (applicability_size op + correctness_size op) = size-next j op ops e in omega arith

  length-operations : (k : ℕ) (ops : List Operation) → length (operation_checks d k ops) ≡ size_of_first (length ops) ops
  unfolding operation_checks size_of_first
  length-operations k [] = refl
  length-operations k (op ∷ ops) = length-append (block_of d k op) (operation_checks d (suc k) ops) ∙ ap₂ ◌+◌ (length-block k op) (length-operations (suc k) ops)

module _ (σ : Subject) where
  -- the place at which the checks of the operation j begin
  abbrev pub start_of : ℕ → ℕ
  start_of j = length (opening σ) + size_of_first σ.dossier j σ.dossier.operations

  pub length-opening : length (opening σ) ≡ concretes σ.dossier
  unfolding opening
  length-opening = length-map (concrete_bindings σ.dossier) initialises

  -- "Initialisation is first, then for each operation applicability and correctness."
  pub initialisation-place : (c : ℕ) → c < concretes σ.dossier → check_at σ c ≡ initialises (nth (concrete_bindings σ.dossier) c)
  unfolding check_at checks opening
  initialisation-place c h =
      let l : c < length (opening σ) = omega (arith, length-opening) in
      get_or-append (opening σ) (operation_checks σ.dossier 0 σ.dossier.operations) (initialises []) c l
      ∙ at_map initialises (concrete_bindings σ.dossier) c [] (initialises []) h

  pub block-place : (j : ℕ) (op : Operation) → get_elem? σ.dossier.operations j ≡ some op → (q : ℕ) → q < applicability_size σ.dossier op + correctness_size σ.dossier op
      → check_at σ (start_of j + q) ≡ get_or (block_of σ.dossier j op) q (initialises [])
  unfolding check_at checks
  block-place j op e q h =
      let s : start_of j + q ≡ length (opening σ) + (size_of_first σ.dossier j σ.dossier.operations + q) = omega arith in
      ap (check_at σ) s
      ∙ get_or-append-add (opening σ) (operation_checks σ.dossier 0 σ.dossier.operations) (size_of_first σ.dossier j σ.dossier.operations + q) (initialises [])
      ∙ operation-at σ.dossier 0 j op σ.dossier.operations e q (initialises []) h
      ∙ ap (λ (i : ℕ). get_or (block_of σ.dossier i op) q (initialises [])) (zero-add j)

  pub applicability-place : (j : ℕ) (op : Operation) → get_elem? σ.dossier.operations j ≡ some op → (q : ℕ) → q < applicability_size σ.dossier op
      → check_at σ (start_of j + q) ≡ get_or (applicability_checks σ.dossier j op) q (initialises [])
  applicability-place j op e q h =
      let l : q < length (applicability_checks σ.dossier j op) = omega (arith, length-applicability σ.dossier j op) in
      block-place j op e q (omega arith) ∙ get_or-append (applicability_checks σ.dossier j op) (correctness_checks σ.dossier j op) (initialises []) q l

  pub correctness-place : (j : ℕ) (op : Operation) → get_elem? σ.dossier.operations j ≡ some op → (q : ℕ) → q < correctness_size σ.dossier op
      → check_at σ (start_of j + applicability_size σ.dossier op + q) ≡ get_or (correctness_checks σ.dossier j op) q (initialises [])
  correctness-place j op e q h =
      let s : start_of j + applicability_size σ.dossier op + q ≡ start_of j + (applicability_size σ.dossier op + q) = omega arith in
      let t : applicability_size σ.dossier op + q ≡ length (applicability_checks σ.dossier j op) + q = omega (arith, length-applicability σ.dossier j op) in
      ap (check_at σ) s ∙ block-place j op e (applicability_size σ.dossier op + q) (omega arith)
      ∙ ap (λ (i : ℕ). get_or (block_of σ.dossier j op) i (initialises [])) t
      ∙ get_or-append-add (applicability_checks σ.dossier j op) (correctness_checks σ.dossier j op) q (initialises [])

  -- each operation begins where the one before it ends, and the last ends where the check does
  pub start-next : (j : ℕ) (op : Operation) → get_elem? σ.dossier.operations j ≡ some op → start_of (suc j) ≡ start_of j + (applicability_size σ.dossier op + correctness_size σ.dossier op)
  start-next j op e = let s : size_of_first σ.dossier (suc j) σ.dossier.operations ≡ size_of_first σ.dossier j σ.dossier.operations + (applicability_size σ.dossier op + correctness_size σ.dossier op) = size-next σ.dossier j op σ.dossier.operations e in omega arith

  pub start_first : start_of 0 ≡ length (opening σ)
  unfolding size_of_first
  start_first = omega arith

  pub total-ends : total σ ≡ start_of (length σ.dossier.operations)
  unfolding total checks
  total-ends =
      length-append (opening σ) (operation_checks σ.dossier 0 σ.dossier.operations)
      ∙ ap (λ (n : ℕ). length (opening σ) + n) (length-operations σ.dossier 0 σ.dossier.operations)
