-- The checks of an operation that agree in their first groups. Assumes nothing.
use mathlib.Core.List.{List, ◌++◌, map}
use Prim.Native.Nat.{ℕ}
use Rattle.form.specs.Tree.{Operation, Dossier}
use Rattle.static_rules.specs.Scope.{inputs}
use Rattle.meaning.specs.Meaning.{Binding}
use Rattle.meaning.specs.Bindings.{bindings, flat, Among}
use Rattle.meaning.specs.Operations.{abstract_bindings, concrete_bindings, output_bindings}
use Rattle.meaning.proofs.Distinct.{every_map, every-flat}
use Rattle.obligations.specs.Order.{Check, applies, corrects, applicability_checks, correctness_checks}

module _ (d : Dossier) (k : ℕ) (op : Operation) where
  -- of applicability: those of abstract and concrete binding, and those of the abstract one
  abbrev pub applies_at : (a c : Binding) → List Check
  applies_at a c = map (λ (i : Binding). applies k op a c i) (bindings (inputs d op))

  abbrev pub applies_from : (a : Binding) → List Check
  applies_from a = flat (λ (c : Binding). applies_at a c) (concrete_bindings d)

  -- of correctness: those of abstract, concrete, inputs and outputs, and so on down to those of the abstract binding
  abbrev pub corrects_giving : (a c i o : Binding) → List Check
  corrects_giving a c i o = map (λ (c' : Binding). corrects k op a c i o c') (concrete_bindings d)

  abbrev pub corrects_by : (a c i : Binding) → List Check
  corrects_by a c i = flat (λ (o : Binding). corrects_giving a c i o) (output_bindings d op)

  abbrev pub corrects_at : (a c : Binding) → List Check
  corrects_at a c = flat (λ (i : Binding). corrects_by a c i) (bindings (inputs d op))

  abbrev pub corrects_from : (a : Binding) → List Check
  corrects_from a = flat (λ (c : Binding). corrects_at a c) (concrete_bindings d)

  -- both obligations
  abbrev pub block_of : List Check
  block_of = applicability_checks d k op ++ correctness_checks d k op

-- a property of all checks of one obligation of one operation, and of those that agree in their first groups
module _ (d : Dossier) (P : Check → Type 0) (k : ℕ) (op : Operation) where
  pub every-applies-at : (a c : Binding) → ((i : Binding) → P (applies k op a c i)) → (x : Check) → Among x (applies_at d k op a c) → P x
  every-applies-at a c = every_map P (applies k op a c) (bindings (inputs d op))

  pub every-applies-from : (a : Binding) → ((c i : Binding) → P (applies k op a c i)) → (x : Check) → Among x (applies_from d k op a) → P x
  every-applies-from a h = every-flat P (applies_at d k op a) (concrete_bindings d) (λ c. every-applies-at a c (h c))

  pub every-applicability : ((a c i : Binding) → P (applies k op a c i)) → (x : Check) → Among x (applicability_checks d k op) → P x
  unfolding applicability_checks
  every-applicability h = every-flat P (applies_from d k op) (abstract_bindings d) (λ a. every-applies-from a (h a))

  pub every-corrects-giving : (a c i o : Binding) → ((c' : Binding) → P (corrects k op a c i o c')) → (x : Check) → Among x (corrects_giving d k op a c i o) → P x
  every-corrects-giving a c i o = every_map P (corrects k op a c i o) (concrete_bindings d)

  pub every-corrects-by : (a c i : Binding) → ((o c' : Binding) → P (corrects k op a c i o c')) → (x : Check) → Among x (corrects_by d k op a c i) → P x
  every-corrects-by a c i h = every-flat P (corrects_giving d k op a c i) (output_bindings d op) (λ o. every-corrects-giving a c i o (h o))

  pub every-corrects-at : (a c : Binding) → ((i o c' : Binding) → P (corrects k op a c i o c')) → (x : Check) → Among x (corrects_at d k op a c) → P x
  every-corrects-at a c h = every-flat P (corrects_by d k op a c) (bindings (inputs d op)) (λ i. every-corrects-by a c i (h i))

  pub every-corrects-from : (a : Binding) → ((c i o c' : Binding) → P (corrects k op a c i o c')) → (x : Check) → Among x (corrects_from d k op a) → P x
  every-corrects-from a h = every-flat P (corrects_at d k op a) (concrete_bindings d) (λ c. every-corrects-at a c (h c))

  pub every-correctness : ((a c i o c' : Binding) → P (corrects k op a c i o c')) → (x : Check) → Among x (correctness_checks d k op) → P x
  unfolding correctness_checks
  every-correctness h = every-flat P (corrects_from d k op) (abstract_bindings d) (λ a. every-corrects-from a (h a))
