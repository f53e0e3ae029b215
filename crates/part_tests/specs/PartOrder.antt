-- The parts of a check by number: the opening obligations first, then two for each operation; how many places each has, and where it begins. Nothing here need be believed.
use Rattle.std.proofs.Math.Option.{Option, none, some}
use Rattle.std.specs.Prelude.{ℕ, zero, suc, ◌+◌, ◌*◌, ◌/◌, ◌%◌, length}
use Rattle.std.proofs.Math.ListN.{get_elem?}
use Rattle.form.specs.Tree.{Operation, Dossier}
use Rattle.static_rules.specs.Scope.{inputs}
use Rattle.meaning.specs.Bindings.{bindings}
use Rattle.meaning.specs.Operations.{abstract_bindings, concrete_bindings, output_bindings}

module _ (d : Dossier) where
  -- applicability (0) or correctness (1) of an operation
  unfoldable pub operation_part_size : (which : ℕ) → Option Operation → ℕ
  operation_part_size which none = 0
  operation_part_size zero (some op) = length (abstract_bindings d) * length (concrete_bindings d) * length (bindings (inputs d op))
  operation_part_size (suc n) (some op) =
      length (abstract_bindings d) * length (concrete_bindings d) * length (bindings (inputs d op)) * length (output_bindings d op) * length (concrete_bindings d)

  unfoldable pub part_size : (k : ℕ) → ℕ
  part_size zero = length (concrete_bindings d)
  part_size (suc n) = operation_part_size (n % 2) (get_elem? d.operations (n / 2))

  -- where the k-th part begins in the order of all checks
  unfoldable pub part_begin : (k : ℕ) → ℕ
  part_begin zero = 0
  part_begin (suc k) = part_begin k + part_size k
