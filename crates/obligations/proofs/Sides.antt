-- The two sides of a dossier have the same operations; the parameters at a number are those of the operation that is listed there. Assumes nothing.
use mathlib.Core.Path.{◌≡◌, refl, ap}
use mathlib.Core.Option.{some}
use Prim.Native.Nat.{ℕ}
use lib.ListN.{get_elem?}
use Rattle.form.specs.Tree.{Operation, Dossier}
use Rattle.static_rules.specs.Scope.{inputs, outputs}
use Rattle.obligations.specs.Machines.{SameOperations, parameters, abstract_side, concrete_side}

pub same-operations : (d : Dossier) → SameOperations (abstract_side d) (concrete_side d)
same-operations d = record { operations = refl; taken = λ k. refl; produced = λ k. refl }

module _ (d : Dossier) (k : ℕ) (op : Operation) (listed : get_elem? d.operations k ≡ some op) where
  pub inputs_at : (abstract_side d).taken k ≡ inputs d op
  inputs_at = ap (parameters (inputs d)) listed

  pub outputs_at : (concrete_side d).produced k ≡ outputs d op
  outputs_at = ap (parameters (outputs d)) listed
