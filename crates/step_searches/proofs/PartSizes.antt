-- How many bindings the groups of a part have: as many as the lists of the dossier's bindings. Assumes nothing.
use mathlib.Core.Path.{◌≡◌, sym, ap, ◌∙◌}
use mathlib.Core.List.{List}
use Prim.Native.Nat.{ℕ}
use lib.ListN.{length}
use Rattle.form.specs.Tree.{Operation, Dossier}
use Rattle.static_rules.specs.Limits.{binding_count}
use Rattle.static_rules.specs.Scope.{unprimed, inputs, outputs}
use Rattle.meaning.specs.Bindings.{bindings}
use Rattle.meaning.specs.Operations.{abstract_bindings, concrete_bindings, output_bindings}
use Rattle.carriers.proofs.Bindings.{bindings-count}
use Rattle.plans.specs.declared.Part.{Part}
use Rattle.step_searches.specs.StepPromises.{StepSearches, OpeningSearches}

pub abstract-count : (d : Dossier) → length (abstract_bindings d) ≡ binding_count (unprimed d d.abstract)
unfolding abstract_bindings
abstract-count d = bindings-count (unprimed d d.abstract)

pub concrete-count : (d : Dossier) → length (concrete_bindings d) ≡ binding_count (unprimed d d.concrete)
unfolding concrete_bindings
concrete-count d = bindings-count (unprimed d d.concrete)

output-count : (d : Dossier) (op : Operation) → length (output_bindings d op) ≡ binding_count (outputs d op)
unfolding output_bindings
output-count d op = bindings-count (outputs d op)

-- of an operation
module _ {table plan cells : List ℕ} {p : Part} {d : Dossier} {op : Operation} (x : StepSearches table plan cells p d op) where
  pub na-is : p.abstracts.bindings ≡ length (abstract_bindings d)
  na-is = ap (λ (z : Part). z.abstracts.bindings) x.part_is ∙ sym (abstract-count d)

  pub nc-is : p.concretes.bindings ≡ length (concrete_bindings d)
  nc-is = ap (λ (z : Part). z.concretes.bindings) x.part_is ∙ sym (concrete-count d)

  pub ni-is : p.inputs.bindings ≡ length (bindings (inputs d op))
  ni-is = ap (λ (z : Part). z.inputs.bindings) x.part_is ∙ sym (bindings-count (inputs d op))

  pub nq-is : p.outputs.bindings ≡ length (output_bindings d op)
  nq-is = ap (λ (z : Part). z.outputs.bindings) x.part_is ∙ sym (output-count d op)

-- of initialisation
module _ {table plan cells : List ℕ} {p : Part} {d : Dossier} (x : OpeningSearches table plan cells p d) where
  pub opening-nm-is : p.meeting.bindings ≡ length (abstract_bindings d)
  opening-nm-is = ap (λ (z : Part). z.meeting.bindings) x.part_is ∙ sym (abstract-count d)

  pub opening-nc-is : p.concretes.bindings ≡ length (concrete_bindings d)
  opening-nc-is = ap (λ (z : Part). z.concretes.bindings) x.part_is ∙ sym (concrete-count d)
