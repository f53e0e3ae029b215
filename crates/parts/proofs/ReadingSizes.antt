-- How many bindings the groups of a dossier have whose reading the arrays are, and that its check has fewer than 2^53 places. Assumes nothing.
use mathlib.Core.Path.{◌≡◌}
use mathlib.Core.List.{List}
use mathlib.Core.Option.{some}
use Prim.Native.Nat.{ℕ, ◌+◌, ◌*◌, ◌<◌, ◌≤◌, ◌^◌}
use native.Mathlib.Omega.{arith}
use lib.ListN.{length, get_elem?}
use Rattle.form.specs.Tree.{Operation, Dossier}
use Rattle.static_rules.specs.Scope.{unprimed, inputs, outputs}
use Rattle.static_rules.specs.Limits.{binding_count}
use Rattle.meaning.specs.Operations.{abstract_bindings, concrete_bindings, output_bindings}
use Rattle.carriers.proofs.Bindings.{bindings-count}
use Rattle.obligations.specs.Subjects.{subject_of}
use Rattle.obligations.specs.Order.{total}
use Rattle.obligations.proofs.Digits.{abstracts, concretes, givens, results, applicability_size, correctness_size}
use Rattle.part_setup.specs.ReadingsReadings.{GroupAt, ReadingOf}
use Rattle.part_setup.proofs.PartTestsPartSizes.{total-small}

module _ (d : Dossier) where
  -- the bindings of a group are counted by the sizes of its carriers
  pub abstracts-count : abstracts d ≡ binding_count (unprimed d d.abstract)
  unfolding abstract_bindings
  abstracts-count = bindings-count (unprimed d d.abstract)

  pub concretes-count : concretes d ≡ binding_count (unprimed d d.concrete)
  unfolding concrete_bindings
  concretes-count = bindings-count (unprimed d d.concrete)

  pub givens-count : (op : Operation) → givens d op ≡ binding_count (inputs d op)
  givens-count op = bindings-count (inputs d op)

  pub results-count : (op : Operation) → results d op ≡ binding_count (outputs d op)
  unfolding output_bindings
  results-count op = bindings-count (outputs d op)

  -- and so are the places of an operation's two parts
  pub applicability-counts : (op : Operation)
      → applicability_size d op ≡ binding_count (unprimed d d.abstract) * binding_count (unprimed d d.concrete) * binding_count (inputs d op)
  applicability-counts op = λ i. abstracts-count i * concretes-count i * givens-count op i

  pub correctness-counts : (op : Operation)
      → correctness_size d op
      ≡ binding_count (unprimed d d.abstract) * binding_count (unprimed d d.concrete) * binding_count (inputs d op) * binding_count (outputs d op)
      * binding_count (unprimed d d.concrete)
  correctness-counts op = λ i. abstracts-count i * concretes-count i * givens-count op i * results-count op i * concretes-count i

-- by the groups alone, whatever the predicates are
pub groups-small : {table groups : List ℕ} (d : Dossier) → GroupAt table groups 0 (unprimed d d.abstract) 8 4096 → GroupAt table groups 9 (unprimed d d.concrete) 8 4096
    → length d.operations ≤ 16
    → ((j : ℕ) (op : Operation) → get_elem? d.operations j ≡ some op → GroupAt table groups (18 + 8 * j) (inputs d op) 3 64)
    → ((j : ℕ) (op : Operation) → get_elem? d.operations j ≡ some op → GroupAt table groups (18 + 8 * j + 4) (outputs d op) 3 64)
    → total (subject_of d) < 2 ^ 53
groups-small d a c few i o =
    total-small d (omega (arith, abstracts-count d, a.bindings)) (omega (arith, concretes-count d, c.bindings))
    (λ j op listed. (omega (arith, givens-count d op, (i j op listed).bindings), omega (arith, results-count d op, (o j op listed).bindings)))
    few

pub reading_small : {table rows firsts groups : List ℕ} {d : Dossier} → ReadingOf table rows firsts groups d → total (subject_of d) < 2 ^ 53
reading_small {d = d} g = groups-small d g.abstracts g.concretes g.operations g.inputs_at g.outputs_at
