-- How many places the check of a text that is read has. Assumes nothing.
use mathlib.Core.Path.{◌≡◌}
use mathlib.Core.List.{List}
use Prim.Native.Nat.{ℕ, ◌<◌, ◌^◌}
use native.Mathlib.Omega.{arith}
use Rattle.form.specs.Tree.{Dossier}
use Rattle.form.specs.Headings.{operations_at}
use Rattle.static_rules.specs.Scope.{unprimed, inputs, outputs}
use Rattle.static_rules.specs.Read.{reading, read}
use Rattle.meaning.specs.Operations.{abstract_bindings, concrete_bindings, output_bindings}
use Rattle.carriers.proofs.Bindings.{bindings-count}
use Rattle.obligations.specs.Subjects.{subject_of}
use Rattle.obligations.specs.Order.{total}
use Rattle.reader.specs.Gives.{Gives}
use Rattle.reader.proofs.ReadGives.{read-gives}
use Rattle.readings.proofs.ReadReadings.{state-bindings, operation-bindings}
use Rattle.reports.proofs.PartTestsPartSizes.{total-small}

-- 6 and 12: the check as a whole has fewer than 2^53 places
pub read-total : (t : List ℕ) (d : Dossier) → read t ≡ reading d → total (subject_of d) < 2 ^ 53
unfolding abstract_bindings concrete_bindings output_bindings
read-total t d e =
    let g : Gives t d = read-gives t d e in
    let s = state-bindings d g.bindings in
    total-small d (omega (arith, bindings-count (unprimed d d.abstract), s.0)) (omega (arith, bindings-count (unprimed d d.concrete), s.1))
    (λ j op listed.
    let o = operation-bindings d (operations_at d) d.operations s.2 j op listed in
    (omega (arith, bindings-count (inputs d op), o.0), omega (arith, bindings-count (outputs d op), o.1)))
    g.variables.operations
