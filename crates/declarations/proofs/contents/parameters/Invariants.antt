use mathlib.Core.Path.{◌≡◌}
use mathlib.Core.List.{[], ◌∷◌}
use Prim.Native.Nat.{◌-◌, ◌≤◌}
use lib.ListN.{length}
use Rattle.form.specs.Machine.{some_parameters}
use Rattle.form_nodes.specs.FormPromises.{Reads}
use Rattle.form_nodes.proofs.ReadParts.{read}
use Rattle.form_nodes.specs.Derivations.{MoreAt}
use Rattle.form_nodes.specs.Derivations as part
use Rattle.declarations.proofs.contents.parameters.Given as goal

abbrev pub invariant-loop-c : goal.invariant-loop-c
invariant-loop-c l = Reads l.y.kinds.now l.fn.from.at l.fn.from.count (some_parameters 0 0 ∷ []) (some_parameters l.taken.inputs l.taken.outputs ∷ []) (read l.read.at l.read.count) × MoreAt l.y.kinds.now l.y.values.now part.some_parameters l.fn.from.at l.fn.from.count l.initial.code l.code l.read.at l.read.count × (length l.code ≡ length l.initial.code) × (l.taken.inputs ≤ 3) × (l.taken.outputs ≤ 3)

abbrev pub decreases-loop-c : goal.decreases-loop-c
decreases-loop-c l = length l.y.kinds.now - l.read.at
