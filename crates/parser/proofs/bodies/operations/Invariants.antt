use mathlib.Core.Path.{◌≡◌}
use mathlib.Core.List.{[], ◌∷◌}
use Prim.Native.Nat.{◌-◌, ◌≤◌}
use lib.ListN.{length}
use Rattle.form.specs.Machine.{some_operations}
use Rattle.form_nodes.specs.FormPromises.{Reads}
use Rattle.form_nodes.proofs.ReadParts.{read}
use Rattle.form_nodes.specs.Derivations.{MoreAt}
use Rattle.form_nodes.specs.Derivations as part
use Rattle.parser.proofs.bodies.operations.Given as goal

abbrev pub invariant-loop-read : goal.invariant-loop-read
invariant-loop-read l = Reads l.y.kinds.now l.fn.from.at l.fn.from.count (some_operations 0 ∷ []) (some_operations l.k ∷ []) (read l.read.at l.read.count) × MoreAt l.y.kinds.now l.y.values.now part.some_operations l.fn.from.at l.fn.from.count l.initial.code l.code l.read.at l.read.count × (length l.code ≡ length l.initial.code) × (l.k ≤ 16)

abbrev pub decreases-loop-read : goal.decreases-loop-read
decreases-loop-read l = length l.y.kinds.now - l.read.at
