use mathlib.Core.Path.{◌≡◌}
use mathlib.Core.List.{[], ◌∷◌}
use Prim.Native.Nat.{◌-◌, ◌≤◌}
use lib.ListN.{length}
use Rattle.form.specs.Written.{an_element}
use Rattle.form.specs.Machine.{a_declared, some_elements}
use Rattle.form_nodes.specs.FormPromises.{Reads}
use Rattle.form_nodes.proofs.ReadParts.{read}
use Rattle.form_nodes.specs.Derivations.{MoreAt}
use Rattle.form_nodes.specs.Derivations as part
use Rattle.declarations.proofs.contents.elements.Given as goal

abbrev pub invariant-loop-read : goal.invariant-loop-read
invariant-loop-read l = Reads l.y.kinds.now l.fn.from.at l.fn.from.count (a_declared (an_element 1) ∷ some_elements 1 ∷ []) (some_elements l.k ∷ []) (read l.read.at l.read.count) × MoreAt l.y.kinds.now l.y.values.now part.some_elements l.fn.from.at l.fn.from.count l.initial.code l.code l.read.at l.read.count × (length l.code ≡ length l.initial.code) × (l.k ≤ 8)

abbrev pub decreases-loop-read : goal.decreases-loop-read
decreases-loop-read l = length l.y.kinds.now - l.read.at
