use mathlib.Core.Path.{◌≡◌}
use mathlib.Core.List.{[], ◌∷◌}
use Prim.Native.Nat.{◌-◌, ◌≤◌}
use lib.ListN.{length}
use Rattle.form.specs.Machine.{some_bodies}
use Rattle.form_nodes.specs.FormPromises.{Reads}
use Rattle.form_nodes.proofs.ReadParts.{read}
use Rattle.form_nodes.specs.Derivations.{some_givens, MoreAt}
use Rattle.declarations.proofs.contents.givens.Given as goal

abbrev pub invariant-loop-read : goal.invariant-loop-read
invariant-loop-read l = Reads l.y.kinds.now l.fn.from.at l.fn.from.count (some_bodies 0 ∷ []) (some_bodies l.k ∷ []) (read l.read.at l.read.count) × MoreAt l.y.kinds.now l.y.values.now some_givens l.fn.from.at l.fn.from.count l.initial.code l.code l.read.at l.read.count × (length l.code ≡ length l.initial.code) × (l.k ≤ 8)

abbrev pub decreases-loop-read : goal.decreases-loop-read
decreases-loop-read l = length l.y.kinds.now - l.read.at
