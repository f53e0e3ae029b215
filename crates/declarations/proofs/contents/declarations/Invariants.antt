use mathlib.Core.Path.{◌≡◌}
use mathlib.Core.List.{[], ◌∷◌, ◌++◌}
use Prim.Native.Nat.{◌-◌, ◌≤◌}
use lib.ListN.{length}
use Rattle.form.specs.Written.{a_variable}
use Rattle.form.specs.Machine.{a_declared, some_declarations}
use Rattle.form_nodes.specs.FormPromises.{Reads}
use Rattle.form_nodes.proofs.ReadParts.{read}
use Rattle.form_nodes.specs.Derivations.{MoreAt}
use Rattle.declarations.specs.DossierPromises.{a_typed}
use Rattle.form_nodes.specs.Derivations as part
use Rattle.declarations.proofs.contents.declarations.Given as goal

abbrev pub invariant-loop-read : goal.invariant-loop-read
invariant-loop-read l = Reads l.y.kinds.now l.fn.from.at l.fn.from.count (a_declared (a_variable 1) ∷ (a_typed ++ (some_declarations 1 ∷ []))) (some_declarations l.k ∷ []) (read l.read.at l.read.count) × MoreAt l.y.kinds.now l.y.values.now part.some_declarations l.fn.from.at l.fn.from.count l.initial.code l.code l.read.at l.read.count × (length l.code ≡ length l.initial.code) × (l.k ≤ 8)

abbrev pub decreases-loop-read : goal.decreases-loop-read
decreases-loop-read l = length l.y.kinds.now - l.read.at
