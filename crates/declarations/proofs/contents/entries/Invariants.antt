use mathlib.Core.Path.{◌≡◌}
use mathlib.Core.List.{List, [], ◌∷◌}
use Prim.Native.Nat.{ℕ, ◌+◌, ◌-◌, ◌*◌, ◌≤◌}
use lib.ListN.{length}
use Rattle.form.specs.Written.{Mark}
use Rattle.form.specs.Machine.{Item}
use Rattle.form_nodes.specs.FormPromises.{Reads}
use Rattle.form_nodes.proofs.ReadParts.{read}
use Rattle.form_nodes.specs.Derivations.{MoreAt}
use Rattle.declarations.specs.DossierPromises.{EntriesOf}
use Rattle.form_nodes.specs.Derivations as part
use Rattle.declarations.proofs.contents.entries.Given as goal

abbrev pub invariant-loop-name : goal.invariant-loop-name
invariant-loop-name l = ((f : ℕ → Item) (ο : List Item) (x : ℕ → Mark) → EntriesOf l.word l.limit f ο x → Reads l.y.kinds.now l.fn.from.at l.fn.from.count (f 0 ∷ []) (f l.k ∷ []) (read l.read.at l.read.count)) × MoreAt l.y.kinds.now l.y.values.now (part.some_entries l.word l.shape) l.fn.from.at l.fn.from.count l.initial.code l.code l.read.at l.read.count × (length l.code ≡ length l.initial.code) × (l.k ≤ l.limit) × (l.fn.from.at ≤ l.read.at) × (l.read.at ≤ length l.y.kinds.now) × (l.read.count + 4 * l.fn.from.at ≤ l.fn.from.count + 4 * l.read.at)

abbrev pub decreases-loop-name : goal.decreases-loop-name
decreases-loop-name l = length l.y.kinds.now - l.read.at
