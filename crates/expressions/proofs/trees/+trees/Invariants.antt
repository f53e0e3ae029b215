use mathlib.Core.List.{[], ◌∷◌}
use Prim.Native.Nat.{ℕ, ◌+◌, ◌-◌, ◌*◌}
use mathlib.Core.Path.{◌≡◌}
use lib.ListN.{length}
use Rattle.form.specs.Machine.{a_term_rest, a_pred_rest}
use Rattle.form_nodes.specs.FormPromises.{Reads}
use Rattle.std.specs.Prelude.{Ok}
use Rattle.form_nodes.specs.Derivations.{MoreAt}
use Rattle.form_nodes.specs.Derivations as derived
use Rattle.expressions.proofs.trees.+trees.Given as goal

abbrev pub decreases-atom : goal.decreases-atom
decreases-atom l = 8 * (length l.y.now.kinds.now - l.from.at) + 1

abbrev pub decreases-brace : goal.decreases-brace
decreases-brace l = 8 * (length l.y.now.kinds.now - l.from.at) + 1

abbrev pub decreases-items : goal.decreases-items
decreases-items l = 8 * (length l.y.now.kinds.now - l.from.at) + 0

abbrev pub decreases-listed : goal.decreases-listed
decreases-listed l = 8 * (length l.y.now.kinds.now - l.from.at) + 0

abbrev pub decreases-member : goal.decreases-member
decreases-member l = 8 * (length l.y.now.kinds.now - l.from.at) + 0

abbrev pub decreases-operand : goal.decreases-operand
decreases-operand l = 8 * (length l.y.now.kinds.now - l.from.at) + 2

abbrev pub decreases-pairs : goal.decreases-pairs
decreases-pairs l = 8 * (length l.y.now.kinds.now - l.from.at) + 0

abbrev pub decreases-paren : goal.decreases-paren
decreases-paren l = 8 * (length l.y.now.kinds.now - l.from.at) + 1

abbrev pub decreases-pred : goal.decreases-pred
decreases-pred l = 8 * (length l.y.now.kinds.now - l.from.at) + 7

abbrev pub decreases-pred_from : goal.decreases-pred_from
decreases-pred_from l = 8 * (length l.y.now.kinds.now - l.from.at) + 6

abbrev pub decreases-pred_more : goal.decreases-pred_more
decreases-pred_more l = 8 * (length l.y.now.kinds.now - l.from.at) + 0

abbrev pub decreases-pred_rest : goal.decreases-pred_rest
decreases-pred_rest l = 8 * (length l.y.now.kinds.now - l.from.at) + 1

abbrev pub decreases-quantified : goal.decreases-quantified
decreases-quantified l = 8 * (length l.y.now.kinds.now - l.from.at) + 0

abbrev pub decreases-related : goal.decreases-related
decreases-related l = 8 * (length l.y.now.kinds.now - l.from.at) + 0

abbrev pub decreases-such : goal.decreases-such
decreases-such l = 8 * (length l.y.now.kinds.now - l.from.at) + 0

abbrev pub decreases-term : goal.decreases-term
decreases-term l = 8 * (length l.y.now.kinds.now - l.from.at) + 4

abbrev pub decreases-term_from : goal.decreases-term_from
decreases-term_from l = 8 * (length l.y.now.kinds.now - l.from.at) + 3

abbrev pub decreases-term_more : goal.decreases-term_more
decreases-term_more l = 8 * (length l.y.now.kinds.now - l.from.at) + 0

abbrev pub decreases-term_rest : goal.decreases-term_rest
decreases-term_rest l = 8 * (length l.y.now.kinds.now - l.from.at) + 1

abbrev pub decreases-unary : goal.decreases-unary
decreases-unary l = 8 * (length l.y.now.kinds.now - l.from.at) + 5

abbrev pub invariant-pred_rest-loop-l : goal.invariant-pred_rest-loop-l
invariant-pred_rest-loop-l l = ((base : ℕ) → ((l.above + 1) ≡ 1 → base ≡ l.reach.depth) → Reads l.y.kinds.now l.fn.from.at l.fn.from.count (a_pred_rest base l.reach.depth l.reach.names ∷ []) (a_pred_rest base l.reach.depth l.reach.names ∷ []) (Ok l.read)) × MoreAt l.y.kinds.now l.y.values.now (derived.a_pred_rest (l.above + 1)) l.fn.from.at l.fn.from.count l.initial.code l.code l.read.at l.read.count × (length l.code ≡ length l.initial.code)

abbrev pub decreases-pred_rest-loop-l : goal.decreases-pred_rest-loop-l
decreases-pred_rest-loop-l l = length l.y.kinds.now - l.read.at

abbrev pub invariant-term_rest-loop-o : goal.invariant-term_rest-loop-o
invariant-term_rest-loop-o l = Reads l.y.kinds.now l.fn.from.at l.fn.from.count (a_term_rest l.reach.depth l.reach.names ∷ []) (a_term_rest l.reach.depth l.reach.names ∷ []) (Ok l.read) × MoreAt l.y.kinds.now l.y.values.now (derived.a_term_rest (l.above + 1)) l.fn.from.at l.fn.from.count l.initial.code l.code l.read.at l.read.count × (length l.code ≡ length l.initial.code)

abbrev pub decreases-term_rest-loop-o : goal.decreases-term_rest-loop-o
decreases-term_rest-loop-o l = length l.y.kinds.now - l.read.at
