-- `held_checks::laid` meets its contract: the first test that fails decides, and else the zeros behind the text. Assumes nothing.
use mathlib.Core.Path.{sym, ap, ◌∙◌}
use Prim.Native.Nat.{ℕ, ◌+◌, ◌-◌}
use lib.ListN.{take, drop}
use Rattle.held_checks.specs.BytePromises.{all_zero}
use Rattle.std.proofs.lemmas.List.{take_rest}
use Rattle.held_checks.proofs.LayoutLaws.{laid-zeros, laid-not, laid-both_not}
use Rattle.held_checks.proofs.laid.Goals.{then-are_zero, else-are_zero}
use Rattle.held_checks.proofs.laid.Goals as goal

pub returns-then-n-le-TEXT_BYTES : goal.returns-then-n-le-TEXT_BYTES
returns-then-n-le-TEXT_BYTES c =
    c.are_zero-then-n-le-TEXT_BYTES.ensures
    ∙ ap (λ (k : ℕ). all_zero (take (k - (16 + c.length_in-n.result)) (drop (16 + c.length_in-n.result) c.args.held.now))) (sym c.told-held)
    ∙ ap all_zero (take_rest c.args.held.now (16 + c.length_in-n.result))
    ∙ laid-zeros c.args.held.now c.length_in-n.result c.told-held c.fits-held c.length_in-n.ensures c.if-n-le-TEXT_BYTES.true.1 (sym c.are_zero.ensures ∙ c.if-n-le-TEXT_BYTES.true.0)

pub returns-else-n-le-TEXT_BYTES : goal.returns-else-n-le-TEXT_BYTES
returns-else-n-le-TEXT_BYTES c = elim c.if-are_zero.branch [
  | then-are_zero w ↦ laid-both_not c.args.held.now c.length_in-n.result c.told-held c.length_in-n.ensures w.t-4-is w.if-are_zero.true c.if-n-le-TEXT_BYTES.either
  | else-are_zero w ↦ w.t-4-is ∙ w.if-are_zero.false ∙ laid-not c.args.held.now (sym c.are_zero.ensures ∙ w.if-are_zero.false)
]
