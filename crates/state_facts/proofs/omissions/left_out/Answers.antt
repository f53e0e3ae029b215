-- `omissions::left_out` meets its contract: the rows of a context stand between its place and the next. Assumes nothing.
use mathlib.Core.Path.{sym, subst₂}
use Prim.Native.Nat.{◌+◌}
use native.Mathlib.Omega.{arith}
use Rattle.std.proofs.Common.{rules}
use Rattle.state_facts.specs.Omissions.{RowsStand, RowsSay}
use Rattle.state_facts.proofs.OmissionLaws.{context-stands, context-rows-stand, left_out, left-none}
use Rattle.state_facts.proofs.omissions.left_out.Goals as goal

pub returns-then-d-context : goal.returns-then-d-context
returns-then-d-context c = left-none

pub mask_of-bits-requires : goal.mask_of-bits-requires
mask_of-bits-requires c =
    let rows : RowsStand c.d.inside.arrays.table.now c.d.inside.arrays.rows.now c.from-from.result c.from-to.result = subst₂ (λ x y. RowsStand c.d.inside.arrays.table.now c.d.inside.arrays.rows.now x y) (sym c.from-from.ensures) (sym c.from-to.ensures) (context-rows-stand (context-stands c.d.invariant c.args.context (omega (arith, c.if-d-context.false)))) in
    record {
      few = omega (arith, c.if-count-gt-MOST.false);
      callable = λ k h. (rows, omega (arith, c.if-slot-gt-SLOTS.false), omega (arith, c.if-count-gt-MOST.false, h));
    }

pub returns : goal.returns
returns c =
    rw (← c.d.view_is) (left_out c.mask_of-bits.ensures
    (λ k b q. subst₂ (λ x y. RowsSay c.d.inside.arrays.table.now c.d.inside.arrays.rows.now x y (c.args.slot + k) b) c.from-from.ensures c.from-to.ensures (search (rules, q))))
