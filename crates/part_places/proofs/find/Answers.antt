-- `part_places::find` meets its contract: at the head of the loop the place stands `at` places behind where the part k begins.
use mathlib.Core.Path.{◌≡◌, subst}
use Prim.Native.Nat.{ℕ, ◌+◌, ◌*◌}
use native.Mathlib.Omega.{arith}
use Rattle.part_places.proofs.PlaceSteps.{operations-low, part-asked, left-first, left-next, left_here, left-none}
use Rattle.part_places.specs.Places.{PlaceFound}
use Rattle.part_places.proofs.find.Goals as goal

pub overflow_mul-parts : goal.overflow_mul-parts
overflow_mul-parts c = omega (arith, operations-low c.requires.all)

pub overflow_add-parts : goal.overflow_add-parts
overflow_add-parts c = omega (arith, operations-low c.requires.all)

pub loop-part-init : goal.loop-part-init
loop-part-init c = left-first (omega arith) (omega arith)

pub part_size-size-requires : goal.part_size-size-requires
part_size-size-requires c = part-asked c.loop-part.part c.loop-part-test.true c.requires.all

pub returns-then-at-size : goal.returns-then-at-size
returns-then-at-size c = left_here c.loop-part.invariant c.part_size-size.ensures c.loop-part-test.true c.if-at-size.true

pub loop-part-preserved : goal.loop-part-preserved
loop-part-preserved c = left-next c.loop-part.invariant c.part_size-size.ensures c.loop-part-test.true (omega arith) (omega (arith, c.if-at-size.false))

pub returns : goal.returns
returns c =
    let e : c.loop-part.part ≡ 1 + 2 * c.args.d.now.operations = omega (arith, c.loop-part-test.false, c.loop-part.invariant.within) in
    subst (λ (k : ℕ). PlaceFound c.args.d.now.table.now c.args.d.now.groups.now c.args.d.now.operations c.args.place k c.loop-part.at) e (left-none c.loop-part.invariant (omega (arith, c.loop-part-test.false)))
