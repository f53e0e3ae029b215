-- `keys::key_at` meets its contract: the key so far, with that of what is left, is the key. Assumes nothing.
use Prim.Native.Nat.{◌+◌, ◌/◌, ◌%◌}
use mathlib.Core.Path.{◌≡◌, sym, subst}
use native.Mathlib.Omega.{arith}
use Rattle.idle_variables.specs.KeyPromises.{key_in}
use Rattle.idle_variables.proofs.KeySteps.{Keying, keying-start, keyed-early, keyed-late, key-bound, slot-low, digit-some, stride-some, key-passed, key-taken, taken-low}
use Rattle.idle_variables.proofs.keys.key_at.Goals as goal
use Rattle.idle_variables.proofs.keys.key_at.Goals.{then-idle-eq0-2, else-idle-eq0-2, else-loop-slot-test, then-loop-slot-test+then-idle-eq0}

pub loop-slot-init : goal.loop-slot-init
loop-slot-init c = keying-start c.requires.key_asked c.requires.x_lt_count

pub count_of-stride-requires : goal.count_of-stride-requires
count_of-stride-requires c = slot-low c.requires.key_asked c.requires.x_lt_count c.loop-slot.invariant c.loop-slot-test.true

pub nonzero_div-stride : goal.nonzero_div-stride
nonzero_div-stride c = digit-some c.requires.key_asked c.requires.x_lt_count c.loop-slot.invariant c.loop-slot-test.true c.count_of-stride.ensures

pub nonzero_div-key : goal.nonzero_div-key
nonzero_div-key c = stride-some c.requires.key_asked c.requires.x_lt_count c.loop-slot.invariant c.loop-slot-test.true c.count_of-stride.ensures

pub nonzero_rem-rest : goal.nonzero_rem-rest
nonzero_rem-rest c = stride-some c.requires.key_asked c.requires.x_lt_count c.loop-slot.invariant c.loop-slot-test.true c.count_of-stride.ensures

pub overflow_add-key : goal.overflow_add-key
overflow_add-key c = omega (arith, taken-low c.requires.key_asked c.requires.x_lt_count c.loop-slot.invariant c.loop-slot-test.true c.count_of-stride.ensures (λ o. omega (arith, o, c.if-idle-eq0-2.true)))

pub loop-slot-preserved : goal.loop-slot-preserved
loop-slot-preserved c = elim c.if-idle-eq0-2.branch [
  | then-idle-eq0-2 w ↦ subst (Keying c.args.cells.now c.args.g c.args.x (c.loop-slot.slot + 1) (c.loop-slot.stride / c.count_of-stride.result) (c.loop-slot.idle / 2) (c.loop-slot.rest % (c.loop-slot.stride / c.count_of-stride.result))) (sym w.key-is)
      (key-taken c.requires.key_asked c.requires.x_lt_count c.loop-slot.invariant c.loop-slot-test.true c.count_of-stride.ensures (λ o. omega (arith, o, w.if-idle-eq0-2.true)))
  | else-idle-eq0-2 w ↦ subst (Keying c.args.cells.now c.args.g c.args.x (c.loop-slot.slot + 1) (c.loop-slot.stride / c.count_of-stride.result) (c.loop-slot.idle / 2) (c.loop-slot.rest % (c.loop-slot.stride / c.count_of-stride.result))) (sym w.key-is)
      (key-passed c.requires.key_asked c.requires.x_lt_count c.loop-slot.invariant c.loop-slot-test.true c.count_of-stride.ensures (omega (arith, w.if-idle-eq0-2.false)))
]

key-is : (c : goal.Left-loop-slot) → c.loop-slot.key + c.loop-slot.rest ≡ key_in c.args.cells.now c.args.g c.args.x
key-is c = elim c.loop-slot-test.branch [
  | else-loop-slot-test w ↦ keyed-late c.requires.key_asked c.requires.x_lt_count c.loop-slot.invariant (omega (arith, w.loop-slot-test.false))
  | then-loop-slot-test+then-idle-eq0 w ↦ keyed-early c.requires.key_asked c.requires.x_lt_count c.loop-slot.invariant w.if-idle-eq0.true
]

pub overflow_add-result : goal.overflow_add-result
overflow_add-result c = omega (arith, key-bound c.requires.key_asked c.requires.x_lt_count c.loop-slot.invariant (key-is c), c.requires.key_asked.few)

pub returns-clause-is : goal.returns-clause-is
returns-clause-is c = key-is c

pub returns-clause-low : goal.returns-clause-low
returns-clause-low c = key-bound c.requires.key_asked c.requires.x_lt_count c.loop-slot.invariant (key-is c)
