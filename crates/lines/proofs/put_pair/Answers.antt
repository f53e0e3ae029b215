-- `lines::put_pair` meets its contract: an element, an arrow, an element. Assumes nothing.
use mathlib.Core.Path.{◌∙◌}
use Prim.Native.Nat.{◌/◌}
use native.Mathlib.Omega.{arith}
use Rattle.std.specs.Int.NonZero.{non_zero_u16_get}
use Rattle.lines.proofs.LineLaws.{sides-low, element-length, pair-written}
use Rattle.lines.proofs.put_pair.Goals as goal

pub put_element-requires : goal.put_element-requires
put_element-requires c = ((sides-low c.args.k c.from-m.result c.requires.0).0, omega arith)

pub put_all-requires : goal.put_all-requires
put_all-requires c = omega (arith, c.put_element.ensures.written.end, c.put_element.ensures.written.long, element-length c.args.names.now.text.now c.args.names.now.labels.now (c.args.sides / 8) (c.args.k / c.from-m.result))

pub put_element-requires-2 : goal.put_element-requires-2
put_element-requires-2 c = ((sides-low c.args.k c.from-m.result c.requires.0).1, omega (arith, c.put_element.ensures.written.end, c.put_element.ensures.written.long, element-length c.args.names.now.text.now c.args.names.now.labels.now (c.args.sides / 8) (c.args.k / c.from-m.result), c.put_all.ensures.written.end, c.put_all.ensures.written.long))

pub returns : goal.returns
returns c = pair-written c.args.names.now.text.now c.args.names.now.labels.now c.args.sides (non_zero_u16_get c.args.m) c.args.k (c.from-m.ensures ∙ c.get.ensures.value) c.put_element.ensures c.put_all.ensures c.put_element-2.ensures
