-- `witnesses::put_groups` meets its contract: the lines of the five groups stand one behind the other.
use native.Mathlib.Omega.{arith}
use Rattle.witnesses.proofs.PartLines.{group-as, group-fits, five-written}
use Rattle.witnesses.proofs.put_groups.Goals as goal

pub put_group-requires : goal.put_group-requires
put_group-requires c =
    let a = c.requires.lines_asked in
    group-fits _ _ c.of-abstracts.ensures (omega (arith, a.abstracts)) (omega (arith, a.abstracts)) (omega (arith, c.requires.at_in_bounds, a.abstracts))

pub put_group-requires-2 : goal.put_group-requires-2
put_group-requires-2 c =
    let a = c.requires.lines_asked in
    group-fits _ _ c.of-concretes.ensures (omega (arith, a.concretes)) (omega (arith, a.concretes)) (omega (arith, c.requires.at_in_bounds, a.abstracts, a.concretes, c.of-abstracts.ensures.1, c.put_group.ensures.lines.written.long, c.put_group.ensures.short))

pub put_group-requires-3 : goal.put_group-requires-3
put_group-requires-3 c =
    let a = c.requires.lines_asked in
    group-fits _ _ c.of-inputs.ensures (omega (arith, a.inputs, a.row_low)) (omega (arith, a.inputs)) (omega (arith, c.requires.at_in_bounds, a.abstracts, a.concretes, a.inputs, c.of-abstracts.ensures.1, c.put_group.ensures.lines.written.long, c.put_group.ensures.short, c.of-concretes.ensures.1, c.put_group-2.ensures.lines.written.long, c.put_group-2.ensures.short))

pub put_group-requires-4 : goal.put_group-requires-4
put_group-requires-4 c =
    let a = c.requires.lines_asked in
    group-fits _ _ c.of-outputs.ensures (omega (arith, a.outputs, a.row_low)) (omega (arith, a.outputs)) (omega (arith, c.requires.at_in_bounds, a.abstracts, a.concretes, a.inputs, a.outputs, c.of-abstracts.ensures.1, c.put_group.ensures.lines.written.long, c.put_group.ensures.short, c.of-concretes.ensures.1, c.put_group-2.ensures.lines.written.long, c.put_group-2.ensures.short, c.of-inputs.ensures.1, c.put_group-3.ensures.lines.written.long, c.put_group-3.ensures.short))

pub put_group-requires-5 : goal.put_group-requires-5
put_group-requires-5 c =
    let a = c.requires.lines_asked in
    group-fits _ _ c.of-primes.ensures (omega (arith, a.primes)) (omega (arith, a.primes)) (omega (arith, c.requires.at_in_bounds, a.abstracts, a.concretes, a.inputs, a.outputs, a.primes, c.of-abstracts.ensures.1, c.put_group.ensures.lines.written.long, c.put_group.ensures.short, c.of-concretes.ensures.1, c.put_group-2.ensures.lines.written.long, c.put_group-2.ensures.short, c.of-inputs.ensures.1, c.put_group-3.ensures.lines.written.long, c.put_group-3.ensures.short, c.of-outputs.ensures.1, c.put_group-4.ensures.lines.written.long, c.put_group-4.ensures.short))

pub returns-clause-lines : goal.returns-clause-lines
returns-clause-lines c = five-written (group-as c.args.s.now.names.text.now c.args.s.now.names.labels.now c.args.s.now.slots.now c.of-abstracts.ensures c.put_group.ensures.lines) (group-as c.args.s.now.names.text.now c.args.s.now.names.labels.now c.args.s.now.slots.now c.of-concretes.ensures c.put_group-2.ensures.lines) (group-as c.args.s.now.names.text.now c.args.s.now.names.labels.now c.args.s.now.slots.now c.of-inputs.ensures c.put_group-3.ensures.lines) (group-as c.args.s.now.names.text.now c.args.s.now.names.labels.now c.args.s.now.slots.now c.of-outputs.ensures c.put_group-4.ensures.lines) (group-as c.args.s.now.names.text.now c.args.s.now.names.labels.now c.args.s.now.slots.now c.of-primes.ensures c.put_group-5.ensures.lines)

pub returns-clause-short : goal.returns-clause-short
returns-clause-short c =
    let a = c.requires.lines_asked in
    omega (arith, c.requires.at_in_bounds, a.abstracts, a.concretes, a.inputs, a.outputs, a.primes, c.of-abstracts.ensures.1, c.put_group.ensures.lines.written.long, c.put_group.ensures.short, c.of-concretes.ensures.1, c.put_group-2.ensures.lines.written.long, c.put_group-2.ensures.short, c.of-inputs.ensures.1, c.put_group-3.ensures.lines.written.long, c.put_group-3.ensures.short, c.of-outputs.ensures.1, c.put_group-4.ensures.lines.written.long, c.put_group-4.ensures.short, c.of-primes.ensures.1, c.put_group-5.ensures.lines.written.long, c.put_group-5.ensures.short)
