-- `reports::put_refuted` meets its contract: the first line of a refuted check, by its obligation. Assumes nothing.
use Prim.Native.Nat.{◌+◌}
use native.Mathlib.Omega.{arith}
use lib.ListN.{get_or}
use Rattle.lexical.specs.Lists.{bytes}
use Rattle.reports.proofs.LineRooms.{title-room}
use Rattle.reports.proofs.LineLaws.{opening-line, applying-line, correcting-line}
use Rattle.reports.proofs.put_refuted.Goals as goal

pub put-requires : goal.put-requires
unfolding bytes
put-requires c = title-room c.args.names.now.text.now (get_or c.args.names.now.labels.now (64 + c.in-Applicability.k) 0) 22 c.put_all-in-Applicability.ensures.written c.put_title.ensures.written (omega arith) (omega arith)

pub put-requires-in-Correctness : goal.put-requires-in-Correctness
unfolding bytes
put-requires-in-Correctness c = title-room c.args.names.now.text.now (get_or c.args.names.now.labels.now (64 + c.in-Correctness.k) 0) 22 c.put_all-in-Correctness.ensures.written c.put_title-in-Correctness.ensures.written (omega arith) (omega arith)

pub returns-in-Initialisation : goal.returns-in-Initialisation
unfolding bytes
returns-in-Initialisation c = rw c.in-Initialisation.is (opening-line c.put_all.ensures)

pub returns-in-Applicability : goal.returns-in-Applicability
unfolding bytes
returns-in-Applicability c = rw c.in-Applicability.is (applying-line {k = c.in-Applicability.k} c.put_title.ensures c.put.ensures c.put_all-in-Applicability.ensures)

pub returns-in-Correctness : goal.returns-in-Correctness
unfolding bytes
returns-in-Correctness c = rw c.in-Correctness.is (correcting-line {k = c.in-Correctness.k} c.put_title-in-Correctness.ensures c.put-in-Correctness.ensures c.put_all-in-Correctness.ensures)
