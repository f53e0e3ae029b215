-- `checker::put_last` meets its contract: the lines of the binding looked at last.
use borrow.Author.Rules.{rules}
use mathlib.Core.Path.{◌≡◌}
use native.Mathlib.Omega.{arith}
use lib.ListN.{length}
use Rattle.text_readings.proofs.LentArrays.{lent}
use Rattle.witnesses.proofs.PartLines.{witness-asked}
use Rattle.checker.specs.OpenPromises.{LastAsked}
use Rattle.checker.proofs.RefutedLaws.{last-place, last_written, last_back}
use Rattle.checker.proofs.put_last.Goals as goal

pub find-f-requires : goal.find-f-requires
find-f-requires c = last-place (lent c.dossier-d.ensures (λ t r f g n. LastAsked c.args.o.text.now c.args.a.now.labels t g n c.args.o.place) c.requires)

pub put_witness-requires : goal.put_witness-requires
put_witness-requires c = record { at_in_bounds = let l : length c.args.out.now ≡ 19350 = search rules in omega (arith, l); witness_asked = witness-asked (last-place (lent c.dossier-d.ensures (λ t r f g n. LastAsked c.args.o.text.now c.args.a.now.labels t g n c.args.o.place) c.requires)) c.find-f.ensures }

pub returns : goal.returns
returns c = last_back c.dossier-d.ensures (last_written c.find-f.ensures c.put_witness.ensures.written (search rules))
