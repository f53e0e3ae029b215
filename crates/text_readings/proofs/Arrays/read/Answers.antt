-- `Arrays::read` meets its contract.
use borrow.Author.Rules.{rules}
use Rattle.std.proofs.lemmas.Result.{err_from_is_err_and}
use Rattle.text_readings.proofs.TextLaws.{text-refused, nodes-few, text-read}
use Rattle.text_readings.proofs.Arrays.read.Goals as goal

pub gather-requires : goal.gather-requires
gather-requires c = nodes-few c.read-answer.ensures (search rules) c.in_ok-structure.was

pub returns-in_err-structure : goal.returns-in_err-structure
returns-in_err-structure c =
    let p = err_from_is_err_and c.from_residual.result c.from_residual.ensures.1 in rw (p.1, p.2) (text-refused c.read-answer.ensures _ c.in_err-structure.was)

pub returns : goal.returns
returns c = text-read c.read-answer.ensures (search rules) (search rules) (search rules) c.in_ok-structure.was c.gather.ensures c.operations-n.ensures
