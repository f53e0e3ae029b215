-- `symbols::scan` meets its contract. Assumes nothing.
use Rattle.std.proofs.lemmas.Result.{err_from_is_err_and}
use Rattle.symbols.proofs.WholeLaws.{scans-long, scans-fault, scans-all, rows, numbers-at}
use Rattle.symbols.proofs.scan.Goals as goal

pub returns-then-text-gt-TEXT_BYTES : goal.returns-then-text-gt-TEXT_BYTES
returns-then-text-gt-TEXT_BYTES c = scans-long c.args.text.now c.args.codes.now c.args.starts.now c.args.values.now c.if-text-gt-TEXT_BYTES.true

pub number_names-requires : goal.number_names-requires
number_names-requires c = (rows c.if-text-gt-TEXT_BYTES.false c.scan_symbols.ensures c.in_ok-n.was, numbers-at c.if-text-gt-TEXT_BYTES.false c.scan_symbols.ensures c.in_ok-n.was)

pub returns-in_err-n : goal.returns-in_err-n
returns-in_err-n c = let p = err_from_is_err_and c.from_residual.result c.from_residual.ensures.1 in rw (p.1, p.2) (scans-fault c.if-text-gt-TEXT_BYTES.false c.scan_symbols.ensures c.in_err-n.was)

pub returns : goal.returns
returns c = scans-all c.if-text-gt-TEXT_BYTES.false c.scan_symbols.ensures c.in_ok-n.was c.number_names.ensures
