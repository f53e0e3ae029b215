-- `checker::load` meets its contract.
use Rattle.text_readings.proofs.ReadTexts.{text-held, text-faulty, read_short}
use Rattle.checker.proofs.OpenLaws.{is_held, not-held}
use Rattle.checker.proofs.CallLaws.{load-held, load-refused, load-loaded}
use Rattle.checker.proofs.load.Goals as goal

pub returns-then-is_some : goal.returns-then-is_some
returns-then-is_some c = load-held (is_held c.open_bytes.ensures c.if-is_some.ensures).1 c.args.text.now

pub lay-requires : goal.lay-requires
lay-requires c = read_short c.args.text.now (text-held c.read.ensures c.in_ok-read.was).reads

pub returns-in_err-read : goal.returns-in_err-read
returns-in_err-read c = load-refused (not-held c.open_bytes.ensures c.if-is_some.ensures) c.args.text.now _ (text-faulty c.read.ensures c.in_err-read.was) c.from_residual.result c.from_residual.ensures.1

pub returns : goal.returns
returns c = load-loaded (not-held c.open_bytes.ensures c.if-is_some.ensures) c.args.text.now (text-held c.read.ensures c.in_ok-read.was) c.lay.ensures
