-- `held_checks::number` meets its contract: the bytes with zeros behind them are the library's eight. Assumes nothing.
use Rattle.held_checks.proofs.ByteSteps.{number-read}
use Rattle.held_checks.proofs.number.Goals as goal

pub returns : goal.returns
returns c = number-read c.args.bytes.now _ c.from_le_bytes.result c.requires c.copy_from_slice.ensures.after c.from_le_bytes.ensures
