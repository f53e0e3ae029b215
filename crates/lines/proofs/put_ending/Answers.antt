-- `lines::put_ending` meets its contract. Assumes nothing.
use Rattle.lexical.specs.SymbolPromises.{ending_is}
use Rattle.lines.proofs.LineLaws.{unended, ended}
use Rattle.lines.proofs.put_ending.Goals as goal

pub returns-in_default : goal.returns-in_default
returns-in_default c = unended (ending_is c.args.ending) c.byte_of.ensures c.in_default.is

pub returns-in-Some : goal.returns-in-Some
returns-in-Some c = ended (ending_is c.args.ending) c.byte_of.ensures c.in-Some.is c.put.ensures
