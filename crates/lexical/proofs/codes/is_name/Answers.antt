-- `codes::is_name` meets its contract.
use native.Mathlib.Omega.{arith}
use Rattle.lexical.proofs.NameCodes.{name-yes, name_below, name-above}
use Rattle.lexical.proofs.codes.is_name.Goals as goal

pub returns-in-2-to-5 : goal.returns-in-2-to-5
returns-in-2-to-5 c = name-yes c.args.code (omega arith) (omega arith)

pub returns-in_default : goal.returns-in_default
returns-in_default c = name_below c.args.code (omega arith)

pub returns-in_default-2 : goal.returns-in_default-2
returns-in_default-2 c = name-above c.args.code (omega arith)
