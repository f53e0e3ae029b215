-- `contents::few` meets its contract.
use native.Mathlib.Omega.{arith}
use Rattle.declarations.specs.DossierPromises.{few, over}
use Rattle.declarations.proofs.contents.few.Goals as goal

pub returns-then-limit-k : goal.returns-then-limit-k
returns-then-limit-k c = over (omega (arith, c.if-limit-k.true))

pub returns : goal.returns
returns c = few (omega (arith, c.if-limit-k.false))
