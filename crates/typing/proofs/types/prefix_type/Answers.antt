-- `types::prefix_type` meets its contract. Assumes nothing.
use native.Mathlib.Omega.{arith}
use Rattle.type_rules.proofs.TypeNumbers.{dom-type, ran-type, number-type}
use Rattle.typing.proofs.types.prefix_type.Goals as goal

pub returns-in-63 : goal.returns-in-63
returns-in-63 c = dom-type c.args.o c.args.k _ c.in-63.is c.dom_of.ensures

pub returns-in-64 : goal.returns-in-64
returns-in-64 c = ran-type c.args.o c.args.k _ c.in-64.is c.ran_of.ensures

pub returns-in_default : goal.returns-in_default
returns-in_default c = number-type c.args.o c.args.k (λ s. omega arith) (λ s. omega arith)
