-- `nodes::put_domain` meets its contract.
use native.Mathlib.Omega.{arith}
use Rattle.form_nodes.proofs.Classes.{named}
use Rattle.form_nodes.proofs.NodeNumbers.{rewritten, name-domain, range-domain}
use Rattle.form_nodes.proofs.nodes.put_domain.Goals as goal

pub returns-then-not-is_name : goal.returns-then-not-is_name
returns-then-not-is_name c = rewritten (range-domain c.args.kinds.now c.args.values.now c.args.at (λ l h. (named c.kind_at-k.result c.is_name.ensures).none c.if-not-is_name.true (omega (arith, c.kind_at-k.ensures.is)) (omega (arith, c.kind_at-k.ensures.is)))) c.put_range.ensures

pub returns : goal.returns
returns c = rewritten (name-domain c.args.kinds.now c.args.values.now c.args.at (omega (arith, c.kind_at-k.ensures.is, (named c.kind_at-k.result c.is_name.ensures).name c.if-not-is_name.false)) (omega (arith, c.kind_at-k.ensures.is, (named c.kind_at-k.result c.is_name.ensures).name c.if-not-is_name.false)) c.name_number-x.ensures) c.put.ensures
