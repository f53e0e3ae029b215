-- `nodes::name_number` meets its contract.
use mathlib.Core.Path.{◌∙◌}
use native.Mathlib.Omega.{arith}
use Rattle.form_nodes.proofs.NodeNumbers.{large-name, no_name, some-name}
use Rattle.form_nodes.proofs.nodes.name_number.Goals as goal
use Rattle.form_nodes.proofs.nodes.name_number.Goals.{then-x-gt-LAST_SYMBOL-via-then-x-gt-LAST_SYMBOL, then-x-gt-LAST_SYMBOL-via-else-x-gt-LAST_SYMBOL+then-k-lt-PLAIN}

pub returns-then-x-gt-LAST_SYMBOL : goal.returns-then-x-gt-LAST_SYMBOL
returns-then-x-gt-LAST_SYMBOL c =
    elim c.then-x-gt-LAST_SYMBOL.branch [
      | then-x-gt-LAST_SYMBOL-via-then-x-gt-LAST_SYMBOL w ↦
          let large = w.if-x-gt-LAST_SYMBOL.true in large-name c.args.kinds.now c.args.values.now c.args.at (omega (arith, c.at_or-x.ensures))
      | then-x-gt-LAST_SYMBOL-via-else-x-gt-LAST_SYMBOL+then-k-lt-PLAIN w ↦
          let few = w.if-x-gt-LAST_SYMBOL.false in
          let low = w.if-k-lt-PLAIN.true in
          no_name c.args.kinds.now c.args.values.now c.args.at (omega (arith, c.at_or-x.ensures)) (omega (arith, c.kind_at-k.ensures.is))
    ]

pub returns : goal.returns
returns c = some-name c.args.kinds.now c.args.values.now c.args.at (c.from.ensures ∙ c.kind_at-k.ensures.is) c.at_or-x.ensures (omega arith) (omega arith)
