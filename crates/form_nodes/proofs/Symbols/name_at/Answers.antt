-- `nodes::Symbols::name_at` meets its contract.
use native.Mathlib.Omega.{arith}
use Rattle.form_nodes.specs.Derivations.{name_there, name_missing}
use Rattle.form_nodes.proofs.Classes.{named}
use Rattle.form_nodes.proofs.SymbolSpans.{name-at}
use Rattle.form_nodes.proofs.Symbols.name_at.Goals as goal

pub returns-then-not-is_name : goal.returns-then-not-is_name
returns-then-not-is_name c = rw c.no_dossier.ensures (name_missing (λ h. (named c.kind_at.result c.is_name.ensures).none c.if-not-is_name.true (omega (arith, h.low, c.kind_at.ensures.is)) (omega (arith, h.high, c.kind_at.ensures.is))))

pub returns : goal.returns
returns c = name_there (name-at c.kind_at.ensures.is (named c.kind_at.result c.is_name.ensures) c.if-not-is_name.false) c.name_number.ensures
