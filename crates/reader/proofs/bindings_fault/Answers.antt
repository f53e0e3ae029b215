-- `reading::bindings_fault` meets its contract.
use mathlib.Core.Path.{subst}
use mathlib.Core.List.{List}
use Prim.Native.Nat.{ℕ}
use borrow.Author.Rules.{rules}
use Rattle.type_rules.specs.TypesByNumber.{fault_key}
use Rattle.binding_counts.specs.BindingsByNumber.{BindingsSeen}
use Rattle.reader.proofs.LimitPasses.{bindings-found}
use Rattle.reader.proofs.bindings_fault.Goals as goal

pub returns : goal.returns
returns c =
    bindings-found c.args.made.now.numbers.now _ _ _ _ _ _ _ _ c.given_table.ensures (search rules) c.parts_of-parts.ensures.1
    (subst (λ (nodes : List ℕ). BindingsSeen nodes c.parts_of-parts.result.spans.now c.parts_of-parts.result.operations c.given_table.new.names c.given_table.new.sizes (fault_key c.bindings.result)) c.parts_of-parts.ensures.0 c.bindings.ensures)
