-- `reading::sizes_fault` meets its contract.
use mathlib.Core.Path.{subst}
use mathlib.Core.List.{List}
use Prim.Native.Nat.{ℕ}
use borrow.Author.Rules.{rules}
use Rattle.type_rules.specs.TypesByNumber.{fault_key}
use Rattle.limits.specs.DossierSizesByNumber.{MeasuresSeen}
use Rattle.reader.proofs.LimitPasses.{sizes-found}
use Rattle.reader.proofs.sizes_fault.Goals as goal

pub returns : goal.returns
returns c =
    sizes-found c.args.made.now.numbers.now _ _ _ _ 16384 _ c.parts_of-parts.ensures.1 (search rules)
    (subst (λ (nodes : List ℕ). MeasuresSeen nodes c.parts_of-parts.result.spans.now c.parts_of-parts.result.operations 16384 (fault_key c.measures.result)) c.parts_of-parts.ensures.0 c.measures.ensures)
