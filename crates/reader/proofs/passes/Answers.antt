-- `passes` meets its contract: the passes one behind the other.
use mathlib.Core.Path.{refl, sym, ◌∙◌}
use Rattle.std.proofs.lemmas.Result.{err_from_is_err_and}
use Rattle.type_rules.specs.TypesByNumber.{fault_key}
use Rattle.type_rules.proofs.FaultOrder.{no-zero}
use Rattle.reader.proofs.LaterPasses.{names-decide, bindings-decide, sizes-decide}
use Rattle.reader.proofs.passes.Goals as goal

pub returns-in_err-names_pass : goal.returns-in_err-names_pass
returns-in_err-names_pass c =
    let p = err_from_is_err_and c.from_residual.result c.from_residual.ensures.1 in
    rw (p.1, p.2) (names-decide c.args.made.now.numbers.now c.args.made.now.end _ c.in_err-names_pass.ensures (no-zero _))

pub returns-in_err-all_well : goal.returns-in_err-all_well
returns-in_err-all_well c =
    let p = err_from_is_err_and c.from_residual-in_err-all_well.result c.from_residual-in_err-all_well.ensures.1 in
    rw (p.1, p.2) (bindings-decide c.args.made.now.numbers.now c.args.made.now.end 0 c.in_ok-names_pass.ensures refl _
    (λ text starts n d st e. c.in_err-all_well.ensures ∙ c.bindings_fault.ensures text starts n d st e) (no-zero _))

pub returns : goal.returns
returns c = sizes-decide c.args.made.now.numbers.now c.args.made.now.end 0 c.in_ok-names_pass.ensures refl (fault_key c.bindings_fault.result) c.bindings_fault.ensures (sym c.in_ok-all_well.ensures) _
    (λ text starts n d st e. c.all_well-2.ensures ∙ c.sizes_fault.ensures text starts n d st e)
