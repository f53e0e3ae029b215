-- `check` meets its contract. Assumes nothing.
use mathlib.Core.Path.{refl}
use Rattle.type_rules.specs.Passes.{refused_key}
use Rattle.type_rules.proofs.FaultOrder.{no-zero}
use Rattle.std.proofs.lemmas.Result.{err_from_is_err_and}
use Rattle.names.proofs.WholePass.{check-given, check-one, check-two, check_later, later-faulty, later-seen}
use Rattle.names.proofs.check.Goals as goal

pub returns-in_err-give : goal.returns-in_err-give
returns-in_err-give c = let p = err_from_is_err_and c.from_residual.result c.from_residual.ensures.1 in rw (p.1, p.2) (check-given c.args.made.now.numbers.now c.args.made.now.end c.args.at.now.givens c.args.at.now.abstracts c.args.at.now.concretes c.args.at.now.ainit c.args.at.now.operations _ _ c.between-first.ensures _ _ _ _ c.requires c.in_err-give.ensures (no-zero _))

pub returns-in_err-state : goal.returns-in_err-state
returns-in_err-state c = let p = err_from_is_err_and c.from_residual-in_err-state.result c.from_residual-in_err-state.ensures.1 in rw (p.1, p.2) (check-one c.args.made.now.numbers.now c.args.made.now.end c.args.at.now.givens c.args.at.now.abstracts c.args.at.now.concretes c.args.at.now.ainit c.args.at.now.operations _ _ c.between-first.ensures _ _ _ 0 c.requires c.in_ok-give.ensures refl _ c.between-one.ensures _ _ c.in_err-state.ensures (no-zero _))

pub returns-in_err-state-2 : goal.returns-in_err-state-2
returns-in_err-state-2 c = let p = err_from_is_err_and c.from_residual-in_err-state-2.result c.from_residual-in_err-state-2.ensures.1 in rw (p.1, p.2) (check-two c.args.made.now.numbers.now c.args.made.now.end c.args.at.now.givens c.args.at.now.abstracts c.args.at.now.concretes c.args.at.now.ainit c.args.at.now.operations _ _ c.between-first.ensures _ _ _ 0 c.requires c.in_ok-give.ensures refl _ c.between-one.ensures _ 0 c.in_ok-state.ensures refl _ c.between-two.ensures _ _ c.in_err-state-2.ensures (no-zero _))

pub returns-in_err-conditions : goal.returns-in_err-conditions
returns-in_err-conditions c =
    let p = err_from_is_err_and c.from_residual-in_err-conditions.result c.from_residual-in_err-conditions.ensures.1 in
    rw (p.1, p.2) (check_later c.args.made.now.numbers.now c.args.made.now.end c.args.at.now.givens c.args.at.now.abstracts c.args.at.now.concretes c.args.at.now.ainit c.args.at.now.operations _ _ c.between-first.ensures _ _ _ 0 c.requires c.in_ok-give.ensures refl _ c.between-one.ensures _ 0 c.in_ok-state.ensures refl _ c.between-two.ensures _ 0 c.in_ok-state-2.ensures refl _ _ c.between-three.ensures c.between-last.ensures _ (later-faulty _ _ _ _ _ _ _ _ _ _ c.variables_of.ensures c.variables_of-2.ensures c.in_err-conditions.ensures (no-zero _)))

pub returns : goal.returns
returns c = check_later c.args.made.now.numbers.now c.args.made.now.end c.args.at.now.givens c.args.at.now.abstracts c.args.at.now.concretes c.args.at.now.ainit c.args.at.now.operations _ _ c.between-first.ensures _ _ _ 0 c.requires c.in_ok-give.ensures refl _ c.between-one.ensures _ 0 c.in_ok-state.ensures refl _ c.between-two.ensures _ 0 c.in_ok-state-2.ensures refl _ _ c.between-three.ensures c.between-last.ensures (refused_key c.operations.result) (later-seen c.between-three.result.now c.between-last.result.now c.between-one.result.now c.between-two.result.now _ _ _ _ _ 0 c.variables_of.ensures c.variables_of-2.ensures c.in_ok-conditions.ensures refl (refused_key c.operations.result) c.operations.ensures)
