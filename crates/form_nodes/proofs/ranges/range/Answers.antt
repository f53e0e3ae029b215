-- `ranges::range` meets its contract.
use mathlib.Core.List.{[], ◌∷◌}
use mathlib.Core.Path.{refl}
use native.Mathlib.Omega.{arith}
use Rattle.lexical.specs.Kinds.{code_of}
use Rattle.form.specs.Machine.{exact, an_end}
use Rattle.form_nodes.specs.Derivations.{EndAt}
use Rattle.form_nodes.proofs.ReadParts.{next, framed, fails, known, exits, ahead-from}
use Rattle.form_nodes.proofs.SymbolSpans.{OneOf, known-shown, whole-range}
use Rattle.lexical.specs.Kinds as kind
use Rattle.form_nodes.proofs.ranges.range.Goals as goal

pub returns-in_err-first : goal.returns-in_err-first
returns-in_err-first c = rw (exits c.from_residual.result c.from_residual.ensures.1) (record { reads = fails (framed (exact kind.up_to ∷ an_end ∷ []) (known c.in_err-first.was c.end.ensures.0.reads)); ahead = tt }, tt)

pub returns-in_err-dots : goal.returns-in_err-dots
unfolding code_of
returns-in_err-dots c = rw (exits c.from_residual-in_err-dots.result c.from_residual-in_err-dots.ensures.1) (record { reads = next (framed (exact kind.up_to ∷ an_end ∷ []) (known c.in_ok-first.was c.end.ensures.0.reads)) (fails (framed (an_end ∷ []) (known c.in_err-dots.was (c.close.ensures.reads kind.up_to refl)))); ahead = tt }, tt)

pub returns : goal.returns
unfolding code_of
returns c = let h = (known c.in_ok-first.was c.end.ensures.0.reads) in let i = (known c.in_ok-dots.was (c.close.ensures.reads kind.up_to refl)) in (record { reads = next (framed (exact kind.up_to ∷ an_end ∷ []) h) (next (framed (an_end ∷ []) i) c.end-2.ensures.0.reads); ahead = ahead-from c.args.from.at c.in_ok-dots.dots.at c.end-2.result (omega arith) c.end-2.ensures.0.ahead }, whole-range c.args.y.now.kinds.now c.args.from.at c.args.from.count c.in_ok-first.first c.in_ok-dots.dots c.end-2.result (known-shown (EndAt c.args.y.now.kinds.now c.args.from.at) c.args.from.count c.in_ok-first.was c.end.ensures.1) (known-shown (OneOf c.args.y.now.kinds.now c.in_ok-first.first.at 21) c.in_ok-first.first.count c.in_ok-dots.was c.close.ensures.shown) c.end-2.ensures.1)
