-- `lexical::classes::run_from` meets its contract: the bytes of the rest that pass in front are the run, and past the end there are none. Assumes nothing.
use mathlib.Core.Path.{ap, sym, ◌∙◌}
use mathlib.Core.Logic.{inl, inr}
use mathlib.Core.List.{List}
use Prim.Native.Nat.{ℕ, ◌-◌, ◌≤◌}
use native.Mathlib.Omega.{arith}
use lib.ListN.{length, drop, length-drop, drop_of_length-le}
use lib.Seq.{take_all}
use Rattle.std.proofs.Common.{rules, Iter}
use Rattle.std.proofs.lemmas.Iterator.{YieldsList-from_slice}
use Rattle.std.proofs.lemmas.Iterator.Consumers.{count_from_yields_List}
use Rattle.std.proofs.lemmas.Iterator.Search.{YieldsList-from_take_while}
use Rattle.lexical.specs.Symbols.{run}
use Rattle.lexical.proofs.ByteLaws.{inside, run-front}
use Rattle.lexical.proofs.classes.run_from.Goals as goal

pub returns-in_default : goal.returns-in_default
unfolding run
returns-in_default c =
    let past : length c.args.s.now ≤ c.args.at = elim c.in_default.ensures.lookup.0 [ inl w ↦ omega (arith, w) | inr w ↦ absurd (omega (arith, w)) ] in
    sym (ap (λ (w : List ℕ). length (run w)) (drop_of_length-le c.args.s.now past))

pub returns : goal.returns
returns c =
    let d = length-drop c.args.at c.args.s.now in
    let short : length (drop c.args.at c.args.s.now) ≤ length c.args.s.now - c.args.at = omega (arith, d) in
    let e = c.iter.ensures.rest ∙ c.in-Some.ensures.lookup.0.2 ∙ take_all _ (drop c.args.at c.args.s.now) short in
    count_from_yields_List _ c.count.result c.count.ensures.ran (YieldsList-from_take_while _ inside (YieldsList-from_slice (drop c.args.at c.args.s.now) (ap (λ (i : Iter ℕ). i.rest.now) c.take_while.ensures.source ∙ e)) (search rules) (search rules) (λ x b q k. (search rules, search rules))) ∙ run-front (drop c.args.at c.args.s.now)
