-- `name_numbers::numbering::pack_names` meets its contract: the letters of the symbols passed. Assumes nothing.
use borrow.Author.Rules.{rules}
use lib.ListN.{set, length, get_or, drop}
use mathlib.Core.Bool.{cond}
use mathlib.Core.List.{List}
use Prim.Native.Nat.{ℕ, ◌≤◌}
use mathlib.Core.Path.{ap, ◌∙◌}
use native.Mathlib.Omega.{arith}
use Rattle.lexical.specs.Symbols.{Placed, run, scan, symbols}
use Rattle.lexical.specs.SymbolPromises.{letters_in, is_name, packed}
use Rattle.name_numbers.proofs.RowLaws.{filled-all, packed_step, place_inside, name-part}
use Rattle.name_numbers.proofs.numbering.pack_names.Goals as goal

pub name_letters-count-requires : goal.name_letters-count-requires
name_letters-count-requires c = omega (arith, c.from-at.ensures, place_inside c.requires c.loop-i.i c.loop-i-test.true)

pub slice_bounds-packed-end : goal.slice_bounds-packed-end
slice_bounds-packed-end c = omega (arith, c.name_letters-count.ensures.inside)

pub loop-i-preserved : goal.loop-i-preserved
loop-i-preserved c =
    let named = is_name (get_or c.args.codes.now c.loop-i.i 0) in
    let u = c.packed.ensures ∙ name-part c.args.s.now c.from-at.result c.name_letters-count.result named c.name_letters-count.ensures.letters ∙ ap (λ (at : ℕ). cond named (packed 16 (run (drop at c.args.s.now))) 0) c.from-at.ensures in
    (ap (λ (l : List ℕ). set l c.loop-i.i c.packed.result) c.loop-i.invariant.0 ∙ packed_step c.requires c.loop-i.i c.loop-i-test.true c.args.letters.now (search rules) u, omega arith)

pub returns : goal.returns
returns c = let k = c.requires.counted in let e : length (symbols (scan c.args.s.now)) ≤ c.loop-i.i = omega arith in c.loop-i.invariant.0 ∙ filled-all (λ (x : Placed). letters_in x.symbol) (symbols (scan c.args.s.now)) c.loop-i.i c.args.letters.now e
