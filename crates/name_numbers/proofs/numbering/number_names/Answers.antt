-- `name_numbers::numbering::number_names` meets its contract: the tree of the names passed, and their values. Assumes nothing.
use mathlib.Core.List.{List}
use borrow.Author.Rules.{rules}
use lib.ListN.{set, length, get_or}
use Prim.Native.Nat.{ℕ, ◌<◌, ◌≤◌}
use mathlib.Core.Path.{◌≡◌, refl, ap, ◌∙◌, sym, subst}
use native.Mathlib.Omega.{arith}
use Rattle.std.specs.Prelude.{Option}
use Rattle.std.proofs.lemmas.List.{set-get_or}
use Rattle.lexical.specs.SymbolPromises.{IsFirst}
use Rattle.name_numbers.specs.RecentNames.{NumberOf}
use Rattle.lexical.specs.Symbols.{Placed, scan, symbols}
use Rattle.lexical.specs.Promises.{value_in, number_in}
use Rattle.name_numbers.proofs.NumberingLaws.{tree-start}
use Rattle.name_numbers.proofs.RecentLaws.{recent-start}
use Rattle.name_numbers.proofs.RowLaws.{filled-step, filled-all, filled-after, value-at}
use Rattle.name_numbers.proofs.SoundLaws.{map_at, nowhere}
use Rattle.name_numbers.proofs.numbering.number_names.Goals.{in-Some, in_default}
use Rattle.name_numbers.proofs.numbering.number_names.Goals as goal

pub loop-i-init : goal.loop-i-init
loop-i-init c = (tree-start c.pack_names.new.letters 8193, refl, omega arith, recent-start 256)

pub numbered-requires : goal.numbered-requires
numbered-requires c = (c.loop-i.invariant.0, (let f = c.requires.0.few in omega arith), c.loop-i.invariant.3)

pub loop-i-preserved : goal.loop-i-preserved
loop-i-preserved c = let k = c.requires.0.counted in let f = c.requires.0.few in let m : length c.args.values.now ≡ 4096 = search rules in
    let t : c.loop-i.i < length (symbols (scan c.args.s.now)) = omega arith in
    let u : length (symbols (scan c.args.s.now)) ≤ length c.args.values.now = omega arith in
    let o : get_or c.loop-i.values c.loop-i.i 0 ≡ number_in (get_or (symbols (scan c.args.s.now)) c.loop-i.i nowhere).symbol = ap (λ (l : List ℕ). get_or l c.loop-i.i 0) c.loop-i.invariant.1 ∙ filled-after (λ (x : Placed). value_in (symbols (scan c.args.s.now)) x.symbol) (symbols (scan c.args.s.now)) c.args.values.now c.loop-i.i (omega arith) ∙ c.requires.1 c.loop-i.i c.loop-i-test.true ∙ map_at (λ (x : Placed). number_in x.symbol) (symbols (scan c.args.s.now)) c.loop-i.i t in
    let step = λ (v : ℕ) (p : get_or c.pack_names.new.letters c.loop-i.i 0 ≡ 0 → v ≡ get_or c.loop-i.values c.loop-i.i 0) (q : (get_or c.pack_names.new.letters c.loop-i.i 0 ≡ 0 → ⊥) → IsFirst c.pack_names.new.letters c.loop-i.i v). ap (λ (l : List ℕ). set l c.loop-i.i v) c.loop-i.invariant.1 ∙ filled-step (λ (x : Placed). value_in (symbols (scan c.args.s.now)) x.symbol) (symbols (scan c.args.s.now)) c.loop-i.i c.args.values.now v t u (value-at c.args.s.now _ c.pack_names.ensures c.loop-i.i t o p q) in (
      c.numbered.ensures.0,
      elim c.match-numbered.branch [
        | in-Some w ↦ let n = subst (λ (x : Option ℕ). NumberOf c.pack_names.new.letters c.loop-i.i x) w.in-Some.is c.numbered.ensures.1 in w.values-is ∙ step w.in-Some.m (λ z. absurd (n.0 z)) (λ z. n.1)
        | in_default w ↦ let n = subst (λ (x : Option ℕ). NumberOf c.pack_names.new.letters c.loop-i.i x) w.in_default.is c.numbered.ensures.1 in w.values-is ∙ sym (set-get_or c.loop-i.values c.loop-i.i 0) ∙ step (get_or c.loop-i.values c.loop-i.i 0) (λ z. refl) (λ z. absurd (z n))
      ],
      omega arith,
      c.numbered.ensures.2,
    )

pub returns : goal.returns
returns c = let k = c.requires.0.counted in c.loop-i.invariant.1 ∙ filled-all (λ (x : Placed). value_in (symbols (scan c.args.s.now)) x.symbol) (symbols (scan c.args.s.now)) c.loop-i.i c.args.values.now (omega arith)
