-- `name_numbers::numbering::walk` meets its contract: the walk from the top is the walk from here, with the bits that are left. Assumes nothing.
use Prim.Native.Nat.{suc, ℕ, ◌+◌, ◌-◌}
use mathlib.Core.Path.{◌≡◌, refl, sym, ap, ◌∙◌}
use native.Mathlib.Omega.{arith}
use lib.ListN.{get_or}
use Rattle.lexical.specs.SymbolPromises.{walk_from}
use Rattle.name_numbers.proofs.TreeLaws.{walk-free, walk_at, walk-on, walk_none}
use Rattle.name_numbers.proofs.numbering.walk.Goals as goal

pub loop-d-init : goal.loop-d-init
loop-d-init c = (refl, omega arith, omega arith)

pub returns-in_default : goal.returns-in_default
returns-in_default c = sym (c.loop-d.invariant.0 ∙ ap (λ (f : ℕ). walk_from f c.args.letters.now c.args.tree.now (get_or c.args.letters.now c.args.i 0) c.loop-d.p c.loop-d.slot) (let e : 128 - c.loop-d.d ≡ suc (128 - (c.loop-d.d + 1)) = omega arith in e) ∙ walk-free c.args.letters.now (get_or c.args.letters.now c.args.i 0) (128 - (c.loop-d.d + 1)) c.args.tree.now c.loop-d.p c.loop-d.slot (let q = rw c.in_default.is at c.checked_sub.ensures in omega (arith, c.from.ensures, q)))

pub same_letters-requires : goal.same_letters-requires
same_letters-requires c = let q = rw c.in-Some.is at c.checked_sub.ensures in omega (arith, c.requires.1 c.loop-d.slot, c.from.ensures, q.0, q.1)

pub returns-then-same_letters : goal.returns-then-same_letters
returns-then-same_letters c = sym (c.loop-d.invariant.0 ∙ ap (λ (f : ℕ). walk_from f c.args.letters.now c.args.tree.now (get_or c.args.letters.now c.args.i 0) c.loop-d.p c.loop-d.slot) (let e : 128 - c.loop-d.d ≡ suc (128 - (c.loop-d.d + 1)) = omega arith in e) ∙ walk_at c.args.letters.now (get_or c.args.letters.now c.args.i 0) (128 - (c.loop-d.d + 1)) c.args.tree.now c.loop-d.p c.loop-d.slot c.in-Some.m (let q = rw c.in-Some.is at c.checked_sub.ensures in let e : get_or c.args.tree.now c.loop-d.slot 0 ≡ suc c.in-Some.m = omega (arith, c.from.ensures, q.0, q.1) in e) (sym c.same_letters.ensures ∙ c.if-same_letters.true))

pub overflow_mul-slot : goal.overflow_mul-slot
overflow_mul-slot c = let q = rw c.in-Some.is at c.checked_sub.ensures in omega (arith, c.requires.1 c.loop-d.slot, c.from.ensures, q.0, q.1)

pub overflow_add-slot : goal.overflow_add-slot
overflow_add-slot c = let q = rw c.in-Some.is at c.checked_sub.ensures in omega (arith, c.requires.1 c.loop-d.slot, c.from.ensures, q.0, q.1)

pub loop-d-preserved : goal.loop-d-preserved
loop-d-preserved c = (c.loop-d.invariant.0 ∙ ap (λ (f : ℕ). walk_from f c.args.letters.now c.args.tree.now (get_or c.args.letters.now c.args.i 0) c.loop-d.p c.loop-d.slot) (let e : 128 - c.loop-d.d ≡ suc (128 - (c.loop-d.d + 1)) = omega arith in e) ∙ walk-on c.args.letters.now (get_or c.args.letters.now c.args.i 0) (128 - (c.loop-d.d + 1)) c.args.tree.now c.loop-d.p c.loop-d.slot c.in-Some.m (let q = rw c.in-Some.is at c.checked_sub.ensures in let e : get_or c.args.tree.now c.loop-d.slot 0 ≡ suc c.in-Some.m = omega (arith, c.from.ensures, q.0, q.1) in e) (sym c.same_letters.ensures ∙ c.if-same_letters.false), omega arith, let q = rw c.in-Some.is at c.checked_sub.ensures in omega (arith, c.requires.1 c.loop-d.slot, c.from.ensures, q.0, q.1))

pub returns : goal.returns
returns c = sym (c.loop-d.invariant.0 ∙ ap (λ (f : ℕ). walk_from f c.args.letters.now c.args.tree.now (get_or c.args.letters.now c.args.i 0) c.loop-d.p c.loop-d.slot) (let e : 128 - c.loop-d.d ≡ 0 = omega arith in e) ∙ walk_none c.args.letters.now (get_or c.args.letters.now c.args.i 0) c.args.tree.now c.loop-d.p c.loop-d.slot)
