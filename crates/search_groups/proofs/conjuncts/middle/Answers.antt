-- `conjuncts::middle` meets its contract. Assumes nothing.
use Prim.Native.Nat.{ℕ, ◌+◌, ◌-◌}
use mathlib.Core.Path.{◌≡◌, sym, ap, ◌∙◌}
use mathlib.Core.Bool.{Bool, ◌&&◌}
use lib.Dec.{leb}
use lib.ListN.{get_or, length}
use Rattle.std.specs.Bool.{then_some}
use Rattle.lexical.proofs.RangeTests.{ranged}
use native.Mathlib.Omega.{arith}
use Rattle.search_groups.proofs.ConjunctTables.{middle-none, middle-picked}
use Rattle.search_groups.proofs.conjuncts.middle.Goals as goal
use Rattle.search_groups.proofs.conjuncts.middle.Goals.{then-table-at-ne-CONNECTED-via-then-table-at-ne-CONNECTED}
use Rattle.search_groups.proofs.conjuncts.middle.Goals.{then-table-at-ne-CONNECTED-via-else-table-at-ne-CONNECTED+then-table-at-ne-AND}

pub returns-in_err-at : goal.returns-in_err-at
returns-in_err-at c =
    let few = rw c.in_err-at.was at c.checked_sub.ensures in
    rw c.from_residual.ensures (middle-none c.args.table.now c.args.from (length c.args.table.now) (λ n m l h. let e = l.long in few (omega arith)))

pub returns-then-table-at-ne-CONNECTED : goal.returns-then-table-at-ne-CONNECTED
returns-then-table-at-ne-CONNECTED c =
    let t = c.args.table.now in
    let at = rw c.in_ok-at.was at c.checked_sub.ensures in
    let s = ap (λ (i : ℕ). get_or t (i + 3) 0) at.1 in
    let a = ap (λ (i : ℕ). get_or t (i + 1) 0) at.1 in
    let i : length t - 4 + 3 ≡ length t - 1 = omega (arith, at.0) in
    let j : length t - 4 + 1 ≡ length t - 3 = omega (arith, at.0) in
    let x = ap (λ (k : ℕ). get_or t k 0) i in
    let y = ap (λ (k : ℕ). get_or t k 0) j in
    middle-none t c.args.from (length t) (λ n m l h. elim c.then-table-at-ne-CONNECTED.branch [
      | then-table-at-ne-CONNECTED-via-then-table-at-ne-CONNECTED w ↦ omega arith
      | then-table-at-ne-CONNECTED-via-else-table-at-ne-CONNECTED+then-table-at-ne-AND w ↦ omega arith
    ])

pub returns : goal.returns
returns c =
    let t = c.args.table.now in
    let m = c.from-m.result in
    let at = rw c.in_ok-at.was at c.checked_sub.ensures in
    let i : length t - 4 + 3 ≡ length t - 1 = omega (arith, at.0) in
    let j : length t - 4 + 1 ≡ length t - 3 = omega (arith, at.0) in
    let k : length t - 4 + 2 ≡ length t - 2 = omega (arith, at.0) in
    let s = sym (ap (λ (n : ℕ). get_or t (n + 3) 0) at.1 ∙ ap (λ (n : ℕ). get_or t n 0) i) ∙ c.if-table-at-ne-CONNECTED.false in
    let a = sym (ap (λ (n : ℕ). get_or t (n + 1) 0) at.1 ∙ ap (λ (n : ℕ). get_or t n 0) j) ∙ c.if-table-at-ne-AND.false in
    let b = ap (λ (n : ℕ). get_or t (n + 2) 0) at.1 ∙ ap (λ (n : ℕ). get_or t n 0) k in
    let within = c.contains.ensures.value ∙ ranged m c.new.ensures.start c.new.ensures.end c.new.ensures.exhausted in
    middle-picked t c.args.from (length t) m c.then_some.result at.0 (c.then_some.ensures ∙ ap (λ (b : Bool). then_some b m) (within ∙ ap (λ (n : ℕ). leb c.args.from m && leb m n) at.1)) s a (c.from-m.ensures ∙ b)
