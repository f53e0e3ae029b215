-- `conjuncts::noted` meets its contract: of each group the larger of what was found and what the node has. Assumes nothing.
use Prim.Native.Nat.{ℕ}
use native.Mathlib.Omega.{arith}
use Rattle.search_groups.proofs.ConjunctScan.{noted-none, slot-one}
use Rattle.search_groups.proofs.conjuncts.noted.Goals as goal

pub returns-then-k-ne-SLOT : goal.returns-then-k-ne-SLOT
returns-then-k-ne-SLOT c = noted-none c.args.k c.args.a c.args.l (λ e. omega arith)

pub returns : goal.returns
returns c =
    let one = λ (base n : ℕ). slot-one c.args.k c.args.a base n c.if-k-ne-SLOT.false in
    record {
      abstracts = omega (arith, c.max.ensures, c.rank.ensures, one 0 8);
      concretes = omega (arith, c.max-2.ensures, c.rank-2.ensures, one 8 8);
      inputs = omega (arith, c.max-3.ensures, c.rank-3.ensures, one 16 3);
      outputs = omega (arith, c.max-4.ensures, c.rank-4.ensures, one 19 3);
      cprimed = omega (arith, c.max-5.ensures, c.rank-5.ensures, one 22 8);
      aprimed = omega (arith, c.max-6.ensures, c.rank-6.ensures, one 30 8);
    }
