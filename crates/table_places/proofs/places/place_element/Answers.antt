-- `places::place_element` meets its contract. Assumes nothing.
use lib.ListN.{set}
use Prim.Native.Nat.{ℕ}
use mathlib.Core.Path.{refl, ap, ◌∙◌}
use native.Mathlib.Omega.{arith}
use Rattle.table_places.proofs.places.place_element.Goals as goal

pub returns-then-n-eq-GIVEN : goal.returns-then-n-eq-GIVEN
returns-then-n-eq-GIVEN c = record { title = λ e. (refl, refl); element = λ e. absurd (e c.if-n-eq-GIVEN.true); near = (omega arith, omega arith) }

pub returns : goal.returns
returns c = record { title = λ e. absurd (c.if-n-eq-GIVEN.false e); element = λ e. (c.put.ensures ∙ ap (λ (n : ℕ). set c.args.places.now n c.args.j) c.from.ensures, refl); near = (omega arith, omega arith) }
