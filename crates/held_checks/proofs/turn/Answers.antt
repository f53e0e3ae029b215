-- `held_checks::turn` meets its contract: the place is written over the old one. Assumes nothing.
use mathlib.Core.Path.{ap, ◌∙◌}
use Prim.Native.Nat.{ℕ}
use lib.ListN.{set, length-set}
use Rattle.table_nodes.specs.TableWalkPromises.{patch}
use Rattle.held_checks.specs.HeldBytes.{little_endian}
use Rattle.held_checks.specs.StepPromises.{mark_byte}
use native.Mathlib.Omega.{arith}
use Rattle.held_checks.proofs.ByteSteps.{number-laid}
use Rattle.held_checks.proofs.LayoutLaws.{turned}
use Rattle.held_checks.proofs.turn.Goals as goal

pub returns : goal.returns
returns c = turned c.args.held.now _ c.args.place (mark_byte c.args.mark) (number-laid 8 8 c.args.place (set c.args.held.now 0 c.into.result) (omega (arith, length-set c.args.held.now 0 c.into.result)) c.put_number.ensures ∙ ap (λ (k : ℕ). patch 8 (little_endian 8 c.args.place) (set c.args.held.now 0 k)) c.into.ensures)
