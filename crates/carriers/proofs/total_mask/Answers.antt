-- `carriers::total_mask` meets its contract: rows with at least one pair. Assumes nothing.
use native.Mathlib.Omega.{arith}
use Rattle.carriers.proofs.total_mask.Goals as goal

pub returns : goal.returns
returns c = (λ a h. c.mask_at.ensures.0 (omega arith) h, λ h. c.mask_at.ensures.1 h, λ h. c.mask_at.ensures.2 (omega arith))
