-- `carriers::partial_mask` meets its contract: rows with at least no pair. Assumes nothing.
use native.Mathlib.Omega.{arith}
use Rattle.carriers.proofs.partial_mask.Goals as goal

pub returns : goal.returns
returns c = (λ h. c.mask_at.ensures.0 (omega arith) h, λ h. c.mask_at.ensures.1 h)
