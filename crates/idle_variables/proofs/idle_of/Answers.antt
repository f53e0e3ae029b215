-- `idle_variables::idle_of` meets its contract: a bit that is set is an answer yes. Assumes nothing.
use native.Mathlib.Omega.{arith}
use Rattle.std.proofs.Common.{rules}
use Rattle.idle_variables.proofs.IdleMasks.{mask_says}
use Rattle.idle_variables.proofs.idle_of.Goals as goal

pub mask_of-requires : goal.mask_of-requires
mask_of-requires c = record { few = omega (arith, c.requires.m_bound); callable = λ k h. search (rules, h) }

pub returns : goal.returns
returns c = mask_says c.mask_of.ensures (λ k b q. search (rules, q))
