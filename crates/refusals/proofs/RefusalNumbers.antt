-- No two refusals of document 01 have one number, and each number is under 32; the code's refusal of a number. Assumes nothing.
use mathlib.Core.Path.{◌≡◌, refl, sym, ap, ◌∙◌}
use Prim.Native.Nat.{ℕ, ◌<◌}
use native.Mathlib.Omega.{arith}
use Rattle.refusals.specs.Refusals.{Refusal, number_of, long_text, unlisted_symbol, many_symbols, no_dossier, deep, many_declared, heading_differs, name_in_use, name_unknown}
use Rattle.refusals.specs.Refusals.{types_misfit, wide_type, many_bindings, large_size, zero_divisor, advance_range, short_bytes, nothing_held, something_held, check_finished, no_counterexample}
use Rattle.refusals.specs.RefusalNames.{refusal_is, refusal_numbered}
use Rattle.refusals.specs.declared.Refusal as code
use Rattle.refusals.specs.declared.Refusal.TheVariants.{LongText, UnlistedSymbol, ManySymbols, NoDossier, Deep, ManyDeclared, HeadingDiffers, NameInUse, NameUnknown, TypesMisfit, WideType, ManyBindings, LargeSize, ZeroDivisor}
use Rattle.refusals.specs.declared.Refusal.TheVariants.{AdvanceRange, ShortBytes, NothingHeld, SomethingHeld, CheckFinished, NoCounterexample}

-- the refusal that has the number n, where one has it
pub numbered : ℕ → Refusal
numbered n = refusal_is (refusal_numbered n)

record Told (r : Refusal) : Type 0 where
  small : number_of r < 32
  back : numbered (number_of r) ≡ r

told : (r : Refusal) → Told r
unfolding number_of numbered refusal_numbered
told long_text = record { small = omega arith; back = refl }
told unlisted_symbol = record { small = omega arith; back = refl }
told many_symbols = record { small = omega arith; back = refl }
told no_dossier = record { small = omega arith; back = refl }
told deep = record { small = omega arith; back = refl }
told many_declared = record { small = omega arith; back = refl }
told heading_differs = record { small = omega arith; back = refl }
told name_in_use = record { small = omega arith; back = refl }
told name_unknown = record { small = omega arith; back = refl }
told types_misfit = record { small = omega arith; back = refl }
told wide_type = record { small = omega arith; back = refl }
told many_bindings = record { small = omega arith; back = refl }
told large_size = record { small = omega arith; back = refl }
told zero_divisor = record { small = omega arith; back = refl }
told advance_range = record { small = omega arith; back = refl }
told short_bytes = record { small = omega arith; back = refl }
told nothing_held = record { small = omega arith; back = refl }
told something_held = record { small = omega arith; back = refl }
told check_finished = record { small = omega arith; back = refl }
told no_counterexample = record { small = omega arith; back = refl }

pub small-number : (r : Refusal) → number_of r < 32
small-number r = (told r).small

pub numbered-back : (r : Refusal) → numbered (number_of r) ≡ r
numbered-back r = (told r).back

pub number-decides : (r s : Refusal) → number_of r ≡ number_of s → r ≡ s
number-decides r s e = sym (numbered-back r) ∙ ap numbered e ∙ numbered-back s

-- the same of the code's names
pub refusal-back : (r : code.Refusal) → refusal_numbered (number_of (refusal_is r)) ≡ r
unfolding number_of refusal_numbered
refusal-back LongText = refl
refusal-back UnlistedSymbol = refl
refusal-back ManySymbols = refl
refusal-back NoDossier = refl
refusal-back Deep = refl
refusal-back ManyDeclared = refl
refusal-back HeadingDiffers = refl
refusal-back NameInUse = refl
refusal-back NameUnknown = refl
refusal-back TypesMisfit = refl
refusal-back WideType = refl
refusal-back ManyBindings = refl
refusal-back LargeSize = refl
refusal-back ZeroDivisor = refl
refusal-back AdvanceRange = refl
refusal-back ShortBytes = refl
refusal-back NothingHeld = refl
refusal-back SomethingHeld = refl
refusal-back CheckFinished = refl
refusal-back NoCounterexample = refl
