-- The refusals of the code by their names, and a fault with its place.
use Rattle.std.specs.Prelude.{[], ◌∷◌, ℕ, get_or}
use Rattle.refusals.specs.Refusals as definition
use Rattle.refusals.specs.Refusals.{fault}
use Rattle.refusals.specs.declared.Refusal.{Refusal}
use Rattle.refusals.specs.declared.Refusal.TheVariants.{LongText, UnlistedSymbol, ManySymbols, NoDossier, Deep, ManyDeclared, HeadingDiffers, NameInUse, NameUnknown, TypesMisfit, WideType, ManyBindings, LargeSize, ZeroDivisor}
use Rattle.refusals.specs.declared.Refusal.TheVariants.{AdvanceRange, ShortBytes, NothingHeld, SomethingHeld, CheckFinished, NoCounterexample}
use Rattle.refusals.specs.declared.Fault.{Fault}

abbrev pub refusal_is : Refusal → definition.Refusal
refusal_is LongText = definition.long_text
refusal_is UnlistedSymbol = definition.unlisted_symbol
refusal_is ManySymbols = definition.many_symbols
refusal_is NoDossier = definition.no_dossier
refusal_is Deep = definition.deep
refusal_is ManyDeclared = definition.many_declared
refusal_is HeadingDiffers = definition.heading_differs
refusal_is NameInUse = definition.name_in_use
refusal_is NameUnknown = definition.name_unknown
refusal_is TypesMisfit = definition.types_misfit
refusal_is WideType = definition.wide_type
refusal_is ManyBindings = definition.many_bindings
refusal_is LargeSize = definition.large_size
refusal_is ZeroDivisor = definition.zero_divisor
refusal_is AdvanceRange = definition.advance_range
refusal_is ShortBytes = definition.short_bytes
refusal_is NothingHeld = definition.nothing_held
refusal_is SomethingHeld = definition.something_held
refusal_is CheckFinished = definition.check_finished
refusal_is NoCounterexample = definition.no_counterexample

-- the refusal that has the number n; LongText where the number has none
unfoldable pub refusal_numbered : ℕ → Refusal
refusal_numbered n =
    get_or
    (LongText ∷ LongText ∷ UnlistedSymbol ∷ ManySymbols ∷ NoDossier ∷ Deep ∷ ManyDeclared ∷ HeadingDiffers ∷ NameInUse ∷ NameUnknown ∷ TypesMisfit ∷ WideType
    ∷ ManyBindings ∷ LargeSize ∷ ZeroDivisor ∷ AdvanceRange ∷ ShortBytes ∷ LongText ∷ LongText ∷ LongText ∷ LongText ∷ NothingHeld ∷ SomethingHeld ∷ CheckFinished ∷ NoCounterexample ∷ [])
    n LongText

abbrev pub fault_is : Fault → definition.Fault
fault_is f = fault f.place (refusal_is f.refusal)
