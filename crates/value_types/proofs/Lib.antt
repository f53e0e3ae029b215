pub mod FaultlessParts
pub mod TypeTests
pub mod SetBounds
pub mod Reach
pub mod Binders
pub mod TypedOperations
pub mod TypedTerms
pub mod Magnitudes
pub mod SizedTerms
pub mod Shapes
pub mod GivenTitles
pub mod DeclaredCarriers
pub mod FineContexts
pub mod ScannedNumbers
pub mod SymbolNumbers
-- what crates above name of crates below
pub use Rattle.meaning.proofs.ConjunctsHold as MeaningConjunctsHold
pub use Rattle.meaning.proofs.Distinct as MeaningDistinct
pub use Rattle.meaning.proofs.Frame as MeaningFrame
pub use Rattle.meaning.proofs.Members as MeaningMembers
pub use Rattle.meaning.proofs.UpwardNumbers as MeaningUpwardNumbers
pub use Rattle.meaning.proofs.StaticRulesTypePlaces as StaticRulesTypePlaces
pub use Rattle.meaning.proofs.StaticRulesSameTypes as StaticRulesSameTypes
pub use Rattle.meaning.proofs.LexicalBooleanTests as LexicalBooleanTests
pub use Rattle.refusals.proofs.FaultLists as RefusalsFaultLists
