-- The evaluation of the table by numbers gives the values of the definitions.
pub mod OperatorsAgree
pub mod RangesAgree
pub mod StandingNodes
pub mod SlotNames
pub mod NodeValues
pub mod TypedCodes
pub mod SoundTrees
pub mod DomainNodes
pub mod Settings
pub mod EvaluatedTerms
pub mod EvaluatedBraces
pub mod EvaluatedPreds
pub mod TablesEvaluate
-- what crates above name of crates below
pub use Rattle.value_types.proofs.MeaningConjunctsHold as MeaningConjunctsHold
pub use Rattle.value_types.proofs.MeaningDistinct as MeaningDistinct
pub use Rattle.value_types.proofs.MeaningFrame as MeaningFrame
pub use Rattle.value_types.proofs.MeaningMembers as MeaningMembers
