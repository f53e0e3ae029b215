-- States and steps one after the other: groups at one of their bindings, what the searches are asked and find, how they are made ready.
pub mod PutGroups
pub mod FoundNumbers
pub mod GivenGroups
pub mod LentSearches
pub mod FoundSteps
pub mod FoundOpenings
pub mod PreparedSearches
pub mod PartSizes
pub mod ConcreteStates
-- what crates above name of crates below
pub use Rattle.parts.proofs.LentParts as LentParts
