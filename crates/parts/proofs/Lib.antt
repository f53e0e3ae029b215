-- The parts of a check: in order, made ready, each as a nest of searches, and the search over all of them.
pub mod PartOrderLaws
pub mod ReadingSizes
pub mod SizedParts
pub mod PartNumbers
pub mod PartLaws
pub mod SetupLaws
pub mod LookLaws
pub mod SearchSteps
pub mod SearchLaws
pub mod Stops
pub mod LentParts
-- what crates above name of crates below
pub use Rattle.part_searches.proofs.CorrectnessNest as PartSearchesCorrectnessNest
pub use Rattle.part_searches.proofs.InitialisationNest as PartSearchesInitialisationNest
pub use Rattle.part_searches.proofs.NestParts as PartSearchesNestParts
pub use Rattle.part_searches.proofs.OperationPremises as PartSearchesOperationPremises
pub use Rattle.part_searches.proofs.OperationSteps as PartSearchesOperationSteps
pub use Rattle.part_searches.proofs.SlotGroups as PartSearchesSlotGroups
pub use Rattle.part_setup.proofs.PartTestsPartSizes as PartTestsPartSizes
