pub mod ReadingGroups
pub mod PartsSetUp
pub mod PartCounts
pub mod PlaceSteps
pub mod PlaceObligations
-- what crates above name of crates below
pub use Rattle.parts.proofs.PartNumbers as PartsPartNumbers
pub use Rattle.parts.proofs.PartOrderLaws as PartsPartOrderLaws
pub use Rattle.parts.proofs.ReadingSizes as PartsReadingSizes
pub use Rattle.parts.proofs.SetupLaws as PartsSetupLaws
