pub mod Places
-- what crates above name of crates below
pub use Rattle.part_setup.specs.NestStepsPartTests as NestStepsPartTests
pub use Rattle.part_setup.specs.PartTestsPartGroups as PartTestsPartGroups
pub use Rattle.part_setup.specs.PartTestsPartOrder as PartTestsPartOrder
pub use Rattle.part_setup.specs.PartTestsPartsByNumber as PartTestsPartsByNumber
pub use Rattle.part_setup.specs.ReadingsReadings as ReadingsReadings
