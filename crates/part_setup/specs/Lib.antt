pub mod SetupPromises
pub mod SetupSteps
-- what crates above name of crates below
pub use Rattle.part_tests.specs.NestStepsPartTests as NestStepsPartTests
pub use Rattle.part_tests.specs.PartGroups as PartTestsPartGroups
pub use Rattle.part_tests.specs.PartOrder as PartTestsPartOrder
pub use Rattle.part_tests.specs.PartsByNumber as PartTestsPartsByNumber
pub use Rattle.readings.specs.Readings as ReadingsReadings
