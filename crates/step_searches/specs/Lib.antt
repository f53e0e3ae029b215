pub mod StepPromises
-- what crates above name of crates below
pub use Rattle.part_setup.specs.PartTestsPartsByNumber as PartTestsPartsByNumber
pub use Rattle.part_setup.specs.ReadingsReadings as ReadingsReadings
