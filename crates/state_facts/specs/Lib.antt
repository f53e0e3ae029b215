pub mod Placings
pub mod Shown
pub mod Reads
pub mod FalseConjuncts
pub mod Omissions
-- what crates above name of crates below
pub use Rattle.part_places.specs.PartTestsPartGroups as PartTestsPartGroups
pub use Rattle.part_places.specs.PartTestsPartsByNumber as PartTestsPartsByNumber
pub use Rattle.part_places.specs.ReadingsReadings as ReadingsReadings
