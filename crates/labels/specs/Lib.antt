pub mod Labels
pub mod LabelPromises
-- what crates above name of crates below
pub use Rattle.readings.specs.Readings as ReadingsReadings
