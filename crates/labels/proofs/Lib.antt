-- The labels gathered from the reader's arrays are those of the dossier.
pub mod LabelStores
pub mod ElementPlaces
pub mod LettersAt
pub mod TypeLabels
pub mod NamedNodes
pub mod LabelledGroups
pub mod SpeltNames
pub mod ReadLabels
-- what crates above name of crates below
pub use Rattle.readings.proofs.ReadReadings as ReadingsReadReadings
