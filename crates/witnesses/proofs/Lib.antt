pub mod CheckDigits
pub mod WitnessLaws
pub mod BoundPlaces
pub mod PartLines
-- what crates above name of crates below
pub use Rattle.lines.proofs.LabelledLines as LinesLabelledLines
