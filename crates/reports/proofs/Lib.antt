-- The lines of a report: piece by piece, by what the search came to, by what was read.
pub mod LineRooms
pub mod LineLaws
pub mod VerdictLines
pub mod VerdictLaws
pub mod ReportAnswers
-- what crates above name of crates below
pub use Rattle.parts.proofs.PartTestsPartSizes as PartTestsPartSizes
pub use Rattle.text_readings.proofs.ReadTexts as ReadTexts
