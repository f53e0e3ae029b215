pub mod Structure
pub mod SpanWrites
pub mod StandingParts
pub mod DeclaredLengths
pub mod PartNodes
-- what crates above name of crates below
pub use Rattle.parser.proofs.ItemNodes as ParserItemNodes
pub use Rattle.parser.proofs.PartPlaces as ParserPartPlaces
