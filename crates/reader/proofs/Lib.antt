-- What the passes of a text hand on.
pub mod TextLetters
pub mod FewGivens
pub mod FewVariables
pub mod DossierLetters
pub mod LeastNameFault
pub mod PartSections
pub mod ParsedReading
pub mod PassAnswers
pub mod LimitPasses
pub mod LaterPasses
pub mod ArraysLeft
pub mod ReadGives
-- what crates above name of crates below
pub use Rattle.node_spans.proofs.DeclaredLengths as NodeSpansDeclaredLengths
pub use Rattle.node_spans.proofs.Structure as NodeSpansStructure
pub use Rattle.parser.proofs.ItemNodes as ParserItemNodes
pub use Rattle.parser.proofs.PartPlaces as ParserPartPlaces
pub use Rattle.tables.proofs.DeclaredPlaces as TablesDeclaredPlaces
pub use Rattle.tables.proofs.StandingPieces as TablesStandingPieces
pub use Rattle.tables.proofs.StandingWhole as TablesStandingWhole
