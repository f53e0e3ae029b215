pub mod ReadPredicates
pub mod SlotBounds
pub mod ReadTests
pub mod CountedRows
-- what crates above name of crates below
pub use Rattle.conjunct_tests.proofs.LastVariables as ConjunctTestsLastVariables
pub use Rattle.conjunct_tests.proofs.EvaluationRangesAgree as EvaluationRangesAgree
pub use Rattle.reader.proofs.NodeSpansDeclaredLengths as NodeSpansDeclaredLengths
pub use Rattle.reader.proofs.NodeSpansStructure as NodeSpansStructure
pub use Rattle.reader.proofs.ParserItemNodes as ParserItemNodes
pub use Rattle.reader.proofs.ParserPartPlaces as ParserPartPlaces
pub use Rattle.reader.proofs.ReadGives as ReaderReadGives
pub use Rattle.reader.proofs.TextLetters as ReaderTextLetters
pub use Rattle.conjunct_tests.proofs.SearchGroupsGroupPicks as SearchGroupsGroupPicks
pub use Rattle.conjunct_tests.proofs.SearchGroupsTableLength as SearchGroupsTableLength
pub use Rattle.reader.proofs.TablesDeclaredPlaces as TablesDeclaredPlaces
pub use Rattle.reader.proofs.TablesStandingPieces as TablesStandingPieces
