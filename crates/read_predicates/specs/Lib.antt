pub mod TestedPredicates
pub mod PredicateRows
-- what crates above name of crates below
pub use Rattle.conjunct_tests.specs.EvaluationSlotValues as EvaluationSlotValues
pub use Rattle.reader.specs.NodeSpansSpans as NodeSpansSpans
pub use Rattle.reader.specs.ParserPromises as ParserPromises
pub use Rattle.reader.specs.ParserSections as ParserSections
pub use Rattle.reader.specs.Gives as ReaderGives
pub use Rattle.reader.specs.Occurrences as ReaderOccurrences
pub use Rattle.reader.specs.Promises as ReaderPromises
pub use Rattle.conjunct_tests.specs.SearchGroupsGroupPromises as SearchGroupsGroupPromises
pub use Rattle.conjunct_tests.specs.TablePlacesDossierTable as TablePlacesDossierTable
pub use Rattle.conjunct_tests.specs.TablePlacesResolvedTable as TablePlacesResolvedTable
