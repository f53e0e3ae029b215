pub mod Readings
-- what crates above name of crates below
pub use Rattle.read_predicates.specs.EvaluationSlotValues as EvaluationSlotValues
pub use Rattle.read_predicates.specs.PredicateRows as ReadPredicatesPredicateRows
pub use Rattle.read_predicates.specs.ReaderGives as ReaderGives
pub use Rattle.read_predicates.specs.ReaderOccurrences as ReaderOccurrences
pub use Rattle.read_predicates.specs.ReaderPromises as ReaderPromises
pub use Rattle.read_predicates.specs.TablePlacesDossierTable as TablePlacesDossierTable
pub use Rattle.read_predicates.specs.TablePlacesResolvedTable as TablePlacesResolvedTable
