-- The arrays that the reader leaves are those of the dossier: the types of its variables stand where the groups say.
pub mod TypeNumbers
pub mod TablePatches
pub mod ArrangedParts
pub mod DeclaredTypes
pub mod GroupNodes
pub mod ReadReadings
-- what crates above name of crates below
pub use Rattle.read_predicates.proofs.ConjunctTestsLastVariables as ConjunctTestsLastVariables
pub use Rattle.read_predicates.proofs.CountedRows as ReadPredicatesCountedRows
pub use Rattle.read_predicates.proofs.ReaderReadGives as ReaderReadGives
pub use Rattle.read_predicates.proofs.ReaderTextLetters as ReaderTextLetters
pub use Rattle.read_predicates.proofs.TablesDeclaredPlaces as TablesDeclaredPlaces
