-- The table by numbers is the table by the definitions.
-- The walk that writes the table: pieces of the table, and what each shape of node writes.
-- The whole table: places, carriers, and each predicate with the names in its reach.
pub mod WritingPlaces
pub mod WritingTypes
pub mod WritingAll
-- Each predicate of a dossier at its place in the whole table, and the rows of all conjuncts.

-- what crates above name of crates below
pub use Rattle.names.proofs.ReachTables as NamesReachTables
pub use Rattle.names.proofs.TypesAgreeLeast as NamesTypesAgreeLeast
pub use Rattle.names.proofs.TypesAgreeRanges as NamesTypesAgreeRanges
pub use Rattle.names.proofs.TypesAgreeScope as NamesTypesAgreeScope
pub use Rattle.names.proofs.TypesAgreeTypes as NamesTypesAgreeTypes
pub use Rattle.names.proofs.DeclaredNamesNodePieces as NamesNodePieces
pub use Rattle.node_spans.proofs.StandingParts as NodeSpansStandingParts
