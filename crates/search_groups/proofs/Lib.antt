-- The table by numbers is the table by the definitions.
pub mod ScopePlaces
pub mod TableLength
-- The walk that writes the table: pieces of the table, and what each shape of node writes.
-- The whole table: places, carriers, and each predicate with the names in its reach.
pub mod ConjunctSlots
pub mod ConjunctRows
pub mod ConjunctScan
pub mod ConjunctTables
pub mod GroupPicks
pub mod GroupPlaces
pub mod GroupRows
pub mod ConjunctContexts
pub mod ConjunctLists
-- Each predicate of a dossier at its place in the whole table, and the rows of all conjuncts.
-- what crates above name of crates below
pub use Rattle.node_spans.proofs.StandingParts as NodeSpansStandingParts
