-- The table by numbers is the table by the definitions.
pub mod TableAgreesSizes
pub mod TableAgreesParts
pub mod TableAgrees
pub mod DossierTableShown
pub mod DossierTableTypes
pub mod DossierTableAgrees
pub mod SlotPlaces
pub mod DeclaredPlaces
pub mod ElementPlaces
pub mod ParameterPlaces
pub mod StatePlaces
pub mod ContextPlaces
-- The walk that writes the table: pieces of the table, and what each shape of node writes.
-- The whole table: places, carriers, and each predicate with the names in its reach.
pub mod WritingContexts
pub mod WritingReady
pub mod WritingWhole
-- Each predicate of a dossier at its place in the whole table, and the rows of all conjuncts.
pub mod StandingPieces
pub mod StandingWhole
