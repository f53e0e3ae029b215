-- The table by numbers is the table by the definitions.
-- The walk that writes the table: pieces of the table, and what each shape of node writes.
pub mod TableParts
pub mod TableWalk
pub mod TableWalkTerms
pub mod TableWalkBraces
pub mod TableWalkPreds

-- The whole table: places, carriers, and each predicate with the names in its reach.
-- Each predicate of a dossier at its place in the whole table, and the rows of all conjuncts.
