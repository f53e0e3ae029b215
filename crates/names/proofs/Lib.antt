-- Names and types: the walk over nodes, and what it finds.
pub mod WholePass
pub mod ItemEnds
pub mod PassSteps
pub mod PassStepsOperations
pub mod ReachTables
pub mod TypesAgreeLeast
pub mod TypesAgreeWidths
pub mod TypesAgreeRanges
pub mod TypesAgreeTypes
pub mod TypesAgreeScope
pub mod TypesAgreeBraces
pub mod TypesAgreeBinders
pub mod TypesAgreeParts
pub mod TypesAgreeTerms
pub mod TypesAgreePreds
pub mod TypesAgree
pub mod PassAgreesPlaces
pub mod PassAgreesOrder
pub mod PassAgreesTables
pub mod PassAgreesTypes
pub mod PassAgreesDeclared
pub mod PassAgreesUse
pub mod PassAgreesGivens
pub mod PassAgreesNamed
pub mod PassAgreesStates
pub mod PassAgreesScopes
pub mod PassAgreesConditions
pub mod PassAgreesParameters
pub mod PassAgreesReach
pub mod PassAgreesOperations
pub mod PassAgreesDossier
pub mod PassAgrees
-- what crates above name of crates below
pub use Rattle.declared_names.proofs.ArraysCut as DeclaredNamesArraysCut
pub use Rattle.declared_names.proofs.DeclarationNodes as DeclaredNamesDeclarationNodes
pub use Rattle.declared_names.proofs.NodePieces as DeclaredNamesNodePieces
pub use Rattle.declared_names.proofs.GivenSetNodes as DeclaredNamesGivenSetNodes
pub use Rattle.declared_names.proofs.StaticRulesFoundCarriers as StaticRulesFoundCarriers
