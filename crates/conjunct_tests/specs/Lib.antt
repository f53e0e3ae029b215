pub mod ConjunctTests
-- what crates above name of crates below
pub use Rattle.evaluation.specs.EvaluationByNumber as EvaluationEvaluationByNumber
pub use Rattle.evaluation.specs.Heights as EvaluationHeights
pub use Rattle.evaluation.specs.SlotValues as EvaluationSlotValues
pub use Rattle.search_groups.specs.Conjuncts as SearchGroupsConjuncts
pub use Rattle.search_groups.specs.GroupPromises as SearchGroupsGroupPromises
pub use Rattle.evaluation.specs.TablePlacesDossierTable as TablePlacesDossierTable
pub use Rattle.evaluation.specs.TablePlacesResolvedTable as TablePlacesResolvedTable
