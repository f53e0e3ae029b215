pub mod Promises
-- what crates above name of crates below
pub use Rattle.conjunct_tests.specs.ConjunctTests as ConjunctTestsConjunctTests
pub use Rattle.conjunct_tests.specs.EvaluationEvaluationByNumber as EvaluationEvaluationByNumber
pub use Rattle.conjunct_tests.specs.EvaluationHeights as EvaluationHeights
pub use Rattle.conjunct_tests.specs.EvaluationSlotValues as EvaluationSlotValues
pub use Rattle.conjunct_tests.specs.SearchGroupsConjuncts as SearchGroupsConjuncts
pub use Rattle.evaluator.specs.TablePlacesResolvedTable as TablePlacesResolvedTable
pub use Rattle.evaluator.specs.ValueTypesTypedValues as ValueTypesTypedValues
