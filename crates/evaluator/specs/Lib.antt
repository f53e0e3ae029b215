pub mod EvaluationPromises
-- what crates above name of crates below
pub use Rattle.operators.specs.EvaluationEvaluationByNumber as EvaluationEvaluationByNumber
pub use Rattle.operators.specs.EvaluationOperatorsByNumber as EvaluationOperatorsByNumber
pub use Rattle.operators.specs.EvaluationSlotValues as EvaluationSlotValues
pub use Rattle.operators.specs.MeaningMeaning as MeaningMeaning
pub use Rattle.operators.specs.MeaningValues as MeaningValues
pub use Rattle.operators.specs.StaticRulesScope as StaticRulesScope
pub use Rattle.operators.specs.TablePlacesResolvedTable as TablePlacesResolvedTable
pub use Rattle.operators.specs.ValueTypesTypedValues as ValueTypesTypedValues
