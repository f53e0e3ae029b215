-- what crates above name of crates below
pub use Rattle.evaluation.specs.EvaluationByNumber as EvaluationEvaluationByNumber
pub use Rattle.evaluation.specs.OperatorsByNumber as EvaluationOperatorsByNumber
pub use Rattle.evaluation.specs.SlotValues as EvaluationSlotValues
pub use Rattle.evaluation.specs.MeaningMeaning as MeaningMeaning
pub use Rattle.evaluation.specs.MeaningValues as MeaningValues
pub use Rattle.evaluation.specs.StaticRulesScope as StaticRulesScope
pub use Rattle.evaluation.specs.TablePlacesResolvedTable as TablePlacesResolvedTable
pub use Rattle.evaluation.specs.ValueTypesTypedValues as ValueTypesTypedValues
