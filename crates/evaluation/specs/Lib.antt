pub mod OperatorsByNumber
pub mod EvaluationByNumber
pub mod SlotValues
pub mod Heights
-- what crates above name of crates below
pub use Rattle.value_types.specs.MeaningBindings as MeaningBindings
pub use Rattle.value_types.specs.MeaningMeaning as MeaningMeaning
pub use Rattle.value_types.specs.MeaningMentionedNames as MeaningMentionedNames
pub use Rattle.value_types.specs.MeaningValues as MeaningValues
pub use Rattle.value_types.specs.StaticRulesCarriers as StaticRulesCarriers
pub use Rattle.value_types.specs.StaticRulesLimits as StaticRulesLimits
pub use Rattle.value_types.specs.StaticRulesNames as StaticRulesNames
pub use Rattle.value_types.specs.StaticRulesScope as StaticRulesScope
pub use Rattle.table_places.specs.DossierTable as TablePlacesDossierTable
pub use Rattle.table_places.specs.ResolvedTable as TablePlacesResolvedTable
pub use Rattle.value_types.specs.TypedValues as ValueTypesTypedValues
