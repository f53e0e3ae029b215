pub mod TypedValues
pub mod FaultlessContexts
-- what crates above name of crates below
pub use Rattle.meaning.specs.Bindings as MeaningBindings
pub use Rattle.meaning.specs.Meaning as MeaningMeaning
pub use Rattle.meaning.specs.MentionedNames as MeaningMentionedNames
pub use Rattle.meaning.specs.Values as MeaningValues
pub use Rattle.meaning.specs.StaticRulesCarriers as StaticRulesCarriers
pub use Rattle.meaning.specs.StaticRulesLimits as StaticRulesLimits
pub use Rattle.meaning.specs.StaticRulesNames as StaticRulesNames
pub use Rattle.meaning.specs.StaticRulesScope as StaticRulesScope
pub use Rattle.meaning.specs.StaticRulesTypes as StaticRulesTypes
