pub mod Values
pub mod Meaning
pub mod Bindings
pub mod Operations
pub mod MentionedNames
pub mod Computed
-- what crates above name of crates below
pub use Rattle.static_rules.specs.FormBoundNames as FormBoundNames
pub use Rattle.static_rules.specs.FormForm as FormForm
pub use Rattle.static_rules.specs.FormHeadings as FormHeadings
pub use Rattle.static_rules.specs.FormTree as FormTree
pub use Rattle.static_rules.specs.FormWritten as FormWritten
pub use Rattle.static_rules.specs.Carriers as StaticRulesCarriers
pub use Rattle.static_rules.specs.Limits as StaticRulesLimits
pub use Rattle.static_rules.specs.Names as StaticRulesNames
pub use Rattle.static_rules.specs.Scope as StaticRulesScope
pub use Rattle.static_rules.specs.Types as StaticRulesTypes
