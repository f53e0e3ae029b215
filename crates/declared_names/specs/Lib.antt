pub mod PassPromises
pub mod NamesByNumber
-- what crates above name of crates below
pub use Rattle.static_rules.specs.Carriers as StaticRulesCarriers
pub use Rattle.static_rules.specs.Names as StaticRulesNames
pub use Rattle.static_rules.specs.Scope as StaticRulesScope
pub use Rattle.static_rules.specs.Types as StaticRulesTypes
