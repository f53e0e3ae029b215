-- what crates above name of crates below
pub use Rattle.declared_names.specs.NamesByNumber as DeclaredNamesNamesByNumber
pub use Rattle.declared_names.specs.PassPromises as DeclaredNamesPassPromises
pub use Rattle.declared_names.specs.StaticRulesCarriers as StaticRulesCarriers
pub use Rattle.declared_names.specs.StaticRulesNames as StaticRulesNames
pub use Rattle.declared_names.specs.StaticRulesScope as StaticRulesScope
pub use Rattle.declared_names.specs.StaticRulesTypes as StaticRulesTypes
