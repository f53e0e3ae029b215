-- Names and types: the walk over nodes, and what it finds.
pub mod ArraysCut
pub mod DeclarationNodes
pub mod GivenSetNodes
pub mod NodePieces
-- what crates above name of crates below
pub use Rattle.static_rules.proofs.Faultless as StaticRulesFaultless
pub use Rattle.static_rules.proofs.FoundCarriers as StaticRulesFoundCarriers
pub use Rattle.static_rules.proofs.SameTypes as StaticRulesSameTypes
