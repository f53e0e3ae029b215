-- Lists and bindings over the definitions; meaning computed on BASE and on a dossier with what newcomers misread.
pub mod Members
pub mod UpwardNumbers
pub mod Bindings
pub mod Places
pub mod Distinct
pub mod Values
pub mod Frame
pub mod ConjunctsHold
pub mod Samples
-- what crates above name of crates below
pub use Rattle.static_rules.proofs.FormPlainSymbols as FormPlainSymbols
pub use Rattle.static_rules.proofs.FormScannedSymbols as FormScannedSymbols
pub use Rattle.static_rules.proofs.FormTable as FormTable
pub use Rattle.static_rules.proofs.TypePlaces as StaticRulesTypePlaces
pub use Rattle.static_rules.proofs.Faultless as StaticRulesFaultless
pub use Rattle.static_rules.proofs.FoundCarriers as StaticRulesFoundCarriers
pub use Rattle.static_rules.proofs.SameTypes as StaticRulesSameTypes
pub use Rattle.static_rules.proofs.LexicalBooleanTests as LexicalBooleanTests
