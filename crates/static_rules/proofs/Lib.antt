-- Laws of names and types; reading computed on changed parts of BASE.
pub mod TypePlaces
pub mod Faultless
pub mod FoundCarriers
pub mod SameTypes
pub mod Samples
-- what crates above name of crates below
pub use Rattle.form.proofs.PlainSymbols as FormPlainSymbols
pub use Rattle.form.proofs.ScannedSymbols as FormScannedSymbols
pub use Rattle.form.proofs.Table as FormTable
pub use Rattle.form.proofs.LexicalBooleanTests as LexicalBooleanTests
