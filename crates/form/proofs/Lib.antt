-- The pass for form: samples, and the theorem that it computes the condition.
pub mod Samples
pub mod Takes
pub mod Runs
pub mod MachineAgreesStarts
pub mod MachineAgreesTerms
pub mod MachineAgrees
pub mod Split
pub mod Table
pub mod PlainSymbols
pub mod Fill
pub mod Back
pub mod Complete
pub mod Insert
pub mod Regroup
pub mod SteadyMarks
pub mod Viable
pub mod ScannedSymbols
pub mod ParseSteps
pub mod ParsePredSteps
pub mod ParseStarts
pub mod ParseTerms
pub mod ParseBraces
pub mod ParsePreds
pub mod ParseTrees
pub mod ParseParts
pub mod ParseDossier
pub mod FormOf
pub mod Lengths
pub mod RelationsBehind
pub mod FewBoundNames
-- what crates above name of crates below
pub use Rattle.lexical.proofs.BooleanTests as LexicalBooleanTests
pub use Rattle.lexical.proofs.WordLaws as LexicalWordLaws
pub use Rattle.refusals.proofs.FaultLists as RefusalsFaultLists
