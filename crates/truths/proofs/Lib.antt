pub mod TruthLaws
-- what crates above name of crates below
pub use Rattle.conjunct_tests.proofs.ConjunctRows as ConjunctTestsConjunctRows
pub use Rattle.conjunct_tests.proofs.SlotFrame as ConjunctTestsSlotFrame
