-- Cells of a part's groups one after the other, the sizes of its groups, and the first values in both arrays.
pub mod SetLists
pub mod FirstValues
pub mod StatesMade
pub mod GroupSizes
pub mod AskedParts
-- what crates above name of crates below
pub use Rattle.part_tests.proofs.LookedChecks as PartTestsLookedChecks
pub use Rattle.part_tests.proofs.PartPlaces as PartTestsPartPlaces
pub use Rattle.part_tests.proofs.PartSizes as PartTestsPartSizes
