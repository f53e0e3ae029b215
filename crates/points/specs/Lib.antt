pub mod Points
pub mod PointTests
pub mod Searches
-- what crates above name of crates below
pub use Rattle.truths.specs.Promises as TruthsPromises
pub mod Masks
