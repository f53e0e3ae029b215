-- The laws that the functions which write plans are proved by.
pub mod Segments
pub mod LevelCounts
pub mod SearchLevels
pub mod LaidSearches
pub mod FinishedPlans
-- what crates above name of crates below
pub use Rattle.points.proofs.PointBindings as PointsPointBindings
pub use Rattle.points.proofs.PointNumbers as PointsPointNumbers
