pub mod PassingBlocks
pub mod KeptGroups
pub mod FoundNumbers
pub mod RememberedConclusions
pub mod BoundInputs
pub mod NextBits
pub mod ReadyInputs
pub mod IdleGroups
pub mod KeyedTests
pub mod AlikeBlocks
pub mod OpenSearches
-- what crates above name of crates below
pub use Rattle.plans.proofs.LevelCounts as PlansLevelCounts
pub use Rattle.points.proofs.PointBindings as PointsPointBindings
pub use Rattle.points.proofs.PointNumbers as PointsPointNumbers
pub use Rattle.points.proofs.PointTruths as PointsPointTruths
