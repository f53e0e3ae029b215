pub mod PlansByNumber
pub mod PlanPromises
pub mod PlanWriting
-- what crates above name of crates below
pub use Rattle.points.specs.Points as PointsPoints
pub use Rattle.points.specs.Searches as PointsSearches
