pub mod PartTests
pub mod NestPromises
pub mod Remembering
pub mod IdleGroups
pub mod PassedBlocks
pub mod OpenBlocks
-- what crates above name of crates below
pub use Rattle.plans.specs.declared.Conclusion.TheVariants as PlansConclusions
pub use Rattle.plans.specs.declared.Part as PlansPart
pub use Rattle.plans.specs.PlanPromises as PlansPlanPromises
pub use Rattle.plans.specs.PlansByNumber as PlansPlansByNumber
pub use Rattle.points.specs.PointTests as PointsPointTests
pub use Rattle.points.specs.Points as PointsPoints
pub use Rattle.points.specs.Searches as PointsSearches
