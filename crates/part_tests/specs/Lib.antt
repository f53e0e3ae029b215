pub mod PartsByNumber
pub mod PartGroups
pub mod PartOrder
-- what crates above name of crates below
pub use Rattle.nest_steps.specs.NestPromises as NestStepsNestPromises
pub use Rattle.nest_steps.specs.PlansConclusions as PlansConclusions
pub use Rattle.nest_steps.specs.PartTests as NestStepsPartTests
pub use Rattle.nest_steps.specs.PlansPart as PlansPart
pub use Rattle.nest_steps.specs.PlansPlanPromises as PlansPlanPromises
pub use Rattle.nest_steps.specs.PlansPlansByNumber as PlansPlansByNumber
pub use Rattle.nest_steps.specs.PointsPointTests as PointsPointTests
pub use Rattle.nest_steps.specs.PointsPoints as PointsPoints
pub use Rattle.nest_steps.specs.PointsSearches as PointsSearches
