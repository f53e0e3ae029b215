-- The tests of the parts of a check, by its obligations and its places.
pub mod PartObligations
pub mod PartPlaces
pub mod PartSizes
pub mod LookedChecks
-- what crates above name of crates below
pub use Rattle.nest_steps.proofs.PlansLevelCounts as PlansLevelCounts
pub use Rattle.nest_steps.proofs.PointsPointBindings as PointsPointBindings
pub use Rattle.nest_steps.proofs.PointsPointNumbers as PointsPointNumbers
pub use Rattle.nest_steps.proofs.PointsPointTruths as PointsPointTruths
