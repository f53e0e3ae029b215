pub mod SweepPromises
-- what crates above name of crates below
pub use Rattle.nest_steps.specs.NestPromises as NestStepsNestPromises
pub use Rattle.nest_steps.specs.PartTests as NestStepsPartTests
