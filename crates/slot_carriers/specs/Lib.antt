pub mod Cells
pub mod CellGroups
pub mod TypeNodes
pub mod DeclaredGroups
-- what crates above name of crates below
pub use Rattle.carriers.specs.ValuesByNumber as CarriersValuesByNumber
