-- Values that rise, and the place of a number among them; that a cell's values are those of its carrier; the bindings of a group; cells made of types' nodes, kept and copied.
pub mod ShapedValues
pub mod Places
pub mod CellLists
pub mod CarrierCells
pub mod GroupBindings
pub mod TypeCells
pub mod MadeCells
pub mod KeptCells
-- what crates above name of crates below
pub use Rattle.carriers.proofs.Bindings as CarriersBindings
pub use Rattle.carriers.proofs.Values as CarriersValues
