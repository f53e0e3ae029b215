pub mod SearchPromises
-- what crates above name of crates below
pub use Rattle.part_searches.specs.PartCells as PartSearchesPartCells
pub use Rattle.part_setup.specs.PartTestsPartOrder as PartTestsPartOrder
