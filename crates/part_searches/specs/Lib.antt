pub mod PartCells
