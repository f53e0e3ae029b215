-- The refusals of document 01, and how the code names them.
pub mod Refusals
pub mod RefusalNames
