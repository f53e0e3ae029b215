-- Nodes that are free of a slot, by their shapes; equations.
pub mod FreeNodes
pub mod FreeTruths
pub mod SolvedTerms
pub mod OneValue
