-- Sets and division computed, and their laws.
pub mod Samples
pub mod Members
pub mod Operations
pub mod Pairs
pub mod Floor
pub mod Divides
pub mod MaskBits
