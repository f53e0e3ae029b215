pub mod Sets
pub mod Division
pub mod Computed
