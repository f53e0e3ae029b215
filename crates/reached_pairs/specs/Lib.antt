pub mod Reached
pub mod ReachedByNumber
pub mod PairPromises
