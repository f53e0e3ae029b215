pub mod ReachPromises
