pub mod FactPromises
pub mod Machines
