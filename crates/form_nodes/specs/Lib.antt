pub mod FormPromises
pub mod Derivations
