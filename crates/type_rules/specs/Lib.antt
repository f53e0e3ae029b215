pub mod TypesByNumber
pub mod Passes
pub mod FaultKeys
