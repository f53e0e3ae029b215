pub mod Promises
pub mod Sections
