-- Texts that are tried.
pub mod Assembled
