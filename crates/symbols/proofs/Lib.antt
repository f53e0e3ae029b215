-- The definitions of symbols computed on short texts; the laws that the scanner is proved by.
pub mod Samples
pub mod WholeLaws
pub mod ValueLaws
