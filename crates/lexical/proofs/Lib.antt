-- The definitions of symbols computed on short texts; the laws that the scanner is proved by.
pub mod BooleanTests
pub mod ByteLaws
pub mod RangeTests
pub mod MarkLaws
pub mod PackedLaws
pub mod WordLaws
pub mod NumberLaws
pub mod FoundSymbols
pub mod Samples
pub mod NameCodes
pub mod Zeros
