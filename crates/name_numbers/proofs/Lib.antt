-- The definitions of symbols computed on short texts; the laws that the scanner is proved by.
pub mod ScanLaws
pub mod TreeLaws
pub mod NumberingLaws
pub mod RecentLaws
pub mod SoundLaws
pub mod RowLaws
