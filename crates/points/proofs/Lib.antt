pub mod PointNumbers
pub mod SearchLevels
pub mod PointBindings
pub mod PointTruths
