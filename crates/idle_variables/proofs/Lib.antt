pub mod KeyedPoints
pub mod RangeWalks
pub mod FreeTests
pub mod IdleSearches
pub mod IdleMasks
pub mod KeySteps
