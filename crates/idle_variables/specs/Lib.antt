pub mod KeyedNumbers
pub mod IdlePromises
pub mod KeyPromises
