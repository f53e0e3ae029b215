-- The laws of the fixed order.
pub mod RisingFilters
pub mod Words
pub mod Rows
pub mod Masks
pub mod Upward
pub mod Values
pub mod Bindings
