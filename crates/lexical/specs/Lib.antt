pub mod Lists
pub mod Kinds
pub mod Symbols
pub mod Base
pub mod Computed
pub mod Promises
pub mod SymbolPromises
