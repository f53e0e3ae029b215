-- A refusal is told by its number; lists of faults.
pub mod RefusalNumbers
pub mod FaultLists
pub mod MissingValues
