-- Names and types: the walk over nodes, and what it finds.
pub mod TypeNumbers
pub mod FaultOrder
pub mod FaultKeys
