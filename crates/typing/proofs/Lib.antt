pub mod FrontNodes
-- Names and types: the walk over nodes, and what it finds.
pub mod LastNodes
pub mod TypeWalkTerms
pub mod TypeWalkPreds
