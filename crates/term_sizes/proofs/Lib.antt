-- The walk for sizes: what it finds is what SizesByNumber says.
pub mod SizeWalkNumbers
pub mod SizeWalk
pub mod FrontSizes
pub mod SizeWalkTerms
pub mod SizeWalkPreds
