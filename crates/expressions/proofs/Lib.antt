-- What the chains of operators and connectives count on.
pub mod Chains
pub mod ReachLaws
pub mod Places
pub mod BoundNames
