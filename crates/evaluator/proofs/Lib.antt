-- The laws of the nodes, by shape, and of the loops over what is bound.
pub mod NumberLaws
pub mod NodeLaws
pub mod ItemLaws
pub mod TruthLaws
pub mod MemberLaws
pub mod LoopLaws
