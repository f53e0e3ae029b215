pub mod PassedPlaces
pub mod LoopStates
pub mod NextCandidates
pub mod NestedLoops
pub mod Products
pub mod BlockPlaces
pub mod MarkedBlocks
-- what crates above name of crates below
pub use Rattle.memo.proofs.Memos as MemoMemos
