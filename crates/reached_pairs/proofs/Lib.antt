-- The pairs of states that both machines reach: by numbers and by runs, and by the layers of the search.
pub mod JoinedRuns
pub mod PairNumbers
pub mod ReachedPairs
pub mod Layers
pub mod GrownMarks
pub mod NextLayer
pub mod MarkNumbers
pub mod SpreadSteps
pub mod SpreadLayers
pub mod BegunPairs
