-- What the functions of the search promise: slots, the points that the arrays show, the tests of a level, the values that they leave, the loop through blocks of bindings.
pub mod SlotPlaces
pub mod MovedPoints
pub mod StoredPoints
pub mod LevelTests
pub mod SolvedValues
pub mod Blocks
pub mod OneSearch
pub mod WaysOut
pub mod EverySearch
