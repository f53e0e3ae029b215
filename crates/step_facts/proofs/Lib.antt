-- Facts from the searches for single states and steps: what is asked, masks, places, counts.
pub mod AskedFacts
pub mod Masks
pub mod Places
pub mod BothSteps
pub mod Counts
