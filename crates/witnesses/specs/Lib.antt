pub mod WitnessPromises
pub mod WitnessSteps
