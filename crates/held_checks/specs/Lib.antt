pub mod HeldBytes
pub mod Answers
pub mod CallPromises
pub mod BytePromises
pub mod StepPromises
