-- The held check in bytes.
pub mod HeldBytesLaws
pub mod ByteSteps
pub mod LayoutLaws
pub mod StepLaws
