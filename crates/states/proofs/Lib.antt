pub mod RowLaws
pub mod StateLaws
pub mod StepLaws
