pub mod ReadTexts
pub mod TextLaws
pub mod LentArrays
