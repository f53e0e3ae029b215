-- Lines of a text.
pub mod LineLaws
