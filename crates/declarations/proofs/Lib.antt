-- What the code of the form pass counts on.
pub mod ListItems
pub mod ListNodes
