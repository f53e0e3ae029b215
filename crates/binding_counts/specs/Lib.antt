pub mod DeclaredTypesFit
pub mod BindingsByNumber
