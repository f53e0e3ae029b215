pub mod Carriers
pub mod Types
pub mod Scope
pub mod Names
pub mod Limits
pub mod Read
pub mod Computed
-- what crates above name of crates below
pub use Rattle.form.specs.BoundNames as FormBoundNames
pub use Rattle.form.specs.Form as FormForm
pub use Rattle.form.specs.Headings as FormHeadings
pub use Rattle.form.specs.Tree as FormTree
pub use Rattle.form.specs.Written as FormWritten
pub use Rattle.form.specs.LexicalLists as LexicalLists
pub use Rattle.form.specs.LexicalSymbols as LexicalSymbols
