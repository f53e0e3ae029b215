pub mod Tree
pub mod Written
pub mod Form
pub mod Machine
pub mod Parse
pub mod Headings
pub mod Computed
pub mod Codes
pub mod BoundNames
-- what crates above name of crates below
pub use Rattle.lexical.specs.Base as LexicalBase
pub use Rattle.lexical.specs.Lists as LexicalLists
pub use Rattle.refusals.specs.Refusals as LexicalRefusals
pub use Rattle.lexical.specs.Symbols as LexicalSymbols
