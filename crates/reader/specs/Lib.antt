pub mod Occurrences
pub mod Promises
pub mod Gives
-- what crates above name of crates below
pub use Rattle.node_spans.specs.Spans as NodeSpansSpans
pub use Rattle.parser.specs.Promises as ParserPromises
pub use Rattle.parser.specs.Sections as ParserSections
