pub mod StateSpans
pub mod Spans
pub mod SpanPromises
-- what crates above name of crates below
pub use Rattle.parser.specs.Sections as ParserSections
