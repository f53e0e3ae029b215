-- What the code of the form pass counts on.
pub mod Classes
pub mod ReadParts
pub mod ItemSteps
pub mod RangeEnds
pub mod SameSteps
pub mod RightSides
pub mod ReadNames
pub mod NodeWrites
pub mod NodeNumbers
pub mod SymbolSpans
pub mod NodesOfParts
pub mod FirstNodes
