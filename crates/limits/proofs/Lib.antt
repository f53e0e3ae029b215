-- Sizes and bindings by numbers are those of the definitions.
pub mod SizesAgreeScope
pub mod SizeWidths
pub mod SizesAgreeParts
pub mod SizesAgree
-- The walk for sizes.
pub mod TypesFit
pub mod GivenSizes
pub mod SizesAgreeDossier
-- The pass over a whole dossier.
pub mod SizeMarks
pub mod ReachMarks
pub mod SizePass
pub mod SizePassOperations
