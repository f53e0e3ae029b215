-- Sizes and bindings by numbers are those of the definitions.
-- The walk for sizes.
pub mod CappedCounts
pub mod BindingSpans
pub mod BindingsAgree

-- The pass over a whole dossier.
