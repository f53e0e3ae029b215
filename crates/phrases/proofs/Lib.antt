-- Phrases.
pub mod EndingBytes
