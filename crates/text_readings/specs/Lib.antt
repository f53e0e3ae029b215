pub mod TextPromises
