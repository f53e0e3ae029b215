pub mod PlacePromises
