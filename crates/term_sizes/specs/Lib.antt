pub mod SizesByNumber
pub mod SizeWalkPromises
