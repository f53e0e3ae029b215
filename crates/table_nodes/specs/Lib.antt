pub mod TableByNumber
pub mod TableWalkPromises
