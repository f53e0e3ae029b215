pub mod GroupPlaces
pub mod LinesByNumber
pub mod MembersByNumber
