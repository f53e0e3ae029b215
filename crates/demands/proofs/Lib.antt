-- The demands over the code hold.
pub mod RepliesNumbered
pub mod LongTexts
pub mod ReadSizes
pub mod HeldStanding
pub mod CallsStand
pub mod ReportDemand
pub mod DemandsHold
