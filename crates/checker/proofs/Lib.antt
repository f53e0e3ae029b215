-- The five calls: what opening the bytes leaves, and what each answer says.
pub mod OpenLaws
pub mod MarkLaws
pub mod CallLaws
pub mod AdvanceLaws
pub mod RefutedLaws
