-- What the nodes of each conjunct give, and which variables it depends on.
pub mod ConjunctRows
pub mod LastVariables
pub mod SlotFrame
-- what crates above name of crates below
pub use Rattle.evaluation.proofs.RangesAgree as EvaluationRangesAgree
pub use Rattle.search_groups.proofs.ConjunctTables as SearchGroupsConjunctTables
pub use Rattle.search_groups.proofs.GroupPicks as SearchGroupsGroupPicks
pub use Rattle.search_groups.proofs.TableLength as SearchGroupsTableLength
