pub mod StateTests
pub mod Promises
-- what crates above name of crates below
pub use Rattle.read_predicates.specs.PredicateRows as ReadPredicatesPredicateRows
pub use Rattle.search_groups.specs.Conjuncts as SearchGroupsConjuncts
