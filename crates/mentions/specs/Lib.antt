pub mod MentionPromises
-- what crates above name of crates below
pub use Rattle.evaluator.specs.EvaluationEvaluationByNumber as EvaluationEvaluationByNumber
