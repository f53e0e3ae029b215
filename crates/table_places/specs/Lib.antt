pub mod ResolvedTable
pub mod DossierTable
pub mod DossierTableByNumber
pub mod TablePromises
-- what crates above name of crates below
pub use Rattle.form.specs.BoundNames as FormBoundNames
pub use Rattle.form.specs.Codes as FormCodes
pub use Rattle.form.specs.Tree as FormTree
pub use Rattle.form.specs.Written as FormWritten
pub use Rattle.node_spans.specs.Spans as NodeSpansSpans
pub use Rattle.names.specs.StaticRulesCarriers as StaticRulesCarriers
pub use Rattle.names.specs.StaticRulesNames as StaticRulesNames
pub use Rattle.names.specs.StaticRulesScope as StaticRulesScope
pub use Rattle.names.specs.StaticRulesTypes as StaticRulesTypes
pub use Rattle.table_nodes.specs.TableByNumber as TableNodesTableByNumber
