pub mod Conjuncts
pub mod GroupPromises
-- what crates above name of crates below
pub use Rattle.form.specs.BoundNames as FormBoundNames
pub use Rattle.form.specs.Tree as FormTree
pub use Rattle.form.specs.Written as FormWritten
pub use Rattle.node_spans.specs.Spans as NodeSpansSpans
pub use Rattle.table_nodes.specs.TableByNumber as TableNodesTableByNumber
pub use Rattle.table_places.specs.DossierTable as TablePlacesDossierTable
pub use Rattle.table_places.specs.ResolvedTable as TablePlacesResolvedTable
pub use Rattle.table_places.specs.TablePromises as TablePlacesTablePromises
