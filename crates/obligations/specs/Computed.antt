-- `report`, open to computation: to unfold it is to unfold all that its line names. Nothing here need be believed.
use Rattle.std.specs.Prelude.{List, ℕ}
use Rattle.meaning.specs.Computed.{compute_holds}
use Rattle.obligations.specs.Machines as machines
use Rattle.obligations.specs.Obligations as obligations
use Rattle.obligations.specs.Order as order
use Rattle.obligations.specs.Report as report

unfoldable pub compute_report : List ℕ → List ℕ
unfolding
    compute_holds machines.pre obligations.initialisation_at obligations.applicability_at obligations.correctness_at order.passes order.applicability_checks
    order.correctness_checks order.operation_checks order.opening order.checks order.total order.variables_of order.binding_of order.look report.decimal_before
    report.decimal report.signed_decimal report.name_bytes report.element_bytes report.pair_bytes report.separated report.braced report.value_bytes
    report.binding_lines report.witness_lines report.check_at report.titles report.refuted_line report.count_line report.verdict_lines report.refused_line
    report.report
compute_report text = report.report text
