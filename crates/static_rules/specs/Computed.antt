-- `read`, open to computation: to unfold it is to unfold all that its line names. Nothing here need be believed.
use Rattle.std.specs.Prelude.{List, ℕ}
use Rattle.form.specs.Computed.{compute_form}
use Rattle.static_rules.specs.Carriers as carriers
use Rattle.static_rules.specs.Limits as limits
use Rattle.static_rules.specs.Names as names
use Rattle.static_rules.specs.Read as read
use Rattle.static_rules.specs.Scope as scope
use Rattle.static_rules.specs.Types as types

unfoldable pub compute_read : List ℕ → read.Reading
unfolding
    compute_form carriers.arrow_count carriers.count_of carriers.largest carriers.same_name carriers.given_of carriers.carrier_of limits.binding_count
    limits.operation_bindings limits.binding_faults limits.size_term limits.size_items limits.size_pairs limits.size_pred limits.context_sizes limits.size_faults
    names.whole names.inside names.range_fits names.range_faults names.pairs_fault names.divisor_faults names.new_name names.whole_pairs names.judged_pairs
    names.judge_term names.judge_items names.judge_pairs names.judge_pred names.type_faults names.declaration_faults names.element_faults names.given_faults
    names.parameter_faults names.operation_faults names.context_faults names.name_faults read.read_sizes read.read_bindings read.names_read
    read.read_headings read.read_form read.read_symbols read.read scope.is_taken scope.element_of scope.place_in scope.type_of_name scope.variables scope.parameters_of
    scope.given_names scope.operation_contexts scope.contexts types.has types.same_over_type types.same_type types.is_any_set types.are_numbers types.member_fits
    types.related_fits types.brace_fits types.pairs_fit
compute_read text = read.read text
