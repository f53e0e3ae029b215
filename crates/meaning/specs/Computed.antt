-- `holds`, open to computation: to unfold it is to unfold all that its line names. Nothing here need be believed.
use Rattle.std.specs.Prelude.{Bool}
use Rattle.static_rules.specs.FormTree.{Pred}
use Rattle.static_rules.specs.Computed.{compute_read}
use Rattle.sets.specs.Computed.{compute_div}
use Rattle.meaning.specs.Bindings as bindings
use Rattle.meaning.specs.Meaning as meaning
use Rattle.meaning.specs.Operations as operations
use Rattle.meaning.specs.Values as values

unfoldable pub compute_holds : Pred → meaning.Environment → Bool
unfolding
    compute_read compute_div bindings.pair_sets bindings.values_of bindings.flat bindings.bindings meaning.value_of meaning.size_of_given
    meaning.element_values meaning.number_values meaning.domain_values meaning.quantify meaning.in_range meaning.is_member meaning.is_pair_of meaning.value
    meaning.items_value meaning.pairs_value meaning.holds operations.abstract_bindings operations.concrete_bindings operations.output_bindings
    operations.is_state operations.abstract_initial operations.concrete_initial operations.related operations.after operations.allows operations.abstract_step
    operations.concrete_step operations.abstract_pre operations.concrete_pre values.prefix_value values.operator_value values.division_value values.singleton
    values.pair_bit values.single_pair values.compare values.connect
compute_holds p ρ = meaning.holds p ρ
