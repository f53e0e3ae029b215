-- `form` of a text's symbols, open to computation: to unfold it is to unfold all that its line names. Nothing here need be believed.
use Rattle.std.specs.Prelude.{List, map, ℕ}
use Rattle.lexical.specs.Symbols.{Placed, symbols}
use Rattle.lexical.specs.Computed.{compute_scan}
use Rattle.form.specs.Form as shape
use Rattle.form.specs.Headings as headings
use Rattle.form.specs.Machine as machine
use Rattle.form.specs.Parse as parse
use Rattle.form.specs.Written as written

unfoldable pub compute_form : List ℕ → shape.Outcome
unfolding
    compute_scan shape.refuse shape.excess shape.kind_at shape.is_range_end shape.is_used shape.settled headings.givens_at headings.abstract_at
    headings.concrete_at headings.ainit_at headings.cinit_at headings.retrieve_at headings.operations_at headings.given_length headings.operation_length
    headings.given_headings headings.operation_headings headings.heading_faults machine.start_term machine.operate machine.start_pred machine.on_name
    machine.act machine.step machine.ends machine.run_from machine.run parse.parse_end parse.parse_range parse.is_range parse.parse_domain parse.parse_empty
    parse.parse_term parse.parse_term_rest parse.parse_operand parse.parse_brace parse.parse_items parse.parse_pairs parse.parse_pred parse.parse_pred_rest
    parse.parse_unary parse.parse_paren parse.parse_atom parse.arrow_of parse.parse_type parse.parse_entries parse.parse_elements parse.parse_givens
    parse.parse_declaration parse.parse_declarations parse.parse_parameters parse.parse_where parse.parse_state parse.parse_operations parse.parse_dossier
    parse.form written.write_term written.write_items written.write_pairs written.write_pred written.write_type written.write_entries written.write_elements
    written.write_givens written.write_declarations written.write_where written.write_state written.write_parameters written.write_operations
    written.write_contents written.written written.symbols_of
compute_form text = parse.form (map (λ (x : Placed). x.symbol) (symbols (compute_scan text)))
