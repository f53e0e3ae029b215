-- `scan`, open to computation: to unfold it is to unfold all that its line names. Nothing here need be believed.
use Rattle.std.specs.Prelude.{List, ℕ}
use Rattle.lexical.specs.Base as base
use Rattle.lexical.specs.Kinds as kinds
use Rattle.lexical.specs.Lists as lists
use Rattle.refusals.specs.Refusals as refusals
use Rattle.lexical.specs.Symbols as symbols

unfoldable pub compute_scan : List ℕ → symbols.Scan
unfolding
    base.dossier_of base.base kinds.code_of kinds.is kinds.lookup lists.bytes lists.same lists.begins lists.all lists.any lists.count lists.filter
    lists.find lists.concat lists.upward refusals.number_of refusals.before refusals.lesser refusals.least refusals.unless symbols.between symbols.class_of
    symbols.run symbols.decimal_from symbols.is_number symbols.number_found symbols.reserved symbols.ending_of symbols.word_of symbols.longest symbols.by_class
    symbols.symbol_at symbols.scan_from symbols.scan symbols.symbols symbols.place_at symbols.length_faults symbols.scan_faults
compute_scan text = symbols.scan text
