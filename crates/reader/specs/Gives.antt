-- What a text that is read gives to those above: `read text ≡ reading d` implies all of it (reader/proofs/ReadGives).
use Rattle.std.specs.Prelude.{◌≡◌, List, [], ℕ}
use Rattle.lexical.specs.Symbols.{scan, length_faults, scan_faults}
use Rattle.form.specs.Tree.{Dossier}
use Rattle.form.specs.Form.{Forms}
use Rattle.form.specs.Headings.{heading_faults}
use Rattle.form.specs.BoundNames.{BindsFew}
use Rattle.parser.specs.Promises.{text_symbols}
use Rattle.static_rules.specs.Names.{name_faults}
use Rattle.static_rules.specs.Limits.{binding_faults, size_faults}
use Rattle.declared_names.specs.PassPromises.{Fewer}
use Rattle.search_groups.specs.GroupPromises.{Few}

pub record Gives (text : List ℕ) (d : Dossier) : Type 0 where
  -- 1: at most 32,768 bytes
  pub length : length_faults text ≡ []
  -- 2 and 3: every symbol is listed, and there are at most 4,096
  pub symbols : scan_faults 0 (scan text) ≡ []
  -- 4, 5 and 6: the text's symbols are those that d is written with, d is grouped as the binding rules say, and no symbol opens or counts too much
  pub form : Forms (text_symbols text) d
  -- 7: the bodies' headings are the contents entries
  pub headings : heading_faults d ≡ []
  -- 8 to 11 and 14: names differ and are in reach, types fit and are not too wide, no divisor is 0
  pub names : name_faults d ≡ []
  -- 12: at most 4,096 bindings of a state's carriers, and 64 of an operation's inputs and of its outputs
  pub bindings : binding_faults d ≡ []
  -- 13: every size is at most 2,147,483,647
  pub sizes : size_faults d ≡ []
  -- 6: at most 8 given sets, and 8 elements in one
  pub given_sets : Fewer d.givens
  -- 6: at most 8 variables in a state, 16 operations, and 3 inputs and 3 outputs in one
  pub variables : Few d
  -- 5: at most three bound names in reach anywhere, so that their slots do not run out
  pub bound_names : BindsFew d
