-- Document 01: a text is refused with its number and place, or has one reading.
use Rattle.std.specs.Prelude.{List, map, ℕ}
use Rattle.std.proofs.Math.Option.{Option, none, some}
use Rattle.form.specs.LexicalSymbols.{Placed, scan, symbols, place_at, length_faults, scan_faults}
use Rattle.form.specs.LexicalRefusals.{Fault, fault, least}
use Rattle.form.specs.Tree.{Dossier}
use Rattle.form.specs.Form.{Outcome, refused, formed}
use Rattle.form.specs.Parse.{form}
use Rattle.form.specs.Headings.{heading_faults}
use Rattle.static_rules.specs.Names.{name_faults}
use Rattle.static_rules.specs.Limits.{binding_faults, size_faults}

pub data Reading : Type 0 where
  refusal : Fault → Reading
  reading : Dossier → Reading

-- "The first pass with a fault decides, then the least place, then the least number."; the faults of a pass over symbols by their numbers
abbrev pub pass : Option Fault → Reading → Reading
pass none r = r
pass (some f) r = refusal f

abbrev pub located : List ℕ → Option Fault → Option Fault
located text none = none
located text (some f) = some (fault (place_at text f.place) f.refusal)

-- "Passes: ... 7; 8 to 11 and 14; 12; 13."
unfoldable pub read_sizes : List ℕ → Dossier → Reading
read_sizes text d = pass (located text (least (size_faults d))) (reading d)

unfoldable pub read_bindings : List ℕ → Dossier → Reading
read_bindings text d = pass (located text (least (binding_faults d))) (read_sizes text d)

unfoldable pub names_read : List ℕ → Dossier → Reading
names_read text d = pass (located text (least (name_faults d))) (read_bindings text d)

unfoldable pub read_headings : List ℕ → Dossier → Reading
read_headings text d = pass (located text (least (heading_faults d))) (names_read text d)

-- "4, 5 and 6": `form` computes the condition that form/specs/Form states, by the theorem form/proofs/FormOf.form-of
abbrev pub after_form : List ℕ → Outcome → Reading
after_form text (refused i r) = refusal (fault (place_at text i) r)
after_form text (formed d) = read_headings text d

unfoldable pub read_form : List ℕ → Reading
read_form text = after_form text (form (map (λ (x : Placed). x.symbol) (symbols (scan text))))

-- "Passes: 1; 2 and 3"
unfoldable pub read_symbols : List ℕ → Reading
read_symbols text = pass (least (scan_faults 0 (scan text))) (read_form text)

unfoldable pub read : List ℕ → Reading
read text = pass (least (length_faults text)) (read_symbols text)
