-- What follows for the dossier of a text that is read: no pass found a fault, and the counts of numbers 5 and 6 are small.
use mathlib.Core.Path.{◌≡◌, refl, subst}
use mathlib.Core.List.{List, []}
use mathlib.Core.Option.{Option, none, some}
use Prim.Native.Nat.{ℕ}
use Rattle.lexical.specs.Symbols.{scan, length_faults, scan_faults}
use Rattle.refusals.specs.Refusals.{Fault, least}
use Rattle.form.specs.Tree.{Dossier}
use Rattle.form.specs.Form.{Outcome, refused, formed, FormOf}
use Rattle.form.specs.Parse.{form}
use Rattle.form.specs.Headings.{heading_faults}
use Rattle.form.proofs.FewBoundNames.{forms-bind-few}
use Rattle.form.proofs.FormOf.{form_of}
use Rattle.form.proofs.ScannedSymbols.{scan-spelled}
use Rattle.parser.specs.Promises.{text_symbols}
use Rattle.static_rules.specs.Names.{name_faults}
use Rattle.static_rules.specs.Limits.{binding_faults, size_faults}
use Rattle.static_rules.specs.Read.{Reading, refusal, reading, pass, located, read_sizes, read_bindings, names_read, read_headings, after_form, read_form, read_symbols, read}
use Rattle.reader.specs.Gives.{Gives}
use Rattle.reader.proofs.FewGivens.{forms-fewer}
use Rattle.reader.proofs.FewVariables.{forms-few}
use Rattle.refusals.proofs.FaultLists.{none-least}

abbrev pub IsRefusal : Reading → Type 0
IsRefusal (refusal f) = Unit {0}
IsRefusal (reading d) = ⊥

-- where a pass leaves the reading of a dossier, it found no fault
pub past : (o : Option Fault) (x : Reading) (d : Dossier) → pass o x ≡ reading d → (o ≡ none) × (x ≡ reading d)
past none x d e = (refl, e)
past (some f) x d e = absurd (subst IsRefusal e tt)

abbrev IsSome : Option Fault → Type 0
IsSome none = ⊥
IsSome (some f) = Unit {0}

unlocated : (text : List ℕ) (o : Option Fault) → located text o ≡ none → o ≡ none
unlocated text none e = refl
unlocated text (some f) e = absurd (subst IsSome e tt)

pub same-dossier : (c d : Dossier) → reading c ≡ reading d → c ≡ d
same-dossier c d e = cc

-- 4 to 13, where the pass for form has the outcome o
from-form : (text : List ℕ) (o : Outcome) (d : Dossier) → length_faults text ≡ [] → scan_faults 0 (scan text) ≡ [] → FormOf (text_symbols text) o → after_form text o ≡ reading d
    → Gives text d
unfolding read_headings names_read read_bindings read_sizes
from-form text (refused i r) d l p f e = absurd (subst IsRefusal e tt)
from-form text (formed c) d l p f e =
    let h = past (located text (least (heading_faults c))) (names_read text c) d e in
    let n = past (located text (least (name_faults c))) (read_bindings text c) d h.1 in
    let b = past (located text (least (binding_faults c))) (read_sizes text c) d n.1 in
    let s = past (located text (least (size_faults c))) (reading c) d b.1 in
    subst (Gives text) (same-dossier c d s.1)
    (record {
      length = l;
      symbols = p;
      form = f;
      headings = none-least (heading_faults c) (unlocated text (least (heading_faults c)) h.0);
      names = none-least (name_faults c) (unlocated text (least (name_faults c)) n.0);
      bindings = none-least (binding_faults c) (unlocated text (least (binding_faults c)) b.0);
      sizes = none-least (size_faults c) (unlocated text (least (size_faults c)) s.0);
      given_sets = forms-fewer f;
      variables = forms-few f;
      bound_names = forms-bind-few f;
    })

-- what those above the reader take of a text that is read
pub read-gives : (text : List ℕ) (d : Dossier) → read text ≡ reading d → Gives text d
unfolding read read_symbols read_form
read-gives text d e =
    let l = past (least (length_faults text)) (read_symbols text) d e in
    let p = past (least (scan_faults 0 (scan text))) (read_form text) d l.1 in
    from-form text (form (text_symbols text)) d (none-least (length_faults text) l.0) (none-least (scan_faults 0 (scan text)) p.0)
    (form_of (text_symbols text) (scan-spelled text)) p.1
