-- What the definition reads of a text, from what `parse` answers: its refusal, or the passes over the names of the dossier that stands in the nodes.
use mathlib.Core.Path.{◌≡◌, refl, ap, ◌∙◌, sym, subst}
use mathlib.Core.List.{List, ◌++◌}
use mathlib.Core.Option.{Option, none, some}
use Prim.Native.Nat.{ℕ}
use native.Mathlib.Omega.{arith}
use lib.ListN.{length, take, drop, length-append}
use lib.Seq.{take_at}
use Rattle.lexical.specs.Symbols.{scan, symbols, length_faults, scan_faults}
use Rattle.refusals.specs.Refusals.{Fault, least}
use Rattle.lexical.specs.Promises.{Scanned, Scans, fault_of, first_of}
use Rattle.std.specs.Prelude.{Ok, Err}
use Rattle.refusals.specs.declared.Fault as refusals
use Rattle.refusals.specs.RefusalNames.{fault_is}
use Rattle.form.specs.Tree.{Dossier}
use Rattle.form.specs.Form.{Outcome, refused, formed, FormOf, Forms}
use Rattle.form.specs.Parse.{form}
use Rattle.form.specs.Headings.{heading_faults}
use Rattle.form.specs.Codes.{dossier_codes}
use Rattle.form.proofs.ScannedSymbols.{scan-spelled}
use Rattle.form.proofs.FormOf.{form_of, one-outcome}
use Rattle.parser.specs.Promises.{text_symbols, numbering, Refuses, AnswersHeadings, AnswersForm, Answers, Parsed, Parses}
use Rattle.static_rules.specs.Read.{Reading, refusal, pass, located, after_form, names_read, read_headings, read_form, read_symbols, read}
use Rattle.reader.specs.Promises.{Stands}

-- the text is refused with this fault
pub record RefusedAs (text : List ℕ) (f : refusals.Fault) : Type 0 where
  pub reads : read text ≡ refusal (fault_is f)

-- the text is a dossier by form: the passes behind number 7 decide
pub record Structured (text starts nodes : List ℕ) (n m : ℕ) : Type 0 where
  pub dossier : Dossier
  pub stands : length nodes ≡ 16384 → Stands text starts nodes n m dossier
  pub reads : read text ≡ names_read text dossier
  pub count : n ≡ length (symbols (scan text))
  pub size : m ≡ length (dossier_codes dossier (numbering text))

abbrev pub Told : (text starts nodes : List ℕ) → Parsed → Type 0
Told text starts nodes (Ok s) = Structured text starts nodes s.symbols s.numbers
Told text starts nodes (Err f) = RefusedAs text f

-- two passes one behind the other
two-passes : (a b : Option Fault) (x : Reading) → pass a (pass b x) ≡ pass (first_of a b) x
two-passes none b x = refl
two-passes (some f) b x = refl

-- how many symbols a scan without a fault answers
symbols-scanned : {text codes₀ starts₀ values₀ codes starts values : List ℕ} (s : Scanned) → Scans text codes₀ starts₀ values₀ codes starts values s → fault_of s ≡ none
    → Scans text codes₀ starts₀ values₀ codes starts values (Ok (length (symbols (scan text))))
symbols-scanned {text} {codes₀} {starts₀} {values₀} {codes} {starts} {values} (Ok n) h e =
    subst (λ (k : ℕ). Scans text codes₀ starts₀ values₀ codes starts values (Ok k)) (h.counted n refl) h
symbols-scanned (Err f) h e = absurd (cc)

-- a refusal of `parse`
refuses_as : (text starts nodes : List ℕ) (f : Fault) (nodes₀ : List ℕ) (q : Parsed) → read text ≡ refusal f → Refuses f nodes₀ nodes q → Told text starts nodes q
refuses_as text starts nodes f nodes₀ (Ok s) e a = absurd a
refuses_as text starts nodes f nodes₀ (Err g) e a = record { reads = e ∙ ap refusal (sym a.0) }

module _ (nodes₀ nodes : List ℕ) {text codes₀ starts₀ values₀ codes starts values : List ℕ} {s : Scanned} (h : Scans text codes₀ starts₀ values₀ codes starts values s) where
  -- 1, 2 and 3
  read-scanned : read text ≡ pass (fault_of s) (read_form text)
  unfolding read read_symbols
  read-scanned =
      two-passes (least (length_faults text)) (least (scan_faults 0 (scan text))) (read_form text)
      ∙ ap (λ (o : Option Fault). pass o (read_form text)) (sym h.answer)

  -- 4, 5 and 6
  form-is : (o : Outcome) → FormOf (text_symbols text) o → form (text_symbols text) ≡ o
  form-is o f = one-outcome (text_symbols text) (form (text_symbols text)) o (form_of (text_symbols text) (scan-spelled text)) f

  read-formed : (o : Outcome) → FormOf (text_symbols text) o → read_form text ≡ after_form text o
  unfolding read_form
  read-formed o f = ap (after_form text) (form-is o f)

  module _ (faultless : fault_of s ≡ none) where
    read-by-form : (o : Outcome) → FormOf (text_symbols text) o → read text ≡ after_form text o
    read-by-form o f = read-scanned ∙ ap (λ (x : Option Fault). pass x (read_form text)) faultless ∙ read-formed o f

    stands : (d : Dossier) → Forms (text_symbols text) d → nodes ≡ dossier_codes d (numbering text) ++ drop (length (dossier_codes d (numbering text))) nodes₀
        → length nodes ≡ 16384 → Stands text starts nodes (length (symbols (scan text))) (length (dossier_codes d (numbering text))) d
    stands d f e room =
        let c : List ℕ = dossier_codes d (numbering text) in
        let l = length-append c (drop (length c) nodes₀) in
        let n : length nodes ≡ length (c ++ drop (length c) nodes₀) = ap (length {A = ℕ}) e in
        record {
          codes₀ = codes₀;
          starts₀ = starts₀;
          values₀ = values₀;
          codes = codes;
          values = values;
          scans = symbols-scanned s h faultless;
          forms = f;
          inside = omega arith;
          short = omega arith;
          nodes_are = ap (take (length c)) e ∙ take_at c (drop (length c) nodes₀) (length c) refl;
        }

    -- 7
    told-headings : (d : Dossier) → Forms (text_symbols text) d → (g : Option Fault) → least (heading_faults d) ≡ g → (q : Parsed) → AnswersHeadings text d g nodes₀ nodes q
        → Told text starts nodes q
    unfolding read_headings
    told-headings d f (some x) e q a =
        refuses_as text starts nodes _ nodes₀ q (read-by-form (formed d) f ∙ ap (λ (o : Option Fault). pass (located text o) (names_read text d)) e) a
    told-headings d f none e q a =
        subst (Told text starts nodes) (sym a.0)
        (record {
          dossier = d;
          stands = stands d f a.1;
          reads = read-by-form (formed d) f ∙ ap (λ (o : Option Fault). pass (located text o) (names_read text d)) e;
          count = refl;
          size = refl;
        })

    told-form : (o : Outcome) → FormOf (text_symbols text) o → (q : Parsed) → AnswersForm text o nodes₀ nodes q → Told text starts nodes q
    told-form (refused i r) f q a = refuses_as text starts nodes _ nodes₀ q (read-by-form (refused i r) f) a
    told-form (formed d) f q a = told-headings d f (least (heading_faults d)) refl q a

  told-scan : (g : Option Fault) → fault_of s ≡ g → (q : Parsed) → Answers text g nodes₀ nodes q → Told text starts nodes q
  told-scan (some f) e q a = refuses_as text starts nodes f nodes₀ q (read-scanned ∙ ap (λ (o : Option Fault). pass o (read_form text)) e) a
  told-scan none e q a = told-form e a.0 a.1.0 q a.1.1

-- what `parse` answers is what the definition reads, up to number 7
pub read_is : {text codes₀ starts₀ values₀ nodes₀ codes starts values nodes : List ℕ} {q : Parsed} → Parses text codes₀ starts₀ values₀ nodes₀ codes starts values nodes q
    → Told text starts nodes q
read_is {nodes₀ = nodes₀} {nodes = nodes} {q = q} p = told-scan nodes₀ nodes p.scans (fault_of p.scanned) refl q p.answers
