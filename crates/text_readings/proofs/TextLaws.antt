-- What is read of a text: its fault, or what the arrays hold of its dossier.
use mathlib.Core.Path.{◌≡◌, refl, sym, ap, subst, ◌∙◌}
use mathlib.Core.List.{List}
use Prim.Native.Nat.{ℕ, ◌≤◌}
use native.Mathlib.Omega.{arith}
use lib.ListN.{length}
use Rattle.refusals.specs.Refusals.{least}
use Rattle.refusals.specs.declared.Fault as refusals
use Rattle.parser.specs.declared.Structure.{Structure}
use Rattle.form.specs.Tree.{Dossier}
use Rattle.form.specs.Codes.{dossier_codes}
use Rattle.parser.specs.Promises.{numbering, Parsed}
use Rattle.std.specs.Prelude.{Ok, Err}
use Rattle.static_rules.specs.Read as definition
use Rattle.static_rules.specs.Read.{refusal, reading, located, read_sizes, read_bindings, names_read, read}
use Rattle.static_rules.specs.Names.{name_faults}
use Rattle.static_rules.specs.Limits.{binding_faults, size_faults}
use Rattle.reader.specs.Promises.{Reads, ReadIs, Written, Kept, Stands}
use Rattle.reader.proofs.ParsedReading.{Told, read_is}
use Rattle.reader.proofs.ReadGives.{past, same-dossier, read-gives}
use Rattle.labels.proofs.ReadingsReadReadings.{read-reading}
use Rattle.labels.proofs.ReadLabels.{read-labels}
use Rattle.labels.proofs.SpeltNames.{spelt}
use Rattle.text_readings.specs.TextPromises.{Held, ReadAs, ReadsText, Counted, Gathered}
use Rattle.text_readings.proofs.ReadTexts.{IsRefusal}

-- the dossier that the passes over names, bindings and sizes leave
names-passed : (text : List ℕ) (x d : Dossier) → names_read text x ≡ reading d → x ≡ d
unfolding names_read read_bindings read_sizes
names-passed text x d e =
    let n = past (located text (least (name_faults x))) (read_bindings text x) d e in
    let b = past (located text (least (binding_faults x))) (read_sizes text x) d n.1 in
    same-dossier x d (past (located text (least (size_faults x))) (reading x) d b.1).1

-- the nodes of a text that is read
record NodesOf (text starts nodes : List ℕ) (d : Dossier) : Type 0 where
  symbols_count : ℕ
  stands : Stands text starts nodes symbols_count (length (dossier_codes d (numbering text))) d

nodes-of : {text starts nodes : List ℕ} (p : Parsed) (d : Dossier) → length nodes ≡ 16384 → read text ≡ reading d → Told text starts nodes p → NodesOf text starts nodes d
nodes-of {text} {starts} {nodes} (Ok s) d l e t =
    let f : t.dossier ≡ d = names-passed text t.dossier d (sym t.reads ∙ e) in
    subst (NodesOf text starts nodes) f
    (record { symbols_count = s.symbols; stands = subst (λ (k : ℕ). Stands text starts nodes s.symbols k t.dossier) t.size (t.stands l) })
nodes-of (Err f) d l e t = absurd (subst IsRefusal (sym t.reads ∙ e) tt)

numbers-of : {s : Structure} {a b : ℕ} → ◌≡◌ {A = Parsed} (Ok s) (Ok (record { symbols = a; numbers = b })) → s.numbers ≡ b
numbers-of e = cc

module _ {text codes₀ starts₀ values₀ nodes₀ codes starts values nodes spans₀ table₀ groups₀ rows₀ firsts₀ spans table groups rows firsts : List ℕ} {r : Parsed}
    (q : Reads text codes₀ starts₀ values₀ nodes₀ codes starts values nodes spans₀ table₀ groups₀ rows₀ firsts₀ spans table groups rows firsts r) where
  abbrev Leaves : definition.Reading → Type 0
  Leaves x =
      ReadIs (Kept spans₀ table₀ groups₀ rows₀ firsts₀ spans table groups rows firsts)
      (λ (d : Dossier). Written text d spans₀ table₀ groups₀ rows₀ firsts₀ spans table groups rows firsts) text x r

  -- an answer, by what it is
  as-is : (x : definition.Reading) {t : Parsed} → r ≡ t → Leaves x
      → ReadIs (Kept spans₀ table₀ groups₀ rows₀ firsts₀ spans table groups rows firsts)
      (λ (d : Dossier). Written text d spans₀ table₀ groups₀ rows₀ firsts₀ spans table groups rows firsts) text x t
  as-is x e a =
      subst (λ (y : Parsed). ReadIs (Kept spans₀ table₀ groups₀ rows₀ firsts₀ spans table groups rows firsts)
      (λ (d : Dossier). Written text d spans₀ table₀ groups₀ rows₀ firsts₀ spans table groups rows firsts) text x y) e a

  refused_as : {f : refusals.Fault} (labels : List ℕ) (x : definition.Reading) → Leaves x → r ≡ Err f → ReadAs text table rows firsts groups labels x (Err f)
  unfolding ReadAs
  refused_as labels (refusal g) a e = (as-is (refusal g) e a).0
  refused_as labels (reading d) a e = let h = sym e ∙ a.0 in (cc)

  few-as : {s : Structure} (x : definition.Reading) → read text ≡ x → Leaves x → length nodes ≡ 16384 → r ≡ Ok s → s.numbers ≤ 16384
  few-as (refusal f) h a l e = absurd (as-is (refusal f) e a).0
  few-as {s} (reading d) h a l e =
      let b = (nodes-of q.parsed d l h (read_is q.parses)).stands.short in
      let i = sym e ∙ a.0 in
      let j : s.numbers ≡ length (dossier_codes d (numbering text)) = numbers-of i in
      omega arith

  held : {m : ℕ} (d : Dossier) {old labels : List ℕ} → length nodes ≡ 16384 → length table₀ ≡ 16384 → length table ≡ 16384 → read text ≡ reading d → m ≡ length (dossier_codes d (numbering text))
      → Written text d spans₀ table₀ groups₀ rows₀ firsts₀ spans table groups rows firsts → Gathered nodes starts spans table groups m old labels
      → Held text table rows firsts groups labels d
  held {m} d {old} {labels} n l t h j w g =
      let o = nodes-of q.parsed d n h (read_is q.parses) in
      let s : Stands text starts nodes o.symbols_count m d = subst (λ (k : ℕ). Stands text starts nodes o.symbols_count k d) (sym j) o.stands in
      let b = s.short in
      record {
        arrays = read-reading text nodes spans₀ table₀ groups₀ rows₀ firsts₀ spans table groups rows firsts d m h s.inside s.nodes_are b (omega arith) (omega arith) w;
        labelled =
            read-labels text nodes starts spans₀ table₀ groups₀ rows₀ firsts₀ spans table groups rows firsts old g.first g.second labels d m h s.inside s.nodes_are
            (omega arith) w (λ x. spelt s.scans {x = x}) g.elements g.titles g.variables;
      }

  counted : {m k : ℕ} (d : Dossier) → length nodes ≡ 16384 → read text ≡ reading d → m ≡ length (dossier_codes d (numbering text)) → Counted nodes m k → k ≡ length d.operations
  counted {m} d n h j c =
      let o = nodes-of q.parsed d n h (read_is q.parses) in
      let s : Stands text starts nodes o.symbols_count m d = subst (λ (k : ℕ). Stands text starts nodes o.symbols_count k d) (sym j) o.stands in
      let b = s.short in
      c.exact d (numbering text) s.inside s.nodes_are (read-gives text d h).variables.operations (omega arith)

  read_as : {s : Structure} {k : ℕ} {old labels : List ℕ} (x : definition.Reading) → read text ≡ x → Leaves x → length nodes ≡ 16384 → length table₀ ≡ 16384 → length table ≡ 16384 → r ≡ Ok s
      → Gathered nodes starts spans table groups s.numbers old labels → Counted nodes s.numbers k → ReadAs text table rows firsts groups labels x (Ok k)
  unfolding ReadAs
  read_as (refusal f) h a n l t e g c = absurd (as-is (refusal f) e a).0
  read_as {s} (reading d) h a n l t e g c =
      let i = sym e ∙ a.0 in
      let j : s.numbers ≡ length (dossier_codes d (numbering text)) = numbers-of i in
      (ap Ok (counted d n h j c), held d n l t h j a.1 g)

  -- a refusal
  pub text-refused : {f : refusals.Fault} (labels : List ℕ) → r ≡ Err f → ReadsText text table rows firsts groups labels (Err f)
  text-refused labels e = record { answer = refused_as labels (read text) q.answers e }

  -- how many numbers the nodes have
  pub nodes-few : {s : Structure} → length nodes ≡ 16384 → r ≡ Ok s → s.numbers ≤ 16384
  nodes-few l e = few-as (read text) refl q.answers l e

  pub text-read : {s : Structure} {k : ℕ} {old labels : List ℕ} → length nodes ≡ 16384 → length table₀ ≡ 16384 → length table ≡ 16384 → r ≡ Ok s → Gathered nodes starts spans table groups s.numbers old labels → Counted nodes s.numbers k
      → ReadsText text table rows firsts groups labels (Ok k)
  text-read n l t e g c = record { answer = read_as (read text) refl q.answers n l t e g c }
