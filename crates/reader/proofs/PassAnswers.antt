-- What the passes answer, put together: a pass with a fault refuses, one without goes on, and behind the last the text is a dossier.
use mathlib.Core.Path.{◌≡◌, refl, ap, ap₂, ◌∙◌, sym, subst}
use mathlib.Core.Bool.{Bool, true, false, cond}
use mathlib.Core.List.{List}
use Prim.Native.Nat.{ℕ, ◌≤◌}
use lib.Dec.{eqb}
use lib.ListN.{length, take, get_or}
use lib.Seq.{length-take-le}
use borrow.Author.Tests.{eqb-true}
use Rattle.lexical.specs.Symbols.{scan, symbols, place_at}
use Rattle.form.specs.Tree.{Dossier}
use Rattle.form.specs.Headings.{givens_at}
use Rattle.form.specs.Codes.{Numbering, dossier_codes}
use Rattle.parser.specs.Promises.{numbering, Parsed, Parses}
use Rattle.parser.specs.Sections.{Sectioned}
use Rattle.parser.specs.declared.Structure.{Structure}
use Rattle.std.specs.Prelude.{Ok, Err}
use Rattle.refusals.specs.declared.Fault.{Fault}
use Rattle.parser.specs.declared.sections.Bounds.{Bounds}
use Rattle.parser.proofs.Texts.{known}
use Rattle.static_rules.specs.Read as definition
use Rattle.static_rules.specs.Read.{reading, pass, located, read}
use Rattle.type_rules.specs.TypesByNumber.{Names, Sizes, inside_key}
use Rattle.declared_names.specs.NamesByNumber.{givens_key, dossier_key}
use Rattle.declared_names.specs.PassPromises.{CheckSeen}
use Rattle.reader.specs.Promises.{Written, Kept, ReadIs, Reads, Stands, Named, Checks}
use Rattle.reader.proofs.FewGivens.{forms-fewer}
use Rattle.reader.proofs.LeastNameFault.{names-from-free}
use Rattle.reader.proofs.PartSections.{sectioned-placed}
use Rattle.reader.proofs.ParsedReading.{Told, read_is}

-- ---- names ----

-- no fault in the whole, none in what comes first
inside-zero : (a b : ℕ) → inside_key a b ≡ 0 → a ≡ 0
inside-zero a b e = on (eqb a 0) refl e
  where
    on : (t : Bool) → eqb a 0 ≡ t → cond t b a ≡ 0 → a ≡ 0
    on true p q = eqb-true a 0 p
    on false p q = q

pub givens-none : (d : Dossier) (T : Names) (ρ : Numbering) (z : Sizes) → dossier_key d T ρ z ≡ 0 → givens_key d.givens 0 T ρ (givens_at d) ≡ 0
unfolding dossier_key
givens-none d T ρ z e = inside-zero (givens_key d.givens 0 T ρ (givens_at d)) _ e

-- the pass over the parts between the sections
pub named-all : (nodes : List ℕ) (m : ℕ) (b : Bounds) (l : ℕ) (z : Sizes) (r : ℕ) → Sectioned nodes m b
    → CheckSeen nodes m b.givens b.abstracts b.concretes b.ainit b.operations l z r → 16384 ≤ l → Named nodes m r
named-all nodes m b l z r s c long text starts n d st =
    let at = sectioned-placed nodes m d (numbering text) st.inside st.nodes_are b s in
    c.right d (numbering text) at (forms-fewer st.forms) ∙ names-from-free text st.scans st.forms l long z (c.sized d (numbering text) at (forms-fewer st.forms))

-- ---- one pass ----

module _ {text starts nodes : List ℕ} {n m : ℕ} {d : Dossier} (st : Stands text starts nodes n m d) where
  pub place_is : (i : ℕ) → get_or (take n starts) i (length text) ≡ place_at text i
  unfolding place_at
  place_is i = ap (λ (l : List ℕ). get_or l i (length text)) (known st.scans).starts_are

  -- the last pass is past
  pub all-passed : (r : Parsed) (s : Structure) → s.symbols ≡ n → s.numbers ≡ m → r ≡ Ok s
      → r ≡ Ok (record { symbols = length (symbols (scan text)); numbers = length (dossier_codes d (numbering text)) })
  all-passed r s a b e =
      e
      ∙ ap₂ (λ (x y : ℕ). Ok (record { symbols = x; numbers = y }))
      (a ∙ st.scans.counted n refl) (b ∙ sym (length-take-le m nodes st.inside) ∙ ap (length {A = ℕ}) st.nodes_are)

-- ---- the text ----

module _ {text codes₀ starts₀ values₀ nodes₀ codes starts values nodes : List ℕ} {q : Parsed} (p : Parses text codes₀ starts₀ values₀ nodes₀ codes starts values nodes q) where
  told : (t : Parsed) → q ≡ t → Told text starts nodes t
  told t e = subst (Told text starts nodes) e (read_is p)

  pub few-symbols : {s : Structure} → length nodes ≡ 16384 → q ≡ Ok s → s.symbols ≤ 4096
  few-symbols {s} room e = (known ((told (Ok s) e).stands room).scans).few

  module _ {spans₀ table₀ groups₀ rows₀ firsts₀ spans table groups rows firsts : List ℕ} where
    pub reads-structure : {s : Structure} → length nodes ≡ 16384 → q ≡ Ok s → (r : Parsed)
        → Checks (Kept spans₀ table₀ groups₀ rows₀ firsts₀ spans table groups rows firsts)
        (λ (w : List ℕ) (d : Dossier). Written w d spans₀ table₀ groups₀ rows₀ firsts₀ spans table groups rows firsts) starts s.symbols (length text) nodes s.numbers r
        → Reads text codes₀ starts₀ values₀ nodes₀ codes starts values nodes spans₀ table₀ groups₀ rows₀ firsts₀ spans table groups rows firsts r
    reads-structure {s} room e r checks =
        let t = told (Ok s) e in
        let st = t.stands room in
        record {
          parsed = q;
          parses = p;
          answers =
              subst (λ (x : definition.Reading). ReadIs (Kept spans₀ table₀ groups₀ rows₀ firsts₀ spans table groups rows firsts)
              (λ (d : Dossier). Written text d spans₀ table₀ groups₀ rows₀ firsts₀ spans table groups rows firsts) text x r) (sym t.reads) (checks text t.dossier st refl);
        }

    pub reads-refusal : {f : Fault} → q ≡ Err f → Kept spans₀ table₀ groups₀ rows₀ firsts₀ spans table groups rows firsts
        → Reads text codes₀ starts₀ values₀ nodes₀ codes starts values nodes spans₀ table₀ groups₀ rows₀ firsts₀ spans table groups rows firsts (Err f)
    reads-refusal {f} e kept =
        let t = told (Err f) e in
        record {
          parsed = q;
          parses = p;
          answers =
              subst (λ (x : definition.Reading). ReadIs (Kept spans₀ table₀ groups₀ rows₀ firsts₀ spans table groups rows firsts)
              (λ (d : Dossier). Written text d spans₀ table₀ groups₀ rows₀ firsts₀ spans table groups rows firsts) text x (Err f)) (sym t.reads) (refl, kept);
        }

-- nothing is written
pub unwritten : (spans table groups rows firsts : List ℕ) → Kept spans table groups rows firsts spans table groups rows firsts
unwritten spans table groups rows firsts = record { spans_kept = refl; table_kept = refl; groups_kept = refl; rows_kept = refl; firsts_kept = refl }
