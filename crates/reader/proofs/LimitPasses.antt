-- The passes for bindings and sizes over the structure of a text: each finds the least of its faults, where that for names found none.
use mathlib.Core.Path.{◌≡◌, refl, ap, ◌∙◌, sym, subst}
use mathlib.Core.List.{List, map}
use mathlib.Core.Option.{none}
use Prim.Native.Nat.{ℕ, ◌≤◌, ◌<◌}
use native.Mathlib.Omega.{arith}
use lib.ListN.{length, get_or, replicate}
use Rattle.refusals.specs.Refusals.{least}
use Rattle.form.specs.Tree.{Dossier}
use Rattle.form.specs.Headings.{givens_at}
use Rattle.form.specs.Codes.{given_codes}
use Rattle.parser.specs.Promises.{numbering}
use Rattle.parser.specs.Sections.{PartOf, Sectioned}
use Rattle.parser.specs.declared.sections.Bounds.{Bounds}
use Rattle.static_rules.specs.Carriers.{size_of}
use Rattle.static_rules.specs.Names.{name_faults}
use Rattle.static_rules.specs.Limits.{binding_faults, size_faults}
use Rattle.type_rules.specs.TypesByNumber.{Names, Sizes, key_of}
use Rattle.declared_names.specs.NamesByNumber.{givens_key, givens_named}
use Rattle.declared_names.specs.PassPromises.{GivenSeen}
use Rattle.node_spans.specs.Spans.{Spanned, Structured}
use Rattle.node_spans.proofs.Structure.{structured}
use Rattle.binding_counts.specs.BindingsByNumber.{BindingsSeen}
use Rattle.limits.specs.DossierSizesByNumber.{MeasuresSeen}
use Rattle.limits.proofs.TypesFit.{declared-fit}
use Rattle.limits.proofs.GivenSizes.{givens-shown}
use Rattle.limits.proofs.SizesAgreeDossier.{dossier-near, measures-least}
use Rattle.reader.specs.Occurrences.{Occurs}
use Rattle.reader.specs.Promises.{Stands, Tabled, Finds}
use Rattle.reader.proofs.FewGivens.{forms-fewer, forms-few-operations}
use Rattle.reader.proofs.TextLetters.{dossier-in}
use Rattle.reader.proofs.LeastNameFault.{letters-numbered, names-from-free}
use Rattle.reader.proofs.PartSections.{sectioned-placed}
use Rattle.reader.proofs.PassAnswers.{givens-none}
use Rattle.refusals.proofs.FaultLists.{none-least}

module _ {text starts nodes : List ℕ} {n m : ℕ} {d : Dossier} (st : Stands text starts nodes n m d) where
  -- the spans say where the parts of the dossier stand
  parted : (spans₀ spans : List ℕ) (k : ℕ) → Spanned nodes m spans₀ spans k → Structured nodes spans k d (numbering text)
  parted spans₀ spans k s =
      let a = s.exact d (numbering text) st.inside st.nodes_are (forms-few-operations st.forms) (omega (arith, st.short)) in
      subst (λ (c : ℕ). Structured nodes spans c d (numbering text)) (sym a.0) (structured d (numbering text) nodes spans m st.inside st.nodes_are _ a.1)

  -- no fault of names, none among the given sets
  givens-right : (l : ℕ) → 16384 ≤ l → least (name_faults d) ≡ none → givens_key d.givens 0 (replicate l 0) (numbering text) (givens_at d) ≡ 0
  givens-right l long e =
      givens-none d (replicate l 0) (numbering text) (map size_of d.givens)
      (names-from-free text st.scans st.forms l long (map size_of d.givens) (λ z k h. refl) ∙ ap key_of e)

-- the table of given sets
module _ (nodes : List ℕ) (m : ℕ) (b : Bounds) (l : ℕ) (T : Names) (z : Sizes) (r : ℕ) (code : List ℕ) (s : Sectioned nodes m b) (part : PartOf nodes b.givens b.abstracts code)
    (seen : GivenSeen code (replicate l 0) T z r) (long : 16384 ≤ l) {text starts : List ℕ} {n : ℕ} {d : Dossier} (st : Stands text starts nodes n m d)
    (no_fault : least (name_faults d) ≡ none) where
  given-part : code ≡ given_codes (givens_at d) d.givens (numbering text)
  given-part =
      let at = sectioned-placed nodes m d (numbering text) st.inside st.nodes_are b s in
      let o = at.ordered in
      let i = at.inside in
      part.part (omega arith) (omega arith) ∙ at.given_part

  none_seen : r ≡ 0
  none_seen = seen.right d.givens (givens_at d) (numbering text) given-part (forms-fewer st.forms) ∙ givens-right st l long no_fault

  table-named : T ≡ givens_named d.givens 0 (replicate l 0) (numbering text)
  table-named = seen.named d.givens (givens_at d) (numbering text) given-part (forms-fewer st.forms) none_seen

  table-sized : (k : ℕ) → k < length d.givens → get_or z k 0 ≡ get_or (map size_of d.givens) k 0
  table-sized = seen.sized d.givens (givens_at d) (numbering text) given-part (forms-fewer st.forms) none_seen

pub tabled : (nodes : List ℕ) (m : ℕ) (b : Bounds) (l : ℕ) (T : Names) (z : Sizes) (r : ℕ) (code : List ℕ) → Sectioned nodes m b
    → PartOf nodes b.givens b.abstracts code → GivenSeen code (replicate l 0) T z r → Tabled nodes m l T z
tabled nodes m b l T z r code s part seen =
    record {
      named = λ long text starts n d st e. table-named nodes m b l T z r code s part seen long st e;
      sized = λ long text starts n d st e. table-sized nodes m b l T z r code s part seen long st e;
    }

-- 12
pub bindings-found : (nodes spans₀ spans : List ℕ) (m k l : ℕ) (T : Names) (z : Sizes) (r : ℕ) → Tabled nodes m l T z → 16384 ≤ l → Spanned nodes m spans₀ spans k
    → BindingsSeen nodes spans k T z r → Finds binding_faults nodes m r
bindings-found nodes spans₀ spans m k l T z r table long spanned seen text starts n d st e =
    let none-at = none-least (name_faults d) e in
    seen d (numbering text) (parted st spans₀ spans k spanned) (declared-fit d none-at)
    (givens-shown (numbering text) (Occurs text) (letters-numbered text st.scans) d (dossier-in text st.forms) none-at (forms-fewer st.forms).sets l long T
    (table.named long text starts n d st e) z (table.sized long text starts n d st e))

-- 13
pub sizes-found : (nodes spans₀ spans : List ℕ) (m k l r : ℕ) → Spanned nodes m spans₀ spans k → 16384 ≤ l → MeasuresSeen nodes spans k l r → Finds size_faults nodes m r
sizes-found nodes spans₀ spans m k l r spanned long seen text starts n d st e =
    let none-at = none-least (name_faults d) e in
    let in-text = dossier-in text st.forms in
    seen d (numbering text) (parted st spans₀ spans k spanned) (declared-fit d none-at) (dossier-near (Occurs text) d in-text)
    ∙ measures-least (numbering text) (Occurs text) (letters-numbered text st.scans) d in-text l long
