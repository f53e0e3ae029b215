-- What is left for the evaluator, where no pass found a fault: the arrays hold what the definitions say of the dossier.
use mathlib.Core.Path.{◌≡◌, sym, subst}
use mathlib.Core.List.{List}
use Prim.Native.Nat.{ℕ, ◌≤◌}
use native.Mathlib.Omega.{arith}
use lib.ListN.{length}
use Rattle.form.specs.Tree.{Dossier}
use Rattle.parser.specs.Promises.{numbering}
use Rattle.parser.specs.Sections.{Sectioned, givens_from, abstract_from}
use Rattle.parser.specs.declared.sections.Bounds.{Bounds}
use Rattle.static_rules.specs.Names.{name_faults}
use Rattle.type_rules.specs.TypesByNumber.{Names, Sizes}
use Rattle.node_spans.specs.Spans.{Spanned}
use Rattle.search_groups.specs.TablePlacesTablePromises.{Ready, TableWritten}
use Rattle.search_groups.specs.GroupPromises.{Grouped, Listed}
use Rattle.tables.proofs.WritingReady.{ready}
use Rattle.tables.proofs.WritingWhole.{whole-table}
use Rattle.tables.proofs.StandingWhole.{standing, rows_few}
use Rattle.reader.specs.Occurrences.{Occurs}
use Rattle.reader.specs.Promises.{Tabled, Leaves}
use Rattle.reader.proofs.FewGivens.{forms-fewer, forms-few-operations}
use Rattle.reader.proofs.FewVariables.{forms-few}
use Rattle.reader.proofs.TextLetters.{dossier-in}
use Rattle.reader.proofs.LeastNameFault.{letters-numbered}
use Rattle.refusals.proofs.FaultLists.{none-least}

-- the parts of the dossier, by the places that the code found
placed : (d : Dossier) (text nodes spans : List ℕ) (k : ℕ) (b : Bounds) → Ready nodes spans (length d.operations) (givens_from d (numbering text)) (abstract_from d (numbering text)) d (numbering text)
    → k ≡ length d.operations → b.givens ≡ givens_from d (numbering text) → b.abstracts ≡ abstract_from d (numbering text)
    → Ready nodes spans k b.givens b.abstracts d (numbering text)
placed d text nodes spans k b r p q s =
    subst (λ (x : ℕ). Ready nodes spans x b.givens b.abstracts d (numbering text)) (sym p)
    (subst (λ (x : ℕ). Ready nodes spans (length d.operations) x b.abstracts d (numbering text)) (sym q)
    (subst (λ (x : ℕ). Ready nodes spans (length d.operations) (givens_from d (numbering text)) x d (numbering text)) (sym s) r))

pub leaves : (nodes spans₀ table₀ groups₀ rows₀ firsts₀ spans table groups rows firsts : List ℕ) (m k l : ℕ) (b : Bounds) (T : Names) (z : Sizes)
    → Tabled nodes m l T z → 16384 ≤ l → Sectioned nodes m b → Spanned nodes m spans₀ spans k
    → TableWritten nodes spans k b.givens b.abstracts T z table₀ table → Grouped nodes spans k groups₀ groups → Listed table spans k rows₀ rows firsts₀ firsts
    → Leaves nodes m spans₀ table₀ groups₀ rows₀ firsts₀ spans table groups rows firsts
leaves nodes spans₀ table₀ groups₀ rows₀ firsts₀ spans table groups rows firsts m k l b T z tabled long sectioned spanned written grouped listed text starts n d st e =
    let at = spanned.exact d (numbering text) st.inside st.nodes_are (forms-few-operations st.forms) (omega (arith, st.short)) in
    let parts = sectioned.exact d (numbering text) st.inside st.nodes_are in
    let r = placed d text nodes spans k b (ready d (numbering text) nodes spans m st.inside st.nodes_are (forms-few-operations st.forms) _ at.1) at.0 parts.givens parts.abstracts in
    let few = forms-few st.forms in
    let is =
    whole-table (numbering text) (Occurs text) (letters-numbered text st.scans) d (dossier-in text st.forms) (none-least (name_faults d) e) few l long z
    (tabled.sized long text starts n d st e) (forms-fewer st.forms).sets nodes spans k b.givens b.abstracts table₀ table r
    (subst (λ (X : Names). TableWritten nodes spans k b.givens b.abstracts X z table₀ table) (tabled.named long text starts n d st e) written) in
    let rest =
    listed.exact d (numbering text) nodes _ r.structured at.1 (forms-few-operations st.forms)
    (standing d (numbering text) nodes m st.inside st.nodes_are table₀ table (omega (arith, written.0, st.short)) is)
    (rows_few d (numbering text) nodes m st.inside st.nodes_are st.short) in
    record {
      spans_are = at.1;
      table_is = is;
      groups_are = grouped.exact d (numbering text) _ r.structured at.1 few;
      rows_are = rest.0;
      firsts_are = rest.1;
    }
