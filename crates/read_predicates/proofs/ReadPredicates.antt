-- A text that is read: every predicate of its dossier stands in the table that the reader leaves, as the evaluator asks it.
use mathlib.Core.Path.{◌≡◌, refl}
use mathlib.Core.Logic.{inl, inr}
use mathlib.Core.List.{List}
use Prim.Native.Nat.{ℕ, ◌≤◌}
use native.Mathlib.Omega.{arith}
use lib.ListN.{length, take}
use Rattle.form.specs.Tree.{Dossier}
use Rattle.form.specs.Codes.{dossier_codes}
use Rattle.reader.specs.ParserPromises.{numbering}
use Rattle.static_rules.specs.Scope.{Context, contexts}
use Rattle.static_rules.specs.Read.{reading, read}
use Rattle.meaning.specs.Bindings.{Among}
use Rattle.value_types.specs.FaultlessContexts.{ContextFine}
use Rattle.value_types.proofs.GivenTitles.{few-elements-of}
use Rattle.value_types.proofs.SymbolNumbers.{text-numbers}
use Rattle.value_types.proofs.FineContexts.{contexts-fine}
use Rattle.conjunct_tests.specs.TablePlacesResolvedTable.{Slots}
use Rattle.conjunct_tests.specs.TablePlacesDossierTable.{slots_of, starts_of, table_of}
use Rattle.conjunct_tests.specs.SearchGroupsGroupPromises.{Standing, none_stands, one_stands}
use Rattle.reader.proofs.TablesStandingWhole.{standing}
use Rattle.reader.specs.Gives.{Gives}
use Rattle.reader.proofs.ReadGives.{read-gives}
use Rattle.read_predicates.specs.TestedPredicates.{Tested, none_tested, one_tested}

-- every predicate has its names in reach, no faults, small numbers and few bound names
pub read-fine : (text : List ℕ) (d : Dossier) → Gives text d → (c : Context) → Among c (contexts d) → ContextFine c
read-fine text d g =
    contexts-fine d g.names g.sizes (few-elements-of d.givens g.given_sets.elements) (text-numbers text d g.form.whole) g.bound_names

-- predicates without faults whose tables stand are as the evaluator asks
pub all_tested : {table : List ℕ} {cs : List Context} {Ws : List Slots} {qs : List ℕ} → Standing table cs Ws qs → length table ≤ 16384
    → ((c : Context) → Among c cs → ContextFine c) → Tested table cs Ws qs
unfolding Among
all_tested none_stands h f = none_tested
all_tested (one_stands {c} s rest) h f =
    let k = f c (inl refl) in
    let l = s.inside in
    one_tested k
    (record { stands = s; low = omega arith; at = c.at; sized_at = c.at; judged = k.names; sized = k.sizes; within = k.within; few = k.few })
    (all_tested rest h (λ x m. f x (inr m)))

-- the table of a text that is read, in an array of 16,384 numbers
pub read-tested : (text nodes table₀ table : List ℕ) (d : Dossier) (m : ℕ) → read text ≡ reading d → m ≤ length nodes → take m nodes ≡ dossier_codes d (numbering text)
    → m ≤ length table₀ → table ≡ table_of d (numbering text) table₀ → length table ≤ 16384 → Tested table (contexts d) (slots_of d) (starts_of d (numbering text))
read-tested text nodes table₀ table d m e h n l t k =
    all_tested (standing d (numbering text) nodes m h n table₀ table l t) k (read-fine text d (read-gives text d e))
