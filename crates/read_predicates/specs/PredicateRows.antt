-- What the reader's arrays hold of the predicates of a dossier: the rows of each context's conjuncts, and where they begin. Nothing here need be believed.
use Rattle.std.specs.Prelude.{◌≡◌, List, [], ◌∷◌, ℕ, ◌+◌, ◌<◌, ◌≤◌, get_or}
use Rattle.std.proofs.Math.Option.{some}
use Rattle.std.proofs.Math.ListN.{get_elem?}
use Rattle.lexical.specs.Lists.{all}
use Rattle.form.specs.Tree.{Pred, Dossier}
use Rattle.static_rules.specs.Scope.{Scope, Context, contexts}
use Rattle.meaning.specs.Meaning.{Environment, holds}
use Rattle.value_types.specs.TypedValues.{InReach}
use Rattle.conjunct_tests.specs.TablePlacesResolvedTable.{Slots}
use Rattle.conjunct_tests.specs.TablePlacesDossierTable.{slots_of}
use Rattle.conjunct_tests.specs.SearchGroupsConjuncts.{used_pred, last_in}
use Rattle.conjunct_tests.specs.EvaluationSlotValues.{Below}
use Rattle.conjunct_tests.specs.ConjunctTests.{Conjunct}

-- the columns of the row at `at`, of a conjunct that mentions the slots ss: the last variable of each group, counted from 1, or 0 for none
pub record Columns (rows : List ℕ) (at : ℕ) (ss : List ℕ) : Type 0 where
  pub abstracts : get_or rows (at + 2) 0 ≡ last_in 0 8 ss
  pub concretes : get_or rows (at + 3) 0 ≡ last_in 8 8 ss
  pub inputs : get_or rows (at + 4) 0 ≡ last_in 16 3 ss
  pub outputs : get_or rows (at + 5) 0 ≡ last_in 19 3 ss
  pub concretes_primed : get_or rows (at + 6) 0 ≡ last_in 22 8 ss
  pub abstracts_primed : get_or rows (at + 7) 0 ≡ last_in 30 8 ss

-- the rows from `at` up to `to` are those of these conjuncts: 8 numbers each, of which the second is where the conjunct's table ends, and the last six are its columns
pub data RowsAt (table rows : List ℕ) (Γ : Scope) (W : Slots) (to : ℕ) : (at : ℕ) → List Pred → Type 0 where
  no_rows : {at : ℕ} → to ≡ at → RowsAt table rows Γ W to at []
  more_rows : {at from : ℕ} {p : Pred} {ps : List Pred} → at + 8 ≤ to → Conjunct table Γ W p from (get_or rows (at + 1) 0) → Columns rows at (used_pred p W 38)
      → RowsAt table rows Γ W to (at + 8) ps → RowsAt table rows Γ W to at (p ∷ ps)

-- the predicate of the n-th context: it holds exactly if all its conjuncts do, and their rows stand between the n-th place and the next
pub record ContextAt (table rows firsts : List ℕ) (n : ℕ) (c : Context) (W : Slots) : Type 0 where
  pub reach : InReach c.scope
  pub below : Below 38 W
  pub inside : n + 1 < 40
  pub ordered : get_or firsts n 0 ≤ get_or firsts (n + 1) 0
  pub low : get_or firsts (n + 1) 0 ≤ 16384
  pub conjuncts : List Pred
  pub whole : (ρ : Environment) → holds c.predicate ρ ≡ all (λ (q : Pred). holds q ρ) conjuncts
  pub stand : RowsAt table rows c.scope W (get_or firsts (n + 1) 0) (get_or firsts n 0) conjuncts

-- all predicates of a dossier
pub record TestsOf (table rows firsts : List ℕ) (d : Dossier) : Type 0 where
  pub tests : (n : ℕ) (c : Context) (W : Slots) → get_elem? (contexts d) n ≡ some c → get_elem? (slots_of d) n ≡ some W → ContextAt table rows firsts n c W
