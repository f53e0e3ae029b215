-- The table of a whole dossier by numbers (table_places/specs/DossierTableByNumber) is the one by the definitions (table_places/specs/DossierTable), where names and types are without faults.
use mathlib.Core.Path.{◌≡◌, refl, ap, ◌∙◌}
use mathlib.Core.List.{List, [], ◌∷◌, map}
use Prim.Native.Nat.{ℕ, ◌+◌, ◌≤◌, ◌<◌}
use native.Mathlib.Omega.{arith}
use lib.ListN.{length, get_or, replicate}
use Rattle.lexical.specs.Lists.{concat, find}
use Rattle.form.specs.Tree.{Letters, Given, Operation, Dossier}
use Rattle.form.specs.Headings.{givens_at, operations_at, operation_length}
use Rattle.form.specs.Codes.{Numbering}
use Rattle.static_rules.specs.Carriers.{size_of}
use Rattle.static_rules.specs.Scope.{Context, given_names, concrete_taken, operation_contexts, contexts}
use Rattle.static_rules.specs.Names.{context_faults, name_faults}
use Rattle.type_rules.specs.TypesByNumber.{Names, Sizes}
use Rattle.declared_names.specs.NamesByNumber.{givens_named}
use Rattle.names.proofs.ReachTables.{Numbered, Shows, PredIn}
use Rattle.names.proofs.PassAgreesTypes.{Sized}
use Rattle.names.proofs.PassAgreesGivens.{GivensIn}
use Rattle.names.proofs.PassAgreesNamed.{Base}
use Rattle.names.proofs.PassAgreesStates.{scope}
use Rattle.names.proofs.PassAgreesScopes.{titles-given, shows}
use Rattle.names.proofs.PassAgreesOperations.{OperationsIn, no_operations, one_operation}
use Rattle.static_rules.proofs.Faultless.{faultless}
use Rattle.names.proofs.PassAgrees.{DossierIn}
use Rattle.table_nodes.specs.TableByNumber.{Places}
use Rattle.table_places.specs.ResolvedTable.{Slots}
use Rattle.table_nodes.specs.TableWalkPromises.{patch}
use Rattle.table_places.specs.DossierTable.{slots_of, starts_of, with_predicates, table_of}
use Rattle.table_places.specs.DossierTableByNumber.{kinds_of, places_of, with_tables, table_by}
use Rattle.tables.proofs.TableAgrees.{resolved_pred}
use Rattle.tables.proofs.DossierTableShown.{AllShown, none_shown, one_shown, free-sees, contexts-shown}
use Rattle.tables.proofs.ContextPlaces.{AllPlaced, none_placed, one_placed}
use Rattle.tables.proofs.DossierTableTypes.{declared-written}
use Rattle.refusals.proofs.FaultLists.{append_nil-both}

-- ---- the predicates are the text's ----

data AllIn (P : Letters → Type 0) : List Context → Type 0 where
  none_in : AllIn P []
  one_in : {c : Context} {cs : List Context} → PredIn P c.predicate → AllIn P cs → AllIn P (c ∷ cs)

operations-all : {P : Letters → Type 0} (d : Dossier) {os : List Operation} → OperationsIn P os → (i : ℕ) (us : List Letters) → AllIn P (operation_contexts d i us os)
unfolding operation_contexts
operations-all d no_operations i us = none_in
operations-all d (one_operation {o = o} po tp pa pc h) i us = one_in pa (one_in pc (operations-all d h (i + operation_length o) (o.title ∷ us)))

contexts-all : {P : Letters → Type 0} (d : Dossier) → DossierIn P d → AllIn P (contexts d)
unfolding contexts
contexts-all d h =
    one_in h.abstract_holds_lem (one_in h.concrete_holds_lem (one_in h.ainit_in (one_in h.cinit_in (one_in h.retrieve_in
    (operations-all d h.operations_in (operations_at d) (concrete_taken d))))))

-- ---- the predicates as they are written ----

module _ (ρ : Numbering) (P : Letters → Type 0) (ν : Numbered ρ P) (z : Sizes) where
  predicates-written : {cs : List Context} {Ts : List Names} → AllShown ρ P z cs Ts → {Ss : List Slots} {Ws : List Places} → AllPlaced ρ P cs Ss Ws → AllIn P cs
      → concat (map context_faults cs) ≡ [] → (qs out : List ℕ) → with_tables cs Ts Ws qs z ρ out ≡ with_predicates cs Ss qs out
  unfolding with_tables with_predicates concat context_faults
  predicates-written none_shown none_placed none_in e qs out = refl
  predicates-written (one_shown s ss) (one_placed w ws) (one_in p ps) e [] out = refl
  predicates-written (one_shown {c = c} {cs = cs} {T = T} {Ts = Ts} s ss) (one_placed {W = S} {T = W} {Ts = Ws} w ws) (one_in p ps) e (q ∷ qs) out =
      let f = append_nil-both (context_faults c) (concat (map context_faults cs)) e in
      ap (λ (piece : List ℕ). with_tables cs Ts Ws qs z ρ (patch q piece out))
      (resolved_pred ρ P ν c.predicate c.scope S T W z s w p c.at f.0 38 q (omega arith))
      ∙ predicates-written ss ws ps f.1 qs _

-- the scope of the given sets alone
givens-shown : (ρ : Numbering) (P : Letters → Type 0) → Numbered ρ P → {gs : List Given} → GivensIn P gs → (z : Sizes) → Sized gs z → {T : Names} → Base ρ P gs T (given_names gs)
    → Shows ρ P (scope gs (given_names gs) []) T z
unfolding find
givens-shown ρ P ν {gs} p z k s = shows ρ P ν p z k s (given_names gs) [] (titles-given gs) (λ l. refl) (λ y. refl)

-- the whole table
pub tabled : (ρ : Numbering) (P : Letters → Type 0) → Numbered ρ P → (d : Dossier) → DossierIn P d → name_faults d ≡ [] → (n : ℕ) → 16384 ≤ n → (z : Sizes)
    → ((k : ℕ) → k < length d.givens → get_or z k 0 ≡ get_or (map size_of d.givens) k 0) → length d.givens ≤ 8
    → (W : Places) → AllPlaced ρ P (contexts d) (slots_of d) (places_of d W ρ) → (out : List ℕ)
    → table_by d (givens_named d.givens 0 (replicate n 0) ρ) W z ρ out ≡ table_of d ρ out
unfolding table_by table_of
tabled ρ P ν d h e n long z sizes few W w out =
    let f = faultless d e in
    let T : Names = givens_named d.givens 0 (replicate n 0) ρ in
    let B = free-sees ρ P ν h.givens_in few n long (givens_at d) f.givens_new in
    ap (with_tables (contexts d) (kinds_of d T ρ) (places_of d W ρ) (starts_of d ρ) z ρ)
    (declared-written ρ P d h f T z (given_names d.givens) (givens-shown ρ P ν h.givens_in z (record { few = few; sizes = sizes }) B) out)
    ∙ predicates-written ρ P ν z (contexts-shown ρ P ν d h e n long z sizes few) w (contexts-all d h) f.contexts_clear (starts_of d ρ) _
