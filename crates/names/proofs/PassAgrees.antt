-- The first fault that the pass finds by numbers is the least fault of the definitions.
use mathlib.Core.Path.{◌≡◌, refl, ◌∙◌, sym}
use mathlib.Core.List.{List, [], ◌++◌, map}
use Prim.Native.Nat.{ℕ, suc, ◌+◌, ◌≤◌, ◌<◌}
use native.Mathlib.Omega.{arith}
use lib.ListN.{length, get_or}
use mathlib.Core.Bool.{not}
use Rattle.lexical.specs.Lists.{any, concat}
use Rattle.lexical.specs.Symbols.{Name, no_ending}
use Rattle.refusals.specs.Refusals.{Fault}
use Rattle.form.specs.Tree.{Letters, declarations, Dossier}
use Rattle.form.specs.Headings.{givens_at, abstract_at, concrete_at, ainit_at, cinit_at, retrieve_at, operations_at}
use Rattle.form.specs.Codes.{Numbering}
use Rattle.form.proofs.Lengths.{givens-length}
use Rattle.declared_names.specs.StaticRulesCarriers.{Variable, size_of}
use Rattle.declared_names.specs.StaticRulesScope.{variables, given_names, state_names, abstract_taken, concrete_taken, contexts, operation_contexts}
use Rattle.declared_names.specs.StaticRulesNames.{given_faults, declaration_faults, context_faults, judge_pred, name_faults, operation_faults}
use Rattle.type_rules.specs.TypesByNumber.{Names, Sizes, entry, is_free, least_key}
use Rattle.declared_names.specs.NamesByNumber.{variables_of, predicate_at, dossier_key}
use Rattle.names.proofs.ReachTables.{Numbered, PredIn}
use Rattle.names.proofs.PassAgreesPlaces.{Within, within-append, pred-within, wider}
use Rattle.names.proofs.PassAgreesOrder.{behind}
use Rattle.names.proofs.PassAgreesTypes.{Sized}
use Rattle.names.proofs.PassAgreesDeclared.{TypedIn}
use Rattle.names.proofs.PassAgreesUse.{in_use, use-left, use-right}
use Rattle.names.proofs.PassAgreesGivens.{GivensIn, Holds, givens-within, givens-least}
use Rattle.names.proofs.PassAgreesNamed.{givens-sees}
use Rattle.names.proofs.PassAgreesStates.{typed-use, scope}
use Rattle.names.proofs.PassAgreesScopes.{TitlesIn, titles-given, titles-more, group, state-named, state-least}
use Rattle.names.proofs.PassAgreesConditions.{AreUsed, where-length, conditions-named, conditions-least}
use Rattle.names.proofs.PassAgreesOperations.{texts_of, texts-within, operations_width, OperationsIn}
use Rattle.names.proofs.PassAgreesDossier.{operations-least, texts_order, state-within, parts-order}
use Rattle.refusals.proofs.FaultLists.{append_nil-both}

-- all letters of a dossier's bodies are the text's, and ends of ranges are numbers to 1,000
pub record DossierIn (P : Letters → Type 0) (d : Dossier) : Type 0 where
  pub givens_in : GivensIn P d.givens
  pub abstract_in : TypedIn P (variables_of no_ending (declarations d.abstract))
  pub concrete_in : TypedIn P (variables_of no_ending (declarations d.concrete))
  pub abstract_holds_lem : PredIn P d.abstract.predicate
  pub concrete_holds_lem : PredIn P d.concrete.predicate
  pub ainit_in : PredIn P d.ainit
  pub cinit_in : PredIn P d.cinit
  pub retrieve_in : PredIn P d.retrieve
  pub operations_in : OperationsIn P d.operations

-- ---- the parts, in the order of the text ----

abbrev abstract_variables : Dossier → List Variable
abstract_variables d = variables d.givens no_ending (declarations d.abstract)

abbrev concrete_variables : Dossier → List Variable
concrete_variables d = variables d.givens no_ending (declarations d.concrete)

abbrev givens_part : Dossier → List Fault
givens_part d = given_faults [] (givens_at d) d.givens

abbrev abstract_declared : Dossier → List Fault
abstract_declared d = declaration_faults d.givens (given_names d.givens) (suc (abstract_at d)) (declarations d.abstract)

abbrev abstract_holds : Dossier → List Fault
abstract_holds d = (judge_pred d.abstract.predicate (scope d.givens (abstract_taken d) (abstract_variables d)) (predicate_at (abstract_at d) d.abstract)).faults

abbrev concrete_declared : Dossier → List Fault
concrete_declared d = declaration_faults d.givens (abstract_taken d) (suc (concrete_at d)) (declarations d.concrete)

abbrev concrete_holds : Dossier → List Fault
concrete_holds d = (judge_pred d.concrete.predicate (scope d.givens (concrete_taken d) (concrete_variables d)) (predicate_at (concrete_at d) d.concrete)).faults

abbrev ainit_part : Dossier → List Fault
ainit_part d = (judge_pred d.ainit (scope d.givens (concrete_taken d) (abstract_variables d)) (ainit_at d + 2)).faults

abbrev cinit_part : Dossier → List Fault
cinit_part d = (judge_pred d.cinit (scope d.givens (concrete_taken d) (concrete_variables d)) (cinit_at d + 2)).faults

abbrev retrieve_part : Dossier → List Fault
retrieve_part d = (judge_pred d.retrieve (scope d.givens (concrete_taken d) (abstract_variables d ++ concrete_variables d)) (retrieve_at d + 2)).faults

abbrev operations_part : Dossier → List Fault
operations_part d = texts_of d.givens (declarations d.abstract) (declarations d.concrete) (concrete_taken d) (operations_at d) d.operations

abbrev conditions_part : Dossier → List Fault
conditions_part d = ainit_part d ++ (cinit_part d ++ retrieve_part d)

-- ---- places ----

module _ (d : Dossier) where
  givens-place : Within (givens_at d) (abstract_at d) (givens_part d)
  unfolding abstract_at
  givens-place = wider _ _ (givens-within [] (givens_at d) d.givens) (omega arith) (omega (arith, givens-length 0 d.givens []))

  abstract-place : Within (suc (abstract_at d)) (concrete_at d) (abstract_declared d ++ abstract_holds d)
  unfolding concrete_at
  abstract-place = state-within d.givens (given_names d.givens) (scope d.givens (abstract_taken d) (abstract_variables d)) (abstract_at d) d.abstract

  concrete-place : Within (suc (concrete_at d)) (ainit_at d) (concrete_declared d ++ concrete_holds d)
  unfolding ainit_at
  concrete-place = state-within d.givens (abstract_taken d) (scope d.givens (concrete_taken d) (concrete_variables d)) (concrete_at d) d.concrete

  conditions-place : Within (ainit_at d + 2) (operations_at d) (conditions_part d)
  unfolding cinit_at retrieve_at operations_at
  conditions-place =
      let l = where-length d.ainit [] in let m = where-length d.cinit [] in let n = where-length d.retrieve [] in
      within-append (wider _ _ (pred-within d.ainit (scope d.givens (concrete_taken d) (abstract_variables d)) (ainit_at d + 2)) (omega arith) (omega arith))
      (within-append (wider _ _ (pred-within d.cinit (scope d.givens (concrete_taken d) (concrete_variables d)) (cinit_at d + 2)) (omega arith) (omega arith))
      (wider _ _ (pred-within d.retrieve (scope d.givens (concrete_taken d) (abstract_variables d ++ concrete_variables d)) (retrieve_at d + 2)) (omega arith) (omega arith)))

  operations-place : Within (operations_at d) (operations_at d + operations_width d.operations) (operations_part d)
  operations-place = texts-within d.givens (declarations d.abstract) (declarations d.concrete) (concrete_taken d) (operations_at d) d.operations

  -- where the bodies begin
  record Ascending : Type 0 where
    concrete_behind : suc (abstract_at d) ≤ concrete_at d
    ainit_behind : suc (concrete_at d) ≤ ainit_at d
    operations_behind : ainit_at d + 2 ≤ operations_at d

  ascending : Ascending
  unfolding concrete_at ainit_at cinit_at retrieve_at operations_at
  ascending =
      record {
        concrete_behind = omega arith;
        ainit_behind = omega arith;
        operations_behind = omega (arith, where-length d.ainit []);
      }

  from-conditions : Within (ainit_at d + 2) (operations_at d + operations_width d.operations) (conditions_part d ++ operations_part d)
  from-conditions = let o = ascending in within-append (wider _ _ conditions-place (omega arith) (omega arith)) (wider _ _ operations-place (omega arith) (omega arith))

  from-concrete : Within (suc (concrete_at d)) (operations_at d + operations_width d.operations) ((concrete_declared d ++ concrete_holds d) ++ (conditions_part d ++ operations_part d))
  from-concrete = let o = ascending in within-append (wider _ _ concrete-place (omega arith) (omega arith)) (wider _ _ from-conditions (omega arith) (omega arith))

  from-abstract : Within (suc (abstract_at d)) (operations_at d + operations_width d.operations)
      ((abstract_declared d ++ abstract_holds d) ++ ((concrete_declared d ++ concrete_holds d) ++ (conditions_part d ++ operations_part d)))
  from-abstract = let o = ascending in within-append (wider _ _ abstract-place (omega arith) (omega arith)) (wider _ _ from-concrete (omega arith) (omega arith))

  -- the definitions' list has the same least fault
  list-order : least_key (givens_part d ++ ((abstract_declared d ++ abstract_holds d) ++ ((concrete_declared d ++ concrete_holds d) ++ (conditions_part d ++ operations_part d)))) ≡ least_key (name_faults d)
  unfolding name_faults contexts context_faults concat
  list-order =
      parts-order (givens_part d) (abstract_declared d) (abstract_holds d) (concrete_declared d) (concrete_holds d) (ainit_part d) (cinit_part d) (retrieve_part d) (operations_part d)
      (operation_faults d.givens (concrete_taken d) (operations_at d) d.operations) (concat (map context_faults (operation_contexts d (operations_at d) (concrete_taken d) d.operations)))
      (texts_order d (concrete_taken d) (operations_at d) d.operations)

-- ---- names in use ----

module _ (d : Dossier) where
  pub abstract-used : AreUsed (declarations d.abstract) (abstract_taken d)
  abstract-used y e = use-left (state_names d.abstract) (given_names d.givens) y (sym (typed-use (declarations d.abstract) y) ∙ e)

  pub abstract-still : AreUsed (declarations d.abstract) (concrete_taken d)
  abstract-still y e = use-right (state_names d.concrete) (abstract_taken d) y (abstract-used y e)

  pub concrete-used : AreUsed (declarations d.concrete) (concrete_taken d)
  concrete-used y e = use-left (state_names d.concrete) (abstract_taken d) y (sym (typed-use (declarations d.concrete) y) ∙ e)

  pub abstract-titles : TitlesIn d.givens (abstract_taken d)
  abstract-titles = titles-more d.givens (state_names d.abstract) (given_names d.givens) (titles-given d.givens)

  pub concrete-titles : TitlesIn d.givens (concrete_taken d)
  concrete-titles = titles-more d.givens (state_names d.concrete) (abstract_taken d) abstract-titles

empty_holds : (ρ : Numbering) (P : Letters → Type 0) (T : Names) → 16384 ≤ length T → ((x : ℕ) → entry T x ≡ 0) → Holds ρ P T (λ (y : Name). 0)
empty_holds ρ P T l h = record { long = l; are = λ y py. h _ }

nothing-used : (y : Name) → is_free 0 ≡ not (in_use [] y)
unfolding is_free any
nothing-used y = refl

-- ---- the pass ----

pub passed : (ρ : Numbering) (P : Letters → Type 0) → Numbered ρ P → (d : Dossier) → DossierIn P d → (T : Names) → 16384 ≤ length T → ((x : ℕ) → entry T x ≡ 0) → (z : Sizes)
    → ((k : ℕ) → k < length d.givens → get_or z k 0 ≡ get_or (map size_of d.givens) k 0) → length d.givens ≤ 8 → dossier_key d T ρ z ≡ least_key (name_faults d)
unfolding dossier_key
passed ρ P ν d h T long empty z sizes few =
    let k : Sized d.givens z = record { few = few; sizes = sizes } in
    let p = h.givens_in in
    let o = ascending d in
    behind _ _ (givens-place d) (from-abstract d) (omega arith) (givens-least ρ P ν p (empty_holds ρ P T long empty) [] nothing-used 0 (givens_at d))
    (λ e. let B = givens-sees ρ P ν p few (empty_holds ρ P T long empty) (givens_at d) e in
    behind _ _ (abstract-place d) (from-concrete d) (omega arith)
    (state-least ρ P ν p z k (given_names d.givens) B d.abstract (titles-given d.givens) h.abstract_in h.abstract_holds_lem (abstract_at d))
    (λ f. let a = group ρ P ν p z k B (declarations d.abstract) h.abstract_in (suc (abstract_at d)) (append_nil-both (abstract_declared d) (abstract_holds d) f).0 in
    let C = state-named ρ P ν p z k (given_names d.givens) B d.abstract a in
    behind _ _ (concrete-place d) (from-conditions d) (omega arith)
    (state-least ρ P ν p z k (abstract_taken d) C d.concrete (abstract-titles d) h.concrete_in h.concrete_holds_lem (concrete_at d))
    (λ g. let c = group ρ P ν p z k C (declarations d.concrete) h.concrete_in (suc (concrete_at d)) (append_nil-both (concrete_declared d) (concrete_holds d) g).0 in
    let E = state-named ρ P ν p z k (abstract_taken d) C d.concrete c in
    behind _ _ (conditions-place d) (operations-place d) (omega arith)
    (conditions-least ρ P ν p z k d a c (concrete_taken d) (abstract-still d) (concrete-used d) (abstract-used d) (concrete-titles d) E h.ainit_in h.cinit_in h.retrieve_in)
    (λ l. operations-least ρ P ν p z k a c h.operations_in (concrete_taken d) (abstract-still d) (concrete-used d) (concrete-titles d)
    (conditions-named ρ P ν p z k d a c (concrete_taken d) (abstract-still d) (concrete-used d) (abstract-used d) (concrete-titles d) E) (operations_at d)))))
    ∙ list-order d
