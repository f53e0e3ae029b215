-- The parts of a dossier: all operations, the places of each part, and the order of the definitions' list of faults.
use mathlib.Core.Path.{◌≡◌, refl, ap₂, ◌∙◌, sym, subst}
use mathlib.Core.List.{List, [], ◌∷◌, ◌++◌, map}
use Prim.Native.Nat.{ℕ, suc, ◌+◌}
use native.Mathlib.Omega.{arith}
use lib.ListN.{length}
use Rattle.lexical.specs.Lists.{concat}
use Rattle.lexical.specs.Symbols.{no_ending}
use Rattle.refusals.specs.Refusals.{Fault}
use Rattle.form.specs.Tree.{Letters, Given, Declaration, declarations, State, Operation, Dossier}
use Rattle.form.specs.Written.{write_where, write_state}
use Rattle.form.specs.Headings.{operation_length}
use Rattle.form.specs.Codes.{Numbering, pred_width}
use Rattle.declared_names.specs.StaticRulesScope.{Scope, operation_contexts}
use Rattle.declared_names.specs.StaticRulesNames.{new_name, declaration_faults, parameter_faults, operation_faults, context_faults, judge_pred}
use Rattle.type_rules.specs.TypesByNumber.{Names, Sizes, lesser, least_key}
use Rattle.declared_names.specs.NamesByNumber.{variables_of, predicate_at, operations_key}
use Rattle.names.proofs.ReachTables.{Numbered}
use Rattle.names.proofs.TypesAgreeLeast.{least-nil, two-parts}
use Rattle.names.proofs.TypesAgreeWidths.{wide_pred}
use Rattle.names.proofs.PassAgreesPlaces.{Within, within-append, pred-within, wider}
use Rattle.names.proofs.PassAgreesOrder.{behind, operation-order, dossier-order}
use Rattle.names.proofs.PassAgreesTypes.{Sized}
use Rattle.names.proofs.PassAgreesDeclared.{typed_width, typed-within}
use Rattle.names.proofs.PassAgreesUse.{in_use, taken_is, use-there}
use Rattle.names.proofs.PassAgreesGivens.{GivensIn}
use Rattle.names.proofs.PassAgreesNamed.{Base}
use Rattle.names.proofs.PassAgreesStates.{declarations-typed, declarations-length}
use Rattle.names.proofs.PassAgreesScopes.{TitlesIn, titles-more, Group}
use Rattle.names.proofs.PassAgreesConditions.{AreUsed, where-length}
use Rattle.names.proofs.PassAgreesOperations.{text_of, texts_of, text-within, texts-within, OperationsIn, no_operations, one_operation, operation-named, operation-least, abstract_faults, concrete_faults}
use Rattle.refusals.proofs.FaultLists.{append_nil-both}

-- ---- all operations ----

module _ (ρ : Numbering) (P : Letters → Type 0) (ν : Numbered ρ P) {gs : List Given} (p : GivensIn P gs) (z : Sizes) (d : Sized gs z) {xs ys : List Letters} {av cv : List Declaration}
    (a : Group ρ P ν p z d xs av) (c : Group ρ P ν p z d ys cv) where
  pub operations-least : {os : List Operation} → OperationsIn P os → (us : List Letters) → AreUsed av us → AreUsed cv us → TitlesIn gs us → {T : Names} → Base ρ P gs T us → (i : ℕ)
      → operations_key os av cv T ρ z i ≡ least_key (texts_of gs av cv us i os)
  unfolding operations_key texts_of text_of
  operations-least no_operations us ua uc t s i = sym least-nil
  operations-least (one_operation {o = o} {os = os} po tp pa pc h) us ua uc t s i =
      behind _ _ (text-within gs av cv us i o) (texts-within gs av cv (o.title ∷ us) (i + operation_length o) os) (omega arith)
      (operation-least ρ P ν p z d a c us ua uc t s i o po tp pa pc)
      (λ e. let k = append_nil-both (new_name us o.title (suc i)) _ e in
      let l = append_nil-both (parameter_faults gs [] (i + 2) o.parameters) _ k.1 in
      operations-least h (o.title ∷ us) (λ y n. use-there o.title us y (ua y n)) (λ y n. use-there o.title us y (uc y n)) (titles-more gs (o.title ∷ []) us t)
      (operation-named ρ P ν p z d a c us ua uc t s i o po tp k.0 l.0) (i + operation_length o))

-- the parts of an operation, and what stands behind it
operation-parts : (N Q A C T F K : List Fault) → least_key T ≡ lesser (least_key F) (least_key K)
    → least_key ((N ++ (Q ++ (A ++ C))) ++ T) ≡ lesser (least_key (N ++ Q ++ F)) (least_key (A ++ (C ++ K)))
operation-parts N Q A C T F K e =
    sym (two-parts (N ++ (Q ++ (A ++ C))) T (two-parts N (Q ++ (A ++ C)) refl (two-parts Q (A ++ C) refl (two-parts A C refl refl))) (sym e))
    ∙ operation-order _ _ _ _ _ _ ∙ ap₂ lesser (two-parts (N ++ Q) F (two-parts N Q refl refl) refl) (two-parts A (C ++ K) refl (two-parts C K refl refl))

module _ (D : Dossier) where
  -- the definitions list the heads of operations first, and the predicates behind them
  pub texts_order : (us : List Letters) (i : ℕ) (os : List Operation)
      → least_key (texts_of D.givens (declarations D.abstract) (declarations D.concrete) us i os)
      ≡ lesser (least_key (operation_faults D.givens us i os)) (least_key (concat (map context_faults (operation_contexts D i us os))))
  unfolding texts_of text_of operation_faults operation_contexts context_faults concat pred_width
  texts_order us i [] = sym (two-parts [] [] refl refl)
  texts_order us i (o ∷ os) =
      operation-parts (new_name us o.title (suc i)) (parameter_faults D.givens [] (i + 2) o.parameters) (abstract_faults D.givens (declarations D.abstract) us i o)
      (concrete_faults D.givens (declarations D.concrete) us i o) (texts_of D.givens (declarations D.abstract) (declarations D.concrete) (o.title ∷ us) (i + operation_length o) os)
      (operation_faults D.givens (o.title ∷ us) (i + operation_length o) os) (concat (map context_faults (operation_contexts D (i + operation_length o) (o.title ∷ us) os)))
      (texts_order (o.title ∷ us) (i + operation_length o) os)

-- ---- a state ----

pub state-length : (s : State) → length (write_state s []) ≡ 2 + typed_width (variables_of no_ending (declarations s)) + wide_pred s.predicate
unfolding write_state
state-length s = omega (arith, declarations-length 0 (declarations s) (write_where s.predicate []), where-length s.predicate [])

pub declarations-within : (gs : List Given) (xs : List Letters) (i : ℕ) (ds : List Declaration) → Within i (i + typed_width (variables_of no_ending ds)) (declaration_faults gs xs i ds)
declarations-within gs xs i ds =
    subst (Within i (i + typed_width (variables_of no_ending ds))) (sym (declarations-typed gs xs i ds (in_use xs) (λ l. sym (taken_is xs l)))) (typed-within gs (in_use xs) i (variables_of no_ending ds))

pub state-within : (gs : List Given) (xs : List Letters) (Γ : Scope) (i : ℕ) (s : State)
    → Within (suc i) (suc i + length (write_state s [])) (declaration_faults gs xs (suc i) (declarations s) ++ (judge_pred s.predicate Γ (predicate_at i s)).faults)
state-within gs xs Γ i s =
    let l = state-length s in let m = declarations-length 0 (declarations s) [] in
    within-append (wider _ _ (declarations-within gs xs (suc i) (declarations s)) (omega arith) (omega arith))
    (wider _ _ (pred-within s.predicate Γ (predicate_at i s)) (omega arith) (omega arith))

-- ---- the order of the parts ----

pub parts-order : (G DA PA DC PC AI CI RE TX OF CF : List Fault) → least_key TX ≡ lesser (least_key OF) (least_key CF)
    → least_key (G ++ ((DA ++ PA) ++ ((DC ++ PC) ++ ((AI ++ (CI ++ RE)) ++ TX)))) ≡ least_key (G ++ DA ++ DC ++ OF ++ (PA ++ (PC ++ (AI ++ (CI ++ (RE ++ CF))))))
parts-order G DA PA DC PC AI CI RE TX OF CF e =
    let c : List Fault = AI ++ (CI ++ RE) in
    let r : List Fault = AI ++ (CI ++ (RE ++ CF)) in
    sym (two-parts G ((DA ++ PA) ++ ((DC ++ PC) ++ (c ++ TX))) refl
    (two-parts (DA ++ PA) ((DC ++ PC) ++ (c ++ TX)) (two-parts DA PA refl refl)
    (two-parts (DC ++ PC) (c ++ TX) (two-parts DC PC refl refl)
    (two-parts c TX (two-parts AI (CI ++ RE) refl (two-parts CI RE refl refl)) (sym e)))))
    ∙ dossier-order _ _ _ _ _ _ _ _ _ _
    ∙ two-parts (G ++ DA ++ DC ++ OF) (PA ++ (PC ++ r)) (two-parts (G ++ DA ++ DC) OF (two-parts (G ++ DA) DC (two-parts G DA refl refl) refl) refl)
    (two-parts PA (PC ++ r) refl (two-parts PC r refl (two-parts AI (CI ++ (RE ++ CF)) refl (two-parts CI (RE ++ CF) refl (two-parts RE CF refl refl)))))
