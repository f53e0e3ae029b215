-- Operations: their first fault in the order of the text, and the table behind each.
use mathlib.Core.Path.{◌≡◌, ap, ap₂, ◌∙◌, sym, subst}
use mathlib.Core.Bool.{Bool, not}
use mathlib.Core.List.{List, [], ◌∷◌, ◌++◌}
use Prim.Native.Nat.{ℕ, suc, ◌+◌}
use native.Mathlib.Omega.{arith}
use Rattle.lexical.specs.Kinds as kind
use Rattle.lexical.specs.Lists.{any}
use Rattle.lexical.specs.Symbols.{no_ending, prime}
use Rattle.refusals.specs.Refusals.{Fault, number_of, name_in_use}
use Rattle.form.specs.Tree.{Letters, Given, Declaration, inward, outward, Parameter, Operation}
use Rattle.form.specs.Written.{bare, write_pred, write_operations}
use Rattle.form.specs.Headings.{operation_length}
use Rattle.form.specs.Codes.{Numbering, number_of_name, pred_width, abstractly_at}
use Rattle.declared_names.specs.StaticRulesCarriers.{Variable, plain}
use Rattle.declared_names.specs.StaticRulesScope as scopes
use Rattle.declared_names.specs.StaticRulesScope.{is_taken, variables}
use Rattle.declared_names.specs.StaticRulesNames.{new_name, parameter_faults, judge_pred}
use Rattle.type_rules.specs.TypesByNumber.{Names, Sizes, entry, key, unless_key, is_free, least_key}
use Rattle.declared_names.specs.NamesByNumber.{parameters_of, title_named, parameters_shown, reaching, leaving, operation_named, operation_key}
use Rattle.names.proofs.ReachTables.{Numbered, PredIn, Shows}
use Rattle.names.proofs.TypesAgreeLeast.{unless-least}
use Rattle.names.proofs.TypesAgreeWidths.{wide_pred, pred-length, pred-width}
use Rattle.names.proofs.TypesAgree.{judged-pred}
use Rattle.names.proofs.PassAgreesPlaces.{Within, nowhere, within-append, within_new, pred-within, wider}
use Rattle.names.proofs.PassAgreesOrder.{behind}
use Rattle.names.proofs.PassAgreesTables.{unused}
use Rattle.names.proofs.PassAgreesTypes.{Sized}
use Rattle.names.proofs.PassAgreesDeclared.{typed_faults, typed_width, typed-within, TypedIn, Clear, clear, declared-least}
use Rattle.names.proofs.PassAgreesUse.{in_use, taken_is, use-there, new_unused}
use Rattle.names.proofs.PassAgreesGivens.{GivensIn}
use Rattle.names.proofs.PassAgreesNamed.{element_type, Base}
use Rattle.names.proofs.PassAgreesStates.{scope}
use Rattle.names.proofs.PassAgreesScopes.{TitlesIn, titles-more, shows, Group}
use Rattle.names.proofs.PassAgreesConditions.{AreUsed}
use Rattle.names.proofs.PassAgreesParameters.{parameters-typed, parameter-unused, parameters-length}
use Rattle.names.proofs.PassAgreesReach.{operation-reach, title-named, parameters-shown, parameters-hidden, reaching-sees, leaving-sees, reaching-uses}

-- the scope of an operation's predicate
abbrev pub reach_in : List Given → List Declaration → List Parameter → List Variable
reach_in gs ds ps = variables gs no_ending ds ++ variables gs prime ds ++ scopes.parameters_of gs inward ps ++ scopes.parameters_of gs outward ps

abbrev pub abstract_faults : List Given → List Declaration → List Letters → ℕ → Operation → List Fault
abstract_faults gs av us i o = (judge_pred o.abstractly (scope gs (o.title ∷ us) (reach_in gs av o.parameters)) (abstractly_at i o)).faults

abbrev pub concrete_faults : List Given → List Declaration → List Letters → ℕ → Operation → List Fault
concrete_faults gs cv us i o =
    (judge_pred o.concretely (scope gs (o.title ∷ us) (reach_in gs cv o.parameters)) (suc (abstractly_at i o) + pred_width o.abstractly)).faults

-- an operation's faults in the order of the text, and those of all
unfoldable pub text_of : List Given → (av cv : List Declaration) → List Letters → ℕ → Operation → List Fault
text_of gs av cv us i o =
    new_name us o.title (suc i) ++ (parameter_faults gs [] (i + 2) o.parameters ++ (abstract_faults gs av us i o ++ concrete_faults gs cv us i o))

unfoldable pub texts_of : List Given → (av cv : List Declaration) → List Letters → ℕ → List Operation → List Fault
texts_of gs av cv us i [] = []
texts_of gs av cv us i (o ∷ os) = text_of gs av cv us i o ++ texts_of gs av cv (o.title ∷ us) (i + operation_length o) os

-- ---- places ----

operation-length : (o : Operation) → operation_length o ≡ 5 + typed_width (parameters_of o.parameters) + wide_pred o.abstractly + wide_pred o.concretely
unfolding operation_length write_operations
operation-length o =
    omega (
      arith,
      parameters-length 0 0 o.parameters (bare kind.ABSTRACT ∷ write_pred o.abstractly 0 0 (bare kind.CONCRETE ∷ write_pred o.concretely 0 0 (bare kind.END ∷ []))),
      pred-length o.abstractly 0 0 (bare kind.CONCRETE ∷ write_pred o.concretely 0 0 (bare kind.END ∷ [])),
      pred-length o.concretely 0 0 (bare kind.END ∷ []),
    )

abstractly-at : (i : ℕ) (o : Operation) → abstractly_at i o ≡ i + 3 + typed_width (parameters_of o.parameters)
abstractly-at i o = omega (arith, parameters-length 0 0 o.parameters [])

module _ (gs : List Given) (av cv : List Declaration) (us : List Letters) (i : ℕ) (o : Operation) where
  parameters-are : parameter_faults gs [] (i + 2) o.parameters ≡ typed_faults gs (in_use (o.title ∷ us)) (i + 2) (parameters_of o.parameters)
  unfolding any
  parameters-are = parameters-typed gs [] (i + 2) o.parameters (in_use (o.title ∷ us)) (λ y. parameter-unused (o.title ∷ us) y)

  pub parameters-within : Within (i + 2) (i + 2 + typed_width (parameters_of o.parameters)) (parameter_faults gs [] (i + 2) o.parameters)
  parameters-within =
      subst (Within (i + 2) (i + 2 + typed_width (parameters_of o.parameters))) (sym parameters-are) (typed-within gs (in_use (o.title ∷ us)) (i + 2) (parameters_of o.parameters))

  abstract-within : Within (abstractly_at i o) (abstractly_at i o + wide_pred o.abstractly) (abstract_faults gs av us i o)
  abstract-within = pred-within o.abstractly (scope gs (o.title ∷ us) (reach_in gs av o.parameters)) (abstractly_at i o)

  concrete-within : Within (suc (abstractly_at i o) + pred_width o.abstractly) (i + operation_length o) (concrete_faults gs cv us i o)
  concrete-within =
      let a = abstractly-at i o in let l = operation-length o in let w = pred-width o.abstractly in
      wider _ _ (pred-within o.concretely (scope gs (o.title ∷ us) (reach_in gs cv o.parameters)) (suc (abstractly_at i o) + pred_width o.abstractly)) (omega arith) (omega arith)

  predicates-within : Within (abstractly_at i o) (i + operation_length o) (abstract_faults gs av us i o ++ concrete_faults gs cv us i o)
  predicates-within =
      let a = abstractly-at i o in let l = operation-length o in let w = pred-width o.abstractly in
      within-append (wider _ _ abstract-within (omega arith) (omega arith)) (wider _ _ concrete-within (omega arith) (omega arith))

  behind-title : Within (i + 2) (i + operation_length o) (parameter_faults gs [] (i + 2) o.parameters ++ (abstract_faults gs av us i o ++ concrete_faults gs cv us i o))
  behind-title =
      let a = abstractly-at i o in let l = operation-length o in
      within-append (wider _ _ parameters-within (omega arith) (omega arith)) (wider _ _ predicates-within (omega arith) (omega arith))

  title-within : Within i (i + 2) (new_name us o.title (suc i))
  title-within = within_new us o.title (suc i) (omega arith) (omega arith)

  pub text-within : Within i (i + operation_length o) (text_of gs av cv us i o)
  unfolding text_of
  text-within = let l = operation-length o in within-append (wider _ _ title-within (omega arith) (omega arith)) (wider _ _ behind-title (omega arith) (omega arith))

unfoldable pub operations_width : List Operation → ℕ
operations_width [] = 0
operations_width (o ∷ os) = operation_length o + operations_width os

pub texts-within : (gs : List Given) (av cv : List Declaration) (us : List Letters) (i : ℕ) (os : List Operation) → Within i (i + operations_width os) (texts_of gs av cv us i os)
unfolding texts_of operations_width
texts-within gs av cv us i [] = nowhere
texts-within gs av cv us i (o ∷ os) =
    within-append (wider _ _ (text-within gs av cv us i o) (omega arith) (omega arith))
    (wider _ _ (texts-within gs av cv (o.title ∷ us) (i + operation_length o) os) (omega arith) (omega arith))

-- declared names stay in use beside another one
pub more-used : (ds : List Declaration) (x : Letters) (us : List Letters) → AreUsed ds us → AreUsed ds (x ∷ us)
more-used ds x us h y e = use-there x us y (h y e)

-- ---- keys ----

pub data OperationsIn (P : Letters → Type 0) : List Operation → Type 0 where
  no_operations : OperationsIn P []
  one_operation : {o : Operation} {os : List Operation} → P o.title → TypedIn P (parameters_of o.parameters) → PredIn P o.abstractly → PredIn P o.concretely
      → OperationsIn P os → OperationsIn P (o ∷ os)

module _ (ρ : Numbering) (P : Letters → Type 0) (ν : Numbered ρ P) {gs : List Given} (p : GivensIn P gs) (z : Sizes) (d : Sized gs z) {xs ys : List Letters} {av cv : List Declaration}
    (a : Group ρ P ν p z d xs av) (c : Group ρ P ν p z d ys cv) where
  module _ (us : List Letters) (ua : AreUsed av (us)) (uc : AreUsed cv us) (t : TitlesIn gs us) {T : Names} (s : Base ρ P gs T us) (i : ℕ) (o : Operation) (po : P o.title)
      (tp : TypedIn P (parameters_of o.parameters)) where
    module _ (e : new_name us o.title (suc i) ≡ []) where
      titled-base : Base ρ P gs (title_named o T ρ) (o.title ∷ us)
      titled-base = title-named ρ P ν p z d us s o.title po (new_unused us o.title (suc i) e)

      module _ (f : parameter_faults gs [] (i + 2) o.parameters ≡ []) where
        params-clear : Clear P gs (in_use (o.title ∷ us)) (parameters_of o.parameters)
        params-clear =
            clear gs tp (in_use (o.title ∷ us)) (λ y py h. (unused ρ P ν gs d.few titled-base y py h).0) (i + 2) (sym (parameters-are gs av cv us i o) ∙ f)

        pub operation-named : Base ρ P gs (operation_named o av cv T ρ) (o.title ∷ us)
        unfolding operation_named
        operation-named =
            let w = titled-base in let k = params-clear in
            parameters-hidden ρ P ν p z d (o.title ∷ us) w o.parameters k
            (leaving-sees ρ P ν p z d (o.title ∷ us) w o.parameters k c (more-used cv o.title us uc)
            (reaching-sees ρ P ν p z d (o.title ∷ us) w o.parameters k c (more-used cv o.title us uc)
            (leaving-sees ρ P ν p z d (o.title ∷ us) w o.parameters k a (more-used av o.title us ua)
            (reaching-sees ρ P ν p z d (o.title ∷ us) w o.parameters k a (more-used av o.title us ua) (parameters-shown ρ P ν p z d (o.title ∷ us) w o.parameters k)))))

        -- the names in reach of its two predicates
        pub abstract-shows : Shows ρ P (scope gs (o.title ∷ us) (reach_in gs av o.parameters)) (reaching av (parameters_shown o T ρ) ρ) z
        abstract-shows =
            let w = titled-base in let k = params-clear in
            shows ρ P ν p z d
            (reaching-sees ρ P ν p z d (o.title ∷ us) w o.parameters k a (more-used av o.title us ua) (parameters-shown ρ P ν p z d (o.title ∷ us) w o.parameters k))
            (o.title ∷ us) (reach_in gs av o.parameters) (titles-more gs (o.title ∷ []) us t)
            (reaching-uses ρ P ν p z d (o.title ∷ us) w o.parameters k a (more-used av o.title us ua))
            (λ y. operation-reach gs av o.parameters k.variables k.carried y (element_type gs y))

        pub concrete-shows : Shows ρ P (scope gs (o.title ∷ us) (reach_in gs cv o.parameters)) (reaching cv (leaving av (reaching av (parameters_shown o T ρ) ρ) ρ) ρ) z
        concrete-shows =
            let w = titled-base in let k = params-clear in
            shows ρ P ν p z d
            (reaching-sees ρ P ν p z d (o.title ∷ us) w o.parameters k c (more-used cv o.title us uc)
            (leaving-sees ρ P ν p z d (o.title ∷ us) w o.parameters k a (more-used av o.title us ua)
            (reaching-sees ρ P ν p z d (o.title ∷ us) w o.parameters k a (more-used av o.title us ua) (parameters-shown ρ P ν p z d (o.title ∷ us) w o.parameters k))))
            (o.title ∷ us) (reach_in gs cv o.parameters) (titles-more gs (o.title ∷ []) us t)
            (reaching-uses ρ P ν p z d (o.title ∷ us) w o.parameters k c (more-used cv o.title us uc))
            (λ y. operation-reach gs cv o.parameters k.variables k.carried y (element_type gs y))

    title-least : unless_key (is_free (entry T (number_of_name ρ o.title no_ending))) (key (i + 1) 8) ≡ least_key (new_name us o.title (suc i))
    unfolding new_name number_of
    title-least =
        let e : i + 1 ≡ suc i = omega arith in
        ap₂ (λ (b : Bool) (j : ℕ). unless_key b (key j 8)) (s.uses (plain o.title) po ∙ ap not (sym (taken_is us o.title))) e
        ∙ unless-least (not (is_taken us o.title)) (suc i) name_in_use

    pub operation-least : PredIn P o.abstractly → PredIn P o.concretely → operation_key o av cv T ρ z i ≡ least_key (text_of gs av cv us i o)
    unfolding operation_key text_of
    operation-least pa pc =
        let at = abstractly-at i o in let l = operation-length o in let wd = pred-width o.abstractly in
        behind _ _ (title-within gs av cv us i o) (behind-title gs av cv us i o) (omega arith) title-least
        (λ e. behind _ _ (parameters-within gs av cv us i o) (predicates-within gs av cv us i o) (omega arith)
        (declared-least ρ P ν gs z d tp (titled-base e) (i + 2) ∙ ap least_key (sym (parameters-are gs av cv us i o)))
        (λ f. behind _ _ (abstract-within gs av cv us i o) (concrete-within gs av cv us i o) (omega arith)
        (judged-pred ρ P ν o.abstractly (scope gs (o.title ∷ us) (reach_in gs av o.parameters)) _ z (abstract-shows e f) pa (abstractly_at i o)).0
        (λ g. (judged-pred ρ P ν o.concretely (scope gs (o.title ∷ us) (reach_in gs cv o.parameters)) _ z (concrete-shows e f) pc (suc (abstractly_at i o) + pred_width o.abstractly)).0)))
