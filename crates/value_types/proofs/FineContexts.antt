-- A dossier without faults of names and sizes: every predicate is as the theorem on evaluation asks.
use mathlib.Core.Path.{◌≡◌, refl, sym, subst}
use mathlib.Core.Logic.{inl, inr}
use mathlib.Core.List.{List, [], ◌∷◌, ◌++◌, map}
use mathlib.Core.Option.{some}
use Prim.Native.Nat.{ℕ, suc, ◌+◌}
use lib.ListN.{get_elem?}
use Rattle.std.specs.Simd.Lanes.{Each1}
use Rattle.lexical.specs.Lists.{concat}
use Rattle.lexical.specs.Symbols.{no_ending, prime}
use Rattle.refusals.specs.Refusals.{Fault}
use Rattle.meaning.specs.FormTree.{Letters, Pred, declarations, inward, outward, State, Operation, Dossier}
use Rattle.meaning.specs.FormHeadings.{givens_at, abstract_at, concrete_at, operations_at, operation_length}
use Rattle.meaning.proofs.FormTable.{◌&◌}
use Rattle.meaning.specs.StaticRulesCarriers.{Variable}
use Rattle.meaning.specs.StaticRulesScope.{Context, unprimed, primed, inputs, outputs, given_names, abstract_taken, concrete_taken}
use Rattle.meaning.specs.StaticRulesScope.{operation_reach, operation_contexts, contexts}
use Rattle.meaning.specs.StaticRulesNames.{given_faults, context_faults, name_faults}
use Rattle.meaning.specs.StaticRulesLimits.{context_sizes, size_faults}
use Rattle.meaning.specs.Bindings.{Among}
use Rattle.meaning.proofs.Places.{entry-member}
use Rattle.value_types.specs.TypedValues.{CarriersFit, InReach, PredWithin}
use Rattle.meaning.specs.FormBoundNames.{PredBindsFew, OperationsBindFew, BindsFew}
use Rattle.value_types.specs.FaultlessContexts.{ContextFine, FewElements, DeclarationsWithin, ParametersWithin, OperationsWithin, NumbersWithin}
use Rattle.value_types.proofs.GivenTitles.{few-elements, title-finds}
use Rattle.value_types.proofs.DeclaredCarriers.{HaveCarriers, declarations_of, declarations-carry, operations-carry, variables-fit, parameters-fit, fit_append}
use Rattle.refusals.proofs.FaultLists.{append_nil-both}
use Rattle.meaning.proofs.StaticRulesFaultless.{faultless}

-- ---- a dossier's parts

pub record DossierFaultless (d : Dossier) : Type 0 where
  pub givens : given_faults [] (givens_at d) d.givens ≡ []
  pub abstract : HaveCarriers d.givens (declarations d.abstract)
  pub concrete : HaveCarriers d.givens (declarations d.concrete)
  pub parameters : (o : Operation) → Among o d.operations → HaveCarriers d.givens (declarations_of o.parameters)
  pub predicates : concat (map context_faults (contexts d)) ≡ []

pub dossier-faultless : (d : Dossier) → name_faults d ≡ [] → DossierFaultless d
dossier-faultless d e =
    let f = faultless d e in
    record {
      givens = f.givens_new;
      abstract = declarations-carry d.givens (given_names d.givens) (suc (abstract_at d)) (declarations d.abstract) f.abstract_new;
      concrete = declarations-carry d.givens (abstract_taken d) (suc (concrete_at d)) (declarations d.concrete) f.concrete_new;
      parameters = operations-carry d.givens (concrete_taken d) (operations_at d) d.operations f.operations_new;
      predicates = f.contexts_clear;
    }

-- a part of a whole without faults
part-nil : {A : Type 0} (f : A → List Fault) (xs : List A) → concat (map f xs) ≡ [] → (x : A) → Among x xs → f x ≡ []
unfolding concat Among
part-nil f [] e x m = absurd m
part-nil {A = A} f (y ∷ xs) e x (inl k) = subst (λ (z : A). f z ≡ []) (sym k) (append_nil-both (f y) (concat (map f xs)) e).0
part-nil f (y ∷ xs) e x (inr m) = part-nil f xs (append_nil-both (f y) (concat (map f xs)) e).1 x m

-- ---- the contexts

-- what is known of a context apart from its faults
record Ready (c : Context) : Type 0 where
  reach : InReach c.scope
  within : PredWithin c.predicate
  few : PredBindsFew c.predicate 0

unfoldable AllReady : List Context → Type 0
AllReady cs = Each1 Ready cs

ready-member : (cs : List Context) → AllReady cs → (c : Context) → Among c cs → Ready c
unfolding AllReady Among
ready-member [] h c m = absurd m
ready-member (x ∷ cs) h c (inl e) = subst Ready (sym e) h.0
ready-member (x ∷ cs) h c (inr m) = ready-member cs h.1 c m

module _ (d : Dossier) (f : DossierFaultless d) (g : FewElements d.givens) (w : NumbersWithin d) (b : BindsFew d) where
  ready : (p : Pred) (i : ℕ) (xs : List Letters) (vs : List Variable) → CarriersFit d.givens vs → PredWithin p → PredBindsFew p 0
      → Ready (record { predicate = p; at = i; scope = record { givens = d.givens; taken = xs; reach = vs } })
  ready p i xs vs h k n = record {
    reach = record { titled = title-finds [] (givens_at d) d.givens f.givens; few = few-elements d.givens g; fit = h };
    within = k;
    few = n;
  }

  reach-fit : (s : State) (o : Operation) → HaveCarriers d.givens (declarations s) → DeclarationsWithin (declarations s)
      → HaveCarriers d.givens (declarations_of o.parameters) → ParametersWithin o.parameters → CarriersFit d.givens (operation_reach d s o)
  reach-fit s o h k p q =
      let u = variables-fit d.givens no_ending (declarations s) h k in
      let v = variables-fit d.givens prime (declarations s) h k in
      fit_append d.givens (unprimed d s ++ primed d s ++ inputs d o) (outputs d o)
      (fit_append d.givens (unprimed d s ++ primed d s) (inputs d o)
      (fit_append d.givens (unprimed d s) (primed d s) u v)
      (parameters-fit d.givens inward o.parameters p q))
      (parameters-fit d.givens outward o.parameters p q)

  operations-ready : (i : ℕ) (xs : List Letters) (os : List Operation)
      → ((o : Operation) → Among o os → HaveCarriers d.givens (declarations_of o.parameters))
      → OperationsWithin os → OperationsBindFew os → AllReady (operation_contexts d i xs os)
  unfolding operation_contexts AllReady OperationsWithin OperationsBindFew Among
  operations-ready i xs [] h k n = tt
  operations-ready i xs (o ∷ os) h k n =
      let a = reach-fit d.abstract o f.abstract w.abstract_types (h o (inl refl)) k.0 in
      let c = reach-fit d.concrete o f.concrete w.concrete_types (h o (inl refl)) k.0 in
      ready o.abstractly _ (o.title ∷ xs) (operation_reach d d.abstract o) a k.1 n.0
      & ready o.concretely _ (o.title ∷ xs) (operation_reach d d.concrete o) c k.2 n.1
      & operations-ready (i + operation_length o) (o.title ∷ xs) os (λ x m. h x (inr m)) k.3 n.2

  all-ready : AllReady (contexts d)
  unfolding contexts AllReady
  all-ready =
      let a = variables-fit d.givens no_ending (declarations d.abstract) f.abstract w.abstract_types in
      let c = variables-fit d.givens no_ending (declarations d.concrete) f.concrete w.concrete_types in
      let both = fit_append d.givens (unprimed d d.abstract) (unprimed d d.concrete) a c in
      ready d.abstract.predicate _ (abstract_taken d) (unprimed d d.abstract) a w.abstract b.abstract
      & ready d.concrete.predicate _ (concrete_taken d) (unprimed d d.concrete) c w.concrete b.concrete
      & ready d.ainit _ (concrete_taken d) (unprimed d d.abstract) a w.ainit b.ainit
      & ready d.cinit _ (concrete_taken d) (unprimed d d.concrete) c w.cinit b.cinit
      & ready d.retrieve _ (concrete_taken d) (unprimed d d.abstract ++ unprimed d d.concrete) both w.retrieve b.retrieve
      & operations-ready (operations_at d) (concrete_taken d) d.operations f.parameters w.operations b.operations

pub contexts-fine : (d : Dossier) → name_faults d ≡ [] → size_faults d ≡ [] → FewElements d.givens → NumbersWithin d → BindsFew d
    → (c : Context) → Among c (contexts d) → ContextFine c
unfolding size_faults context_faults context_sizes
contexts-fine d e s g w b c m =
    let f = dossier-faultless d e in
    let r = ready-member (contexts d) (all-ready d f g w b) c m in
    record {
      reach = r.reach;
      names = part-nil context_faults (contexts d) f.predicates c m;
      sizes = part-nil context_sizes (contexts d) s c m;
      within = r.within;
      few = r.few;
    }

pub context-fine : (d : Dossier) → name_faults d ≡ [] → size_faults d ≡ [] → FewElements d.givens → NumbersWithin d → BindsFew d
    → (n : ℕ) (c : Context) → get_elem? (contexts d) n ≡ some c → ContextFine c
context-fine d e s g w b n c k = contexts-fine d e s g w b c (entry-member c (contexts d) n k)
