-- Number 13 over a whole dossier: the least fault by numbers is that of the definitions' list.
use mathlib.Core.Path.{◌≡◌, ap, ◌∙◌, sym}
use mathlib.Core.Bool.{Bool, true, false}
use mathlib.Core.List.{List, [], ◌∷◌, ◌++◌, map}
use mathlib.Core.Option.{Option, none, some}
use Prim.Native.Nat.{ℕ, ◌+◌, ◌≤◌}
use native.Mathlib.Omega.{arith}
use lib.ListN.{set, length-set, length-replicate}
use Rattle.lexical.specs.Lists.{filter, find, concat}
use Rattle.lexical.specs.Symbols.{Name, Ending, no_ending, prime}
use Rattle.form.specs.Tree.{TypeForm, given_type, power_type, range_type, arrow_type}
use Rattle.form.specs.Tree.{Letters, Given, Declaration, declarations, Parameter, State, Operation, Dossier}
use Rattle.form.specs.Headings.{operation_length}
use Rattle.form.specs.Codes.{Numbering, name_number}
use Rattle.static_rules.specs.Carriers.{Carrier, Variable, largest, same_name, carrier_of}
use Rattle.static_rules.specs.Scope as scope
use Rattle.static_rules.specs.Scope.{Context, with_carrier, variables, contexts, operation_contexts, operation_reach}
use Rattle.static_rules.specs.Limits.{Sizes, context_sizes, size_faults, size_pred}
use Rattle.declared_names.specs.NamesByNumber.{Typed, variables_of, parameters_of}
use Rattle.type_rules.specs.TypesByNumber.{least_key}
use Rattle.names.proofs.ReachTables.{Numbered, PredIn}
use Rattle.names.proofs.TypesAgreeLeast.{two-parts, least-nil}
use Rattle.names.proofs.TypesAgreeScope.{find-here, find-there}
use Rattle.names.proofs.PassAgreesTables.{name-refl, changed}
use Rattle.names.proofs.PassAgreesTypes.{TypeIn}
use Rattle.names.proofs.PassAgreesDeclared.{TypedIn, one_typed}
use Rattle.names.proofs.PassAgreesOperations.{OperationsIn, no_operations, one_operation}
use Rattle.names.proofs.PassAgrees.{DossierIn}
use Rattle.term_sizes.specs.SizesByNumber.{Bounds}
use Rattle.limits.specs.DossierSizesByNumber as near
use Rattle.limits.specs.DossierSizesByNumber.{shown_sizes, context_over, least_over, EndsNear, TypesNear, OperationsNear, DeclaredNear}
use Rattle.limits.proofs.SizesAgreeScope.{SizesShown, size_found, size_of_name}
use Rattle.limits.proofs.SizesAgree.{measured_pred}
use Rattle.lexical.proofs.Zeros.{zero-at}

-- ---- the sizes of the variables in reach ----

-- all letters of some variables are the text's
pub data NamesIn (P : Letters → Type 0) : List Variable → Type 0 where
  no_names : NamesIn P []
  one_name : {v : Variable} {vs : List Variable} → P v.called.letters → NamesIn P vs → NamesIn P (v ∷ vs)

names-append : {P : Letters → Type 0} {vs ws : List Variable} → NamesIn P vs → NamesIn P ws → NamesIn P (vs ++ ws)
names-append no_names k = k
names-append (one_name p h) k = one_name p (names-append h k)

abbrev sizes_of : List Variable → Sizes
sizes_of vs = map (λ (v : Variable). (v.called, largest v.carrier)) vs

module _ (ρ : Numbering) (P : Letters → Type 0) (ν : Numbered ρ P) where
  -- a name with any ending comes into reach
  name-shown : (Γ : Sizes) (S : Bounds) → SizesShown ρ P Γ S → (x : Name) → P x.letters → (n : ℕ) → SizesShown ρ P ((x, n) ∷ Γ) (set S (name_number ρ x) n)
  name-shown Γ S s x px n =
      record {
        long = omega (arith, length-set S (name_number ρ x) n, s.long);
        sizes =
            changed ρ P ν [] S s.long x px n (λ (y : Name) (m : ℕ). m ≡ size_of_name ((x, n) ∷ Γ) y)
            (sym (ap size_found (find-here (λ (z : Name × ℕ). same_name z.0 x) (x, n) Γ (name-refl x))))
            (λ y py e. s.sizes y py ∙ sym (ap size_found (find-there (λ (z : Name × ℕ). same_name z.0 y) (x, n) Γ e)));
      }

  reach-shown : (n : ℕ) → 16384 ≤ n → {vs : List Variable} → NamesIn P vs → SizesShown ρ P (sizes_of vs) (shown_sizes vs ρ n)
  unfolding shown_sizes find
  reach-shown n l no_names = record { long = omega (arith, length-replicate {A = ℕ} n 0); sizes = λ x px. zero-at n (name_number ρ x) }
  reach-shown n l (one_name {v = v} {vs = vs} p h) = name-shown (sizes_of vs) (shown_sizes vs ρ n) (reach-shown n l h) v.called p (largest v.carrier)

-- ---- the letters of the variables in reach ----

data LettersIn (P : Letters → Type 0) : List Declaration → Type 0 where
  no_letters : LettersIn P []
  one_letters : {d : Declaration} {ds : List Declaration} → P d.declared → LettersIn P ds → LettersIn P (d ∷ ds)

head_in : {P : Letters → Type 0} {x : Typed} {xs : List Typed} → TypedIn P (x ∷ xs) → P x.called.letters
head_in (one_typed p t h) = p

tail_in : {P : Letters → Type 0} {x : Typed} {xs : List Typed} → TypedIn P (x ∷ xs) → TypedIn P xs
tail_in (one_typed p t h) = h

declared-letters : {P : Letters → Type 0} (ds : List Declaration) → TypedIn P (variables_of no_ending ds) → LettersIn P ds
unfolding variables_of
declared-letters [] h = no_letters
declared-letters (d ∷ ds) h = one_letters (head_in h) (declared-letters ds (tail_in h))

-- those of the parameters that pass a test
parameter-letters : {P : Letters → Type 0} (f : Parameter → Bool) (xs : List Parameter) → TypedIn P (parameters_of xs)
    → LettersIn P (map (λ (x : Parameter). x.declaration) (filter f xs))
unfolding parameters_of filter
parameter-letters f [] h = no_letters
parameter-letters {P} f (x ∷ xs) h = on (f x) (parameter-letters f xs (tail_in h))
  where
    on : (b : Bool) → LettersIn P (map (λ (y : Parameter). y.declaration) (filter f xs)) → LettersIn P (map (λ (y : Parameter). y.declaration) (elim b as (λ (c : Bool). List Parameter) [ true ↦ x ∷ filter f xs | false ↦ filter f xs ]))
    on true k = one_letters (head_in h) k
    on false k = k

-- a type at fault has no carrier, and its variable is dropped
carried-in : {P : Letters → Type 0} (x : Name) (o : Option Carrier) {vs : List Variable} → P x.letters → NamesIn P vs → NamesIn P (with_carrier x o vs)
carried-in x none p h = h
carried-in x (some c) p h = one_name p h

variable-names : {P : Letters → Type 0} (gs : List Given) (e : Ending) {ds : List Declaration} → LettersIn P ds → NamesIn P (variables gs e ds)
unfolding variables
variable-names gs e no_letters = no_names
variable-names gs e (one_letters {d = d} {ds = ds} p h) =
    carried-in (record { letters = d.declared; ending = e }) (carrier_of gs d.type) p (variable-names gs e h)

-- ---- all contexts ----

pub data ContextsIn (P : Letters → Type 0) : List Context → Type 0 where
  no_contexts : ContextsIn P []
  one_context : {c : Context} {cs : List Context} → PredIn P c.predicate → NamesIn P c.scope.reach → ContextsIn P cs → ContextsIn P (c ∷ cs)

module _ {P : Letters → Type 0} (d : Dossier) (h : DossierIn P d) where
  abstract-letters : LettersIn P (declarations d.abstract)
  abstract-letters = declared-letters (declarations d.abstract) h.abstract_in

  concrete-letters : LettersIn P (declarations d.concrete)
  concrete-letters = declared-letters (declarations d.concrete) h.concrete_in

  operation-names : (s : State) → LettersIn P (declarations s) → (o : Operation) → TypedIn P (parameters_of o.parameters) → NamesIn P (operation_reach d s o)
  unfolding scope.parameters_of
  operation-names s l o t =
      names-append
      (names-append (names-append (variable-names d.givens no_ending l) (variable-names d.givens prime l))
      (variable-names d.givens _ (parameter-letters (λ (x : Parameter). scope.is_input x.direction) o.parameters t)))
      (variable-names d.givens _ (parameter-letters (λ (x : Parameter). scope.is_output x.direction) o.parameters t))

  operations_in : {os : List Operation} → OperationsIn P os → (i : ℕ) (xs : List Letters) → ContextsIn P (operation_contexts d i xs os)
  unfolding operation_contexts
  operations_in no_operations i xs = no_contexts
  operations_in (one_operation {o = o} p t a c k) i xs =
      one_context a (operation-names d.abstract abstract-letters o t)
      (one_context c (operation-names d.concrete concrete-letters o t) (operations_in k (i + operation_length o) (o.title ∷ xs)))

  contexts-in : ContextsIn P (contexts d)
  unfolding contexts
  contexts-in =
      let a = variable-names d.givens no_ending abstract-letters in
      let c = variable-names d.givens no_ending concrete-letters in
      one_context h.abstract_holds_lem a
      (one_context h.concrete_holds_lem c
      (one_context h.ainit_in a (one_context h.cinit_in c (one_context h.retrieve_in (names-append a c) (operations_in h.operations_in _ _)))))

module _ (ρ : Numbering) (P : Letters → Type 0) (ν : Numbered ρ P) (n : ℕ) (l : 16384 ≤ n) where
  contexts-least : {cs : List Context} → ContextsIn P cs → least_over cs ρ n ≡ least_key (concat (map context_sizes cs))
  unfolding least_over context_over concat context_sizes
  contexts-least no_contexts = sym least-nil
  contexts-least (one_context {c = c} {cs = cs} p v h) =
      two-parts (size_pred c.predicate (sizes_of c.scope.reach) c.at).faults (concat (map context_sizes cs))
      (measured_pred ρ P ν c.predicate (sizes_of c.scope.reach) (shown_sizes c.scope.reach ρ n) (reach-shown ρ P ν n l v) p c.at).0 (contexts-least h)

-- the least fault of number 13 of a dossier whose letters the numbering tells apart
pub measures-least : (ρ : Numbering) (P : Letters → Type 0) → Numbered ρ P → (d : Dossier) → DossierIn P d → (n : ℕ) → 16384 ≤ n
    → least_over (contexts d) ρ n ≡ least_key (size_faults d)
unfolding size_faults
measures-least ρ P ν d h n l = contexts-least ρ P ν n l (contexts-in d h)

-- ---- the ends of declared ranges are a text's ----

head-type : {P : Letters → Type 0} {x : Typed} {xs : List Typed} → TypedIn P (x ∷ xs) → TypeIn P x.type
head-type (one_typed p t h) = t

type-near : (P : Letters → Type 0) (t : TypeForm) → TypeIn P t → EndsNear t
type-near P (given_type g) h = tt
type-near P (power_type g) h = tt
type-near P (range_type r) h = h
type-near P (arrow_type a g k) h = tt

declared-near : {P : Letters → Type 0} (ds : List Declaration) → TypedIn P (variables_of no_ending ds) → TypesNear ds
unfolding variables_of
declared-near [] h = near.no_types
declared-near {P} (d ∷ ds) h = near.one_type (type-near P d.type (head-type h)) (declared-near ds (tail_in h))

parameters-near : {P : Letters → Type 0} (xs : List Parameter) → TypedIn P (parameters_of xs) → TypesNear (map (λ (x : Parameter). x.declaration) xs)
unfolding parameters_of
parameters-near [] h = near.no_types
parameters-near {P} (x ∷ xs) h = near.one_type (type-near P x.declaration.type (head-type h)) (parameters-near xs (tail_in h))

operations-near : {P : Letters → Type 0} {os : List Operation} → OperationsIn P os → OperationsNear os
operations-near no_operations = near.no_operations
operations-near (one_operation {o = o} p t a c k) = near.one_operation (parameters-near o.parameters t) (operations-near k)

-- what `measures` asks for beside the fit
pub dossier-near : (P : Letters → Type 0) (d : Dossier) → DossierIn P d → DeclaredNear d
dossier-near P d h =
    record {
      abstracts = declared-near (declarations d.abstract) h.abstract_in;
      concretes = declared-near (declarations d.concrete) h.concrete_in;
      parameters = operations-near h.operations_in;
    }
