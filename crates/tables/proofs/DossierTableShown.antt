-- The tables of names that the pass makes for the contexts of a dossier without faults: each shows the names in reach of its predicate.
use mathlib.Core.Path.{◌≡◌}
use mathlib.Core.List.{List, [], ◌∷◌, ◌++◌, map}
use Prim.Native.Nat.{ℕ, suc, ◌+◌, ◌≤◌, ◌<◌}
use native.Mathlib.Omega.{arith}
use lib.ListN.{length, get_or, replicate, length-replicate}
use Rattle.form.specs.Tree.{Letters, Given, declarations, Operation, Dossier}
use Rattle.form.specs.Headings.{givens_at, abstract_at, concrete_at, operations_at, operation_length}
use Rattle.form.specs.Codes.{Numbering}
use Rattle.static_rules.specs.Carriers.{size_of}
use Rattle.static_rules.specs.Scope.{Context, given_names, abstract_taken, concrete_taken, operation_contexts, contexts}
use Rattle.static_rules.specs.Names.{new_name, given_faults, parameter_faults, operation_faults, name_faults}
use Rattle.type_rules.specs.TypesByNumber.{Names, Sizes}
use Rattle.declared_names.specs.NamesByNumber.{givens_named}
use Rattle.names.proofs.ReachTables.{Numbered, Shows}
use Rattle.names.proofs.PassAgreesTypes.{Sized}
use Rattle.names.proofs.PassAgreesGivens.{GivensIn}
use Rattle.names.proofs.PassAgreesNamed.{Base, givens-sees}
use Rattle.names.proofs.PassAgreesScopes.{TitlesIn, titles-given, titles-more, Group, group, state-shows, state-named}
use Rattle.names.proofs.PassAgreesConditions.{AreUsed, ainit-shows, cinit-shows, retrieve-shows, conditions-named}
use Rattle.names.proofs.PassAgreesOperations.{OperationsIn, no_operations, one_operation, more-used, operation-named, abstract-shows, concrete-shows}
use Rattle.static_rules.proofs.Faultless.{Faultless, faultless}
use Rattle.names.proofs.PassAgrees.{abstract-used, abstract-still, concrete-used, abstract-titles, concrete-titles, DossierIn}
use Rattle.table_places.specs.DossierTableByNumber.{operation_kinds, kinds_of}
use Rattle.refusals.proofs.FaultLists.{append_nil-both}
use Rattle.lexical.proofs.Zeros.{zero-at}

-- each context with its table of names
pub data AllShown (ρ : Numbering) (P : Letters → Type 0) (z : Sizes) : List Context → List Names → Type 0 where
  none_shown : AllShown ρ P z [] []
  one_shown : {c : Context} {cs : List Context} {T : Names} {Ts : List Names} → Shows ρ P c.scope T z → AllShown ρ P z cs Ts → AllShown ρ P z (c ∷ cs) (T ∷ Ts)

-- ---- no faults, part by part ----

-- what an operation without faults in its head adds
pub record HeadNew (gs : List Given) (us : List Letters) (i : ℕ) (o : Operation) (os : List Operation) : Type 0 where
  pub title_new : new_name us o.title (suc i) ≡ []
  pub parameters_new : parameter_faults gs [] (i + 2) o.parameters ≡ []
  pub rest_new : operation_faults gs (o.title ∷ us) (i + operation_length o) os ≡ []

pub head_new : (gs : List Given) (us : List Letters) (i : ℕ) (o : Operation) (os : List Operation) → operation_faults gs us i (o ∷ os) ≡ [] → HeadNew gs us i o os
unfolding operation_faults
head_new gs us i o os e =
    let a = append_nil-both (new_name us o.title (suc i) ++ parameter_faults gs [] (i + 2) o.parameters) (operation_faults gs (o.title ∷ us) (i + operation_length o) os) e in
    let b = append_nil-both (new_name us o.title (suc i)) (parameter_faults gs [] (i + 2) o.parameters) a.0 in
    record { title_new = b.0; parameters_new = b.1; rest_new = a.1 }

-- ---- tables of operations ----

module _ (ρ : Numbering) (P : Letters → Type 0) (ν : Numbered ρ P) (d : Dossier) (p : GivensIn P d.givens) (z : Sizes) (k : Sized d.givens z) {xs ys : List Letters}
    (a : Group ρ P ν p z k xs (declarations d.abstract)) (c : Group ρ P ν p z k ys (declarations d.concrete)) where
  operations-shown : {os : List Operation} → OperationsIn P os → (us : List Letters) → AreUsed (declarations d.abstract) us → AreUsed (declarations d.concrete) us
      → TitlesIn d.givens us → {T : Names} → Base ρ P d.givens T us → (i : ℕ) → operation_faults d.givens us i os ≡ []
      → AllShown ρ P z (operation_contexts d i us os) (operation_kinds d os T ρ)
  unfolding operation_contexts operation_kinds
  operations-shown no_operations us ua uc t s i e = none_shown
  operations-shown (one_operation {o = o} {os = os} po tp pa pc h) us ua uc t s i e =
      let n = head_new d.givens us i o os e in
      one_shown (abstract-shows ρ P ν p z k a c us ua uc t s i o po tp n.title_new n.parameters_new)
      (one_shown (concrete-shows ρ P ν p z k a c us ua uc t s i o po tp n.title_new n.parameters_new)
      (operations-shown h (o.title ∷ us) (more-used (declarations d.abstract) o.title us ua) (more-used (declarations d.concrete) o.title us uc) (titles-more d.givens (o.title ∷ []) us t)
      (operation-named ρ P ν p z k a c us ua uc t s i o po tp n.title_new n.parameters_new) (i + operation_length o) n.rest_new))

-- ---- all contexts ----

-- the table behind the given sets, from one of n names that are free
pub free-sees : (ρ : Numbering) (P : Letters → Type 0) → Numbered ρ P → {gs : List Given} → GivensIn P gs → length gs ≤ 8 → (n : ℕ) → 16384 ≤ n → (i : ℕ)
    → given_faults [] i gs ≡ [] → Base ρ P gs (givens_named gs 0 (replicate n 0) ρ) (given_names gs)
free-sees ρ P ν p few n long i e =
    givens-sees ρ P ν p few (record { long = omega (arith, length-replicate {A = ℕ} n 0); are = λ y py. zero-at n _ }) i e

module _ (ρ : Numbering) (P : Letters → Type 0) (ν : Numbered ρ P) (d : Dossier) (h : DossierIn P d) (z : Sizes) (k : Sized d.givens z) (f : Faultless d) where
  from-givens : {T : Names} → Base ρ P d.givens T (given_names d.givens) → AllShown ρ P z (contexts d) (kinds_of d T ρ)
  unfolding contexts kinds_of
  from-givens {T} B =
      let p = h.givens_in in
      let a = group ρ P ν p z k B (declarations d.abstract) h.abstract_in (suc (abstract_at d)) f.abstract_new in
      let C = state-named ρ P ν p z k (given_names d.givens) B d.abstract a in
      let c = group ρ P ν p z k C (declarations d.concrete) h.concrete_in (suc (concrete_at d)) f.concrete_new in
      let E = state-named ρ P ν p z k (abstract_taken d) C d.concrete c in
      let us = concrete_taken d in
      let ua = abstract-still d in
      let uc = concrete-used d in
      let t = concrete-titles d in
      one_shown (state-shows ρ P ν p z k (given_names d.givens) B d.abstract (titles-given d.givens) a)
      (one_shown (state-shows ρ P ν p z k (abstract_taken d) C d.concrete (abstract-titles d) c)
      (one_shown (ainit-shows ρ P ν p z k a c us ua uc E t)
      (one_shown (cinit-shows ρ P ν p z k a c us ua uc E t)
      (one_shown (retrieve-shows ρ P ν p z k a c us ua uc E t)
      (operations-shown ρ P ν d p z k a c h.operations_in us ua uc t
      (conditions-named ρ P ν p z k d a c us ua uc (abstract-used d) t E) (operations_at d) f.operations_new)))))

pub contexts-shown : (ρ : Numbering) (P : Letters → Type 0) → Numbered ρ P → (d : Dossier) → DossierIn P d → name_faults d ≡ [] → (n : ℕ) → 16384 ≤ n → (z : Sizes)
    → ((k : ℕ) → k < length d.givens → get_or z k 0 ≡ get_or (map size_of d.givens) k 0) → length d.givens ≤ 8
    → AllShown ρ P z (contexts d) (kinds_of d (givens_named d.givens 0 (replicate n 0) ρ) ρ)
contexts-shown ρ P ν d h e n long z sizes few =
    let f = faultless d e in
    from-givens ρ P ν d h z (record { few = few; sizes = sizes }) f (free-sees ρ P ν h.givens_in few n long (givens_at d) f.givens_new)
