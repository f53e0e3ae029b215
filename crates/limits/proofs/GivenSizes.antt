-- The table of names and the sizes that the pass over given sets makes tell the sizes of the given sets in declared types.
use mathlib.Core.Path.{◌≡◌, ap, ◌∙◌, sym, subst}
use mathlib.Core.List.{List, [], map}
use mathlib.Core.Option.{Option}
use Prim.Native.Nat.{ℕ, ◌+◌, ◌≤◌, ◌<◌}
use native.Mathlib.Omega.{arith}
use lib.ListN.{length, get_or, replicate, length-replicate}
use Rattle.lexical.specs.Symbols.{Name}
use Rattle.form.specs.Tree.{Letters, TypeForm, given_type, power_type, range_type, arrow_type, Given, Operation, Dossier}
use Rattle.form.specs.Headings.{givens_at}
use Rattle.form.specs.Codes.{Numbering, name_number}
use Rattle.static_rules.specs.Carriers.{size_of}
use Rattle.static_rules.specs.Scope.{given_names}
use Rattle.static_rules.specs.Names.{name_faults}
use Rattle.type_rules.specs.TypesByNumber.{Names, Sizes, entry, size_in}
use Rattle.declared_names.specs.NamesByNumber.{Typed, givens_named}
use Rattle.names.proofs.ReachTables.{index_of, GivenIs, Numbered}
use Rattle.names.proofs.TypesAgreeTypes.{index_in}
use Rattle.names.proofs.TypesAgreeScope.{found}
use Rattle.names.proofs.PassAgreesTypes.{TypeIn}
use Rattle.names.proofs.PassAgreesDeclared.{TypedIn, no_typed, one_typed}
use Rattle.names.proofs.PassAgreesOperations as operations
use Rattle.names.proofs.PassAgreesOperations.{OperationsIn}
use Rattle.names.proofs.PassAgreesGivens.{Holds}
use Rattle.names.proofs.PassAgreesNamed.{Base, givens-sees}
use Rattle.names.proofs.PassAgrees.{DossierIn}
use Rattle.binding_counts.specs.BindingsByNumber.{size_at, GivenShown, TypeShown, TypesShown, none_shown, one_shown, OperationsShown, no_operation_shown, operation_shown, GivensShown}
use Rattle.limits.proofs.TypesFit.{givens-fit}
use Rattle.lexical.proofs.Zeros.{zero-at}
use Rattle.names.proofs.TypesAgreeBinders.{minus-eight}

-- the sizes are those of the given sets, by their numbers
abbrev pub SizesOf : List Given → Sizes → Type 0
SizesOf gs z = (k : ℕ) → k < length gs → get_or z k 0 ≡ get_or (map size_of gs) k 0

module _ (ρ : Numbering) (P : Letters → Type 0) (gs : List Given) (z : Sizes) (sizes : SizesOf gs z) (T : Names) (us : List Letters) (s : Base ρ P gs T us) where
  given-shown : (g : Name) → P g.letters → GivenShown T z gs ρ g
  unfolding size_at size_in
  given-shown g p x e =
      let f = found gs g x e in
      let is : entry T (name_number ρ g) ≡ 8 + index_of gs x.title = subst (λ (o : Option Given). GivenIs gs o (entry T (name_number ρ g))) e (s.givens g p) in
      ap (λ (n : ℕ). get_or z n 0) (minus-eight (entry T (name_number ρ g)) (index_of gs x.title) is) ∙ sizes (index_of gs x.title) (index_in gs x.title f.listed) ∙ f.sized

  type-shown : (t : TypeForm) → TypeIn P t → TypeShown T z gs ρ t
  type-shown (given_type g) h = given-shown g h
  type-shown (power_type g) h = given-shown g h
  type-shown (range_type r) h = h
  type-shown (arrow_type a g k) h = (given-shown g h.0, given-shown k h.1)

  types-shown : {xs : List Typed} → TypedIn P xs → TypesShown T z gs ρ xs
  types-shown no_typed = none_shown
  types-shown (one_typed {x = x} p t h) = one_shown (type-shown x.type t) (types-shown h)

  operations-shown : {os : List Operation} → OperationsIn P os → OperationsShown T z gs ρ os
  operations-shown operations.no_operations = no_operation_shown
  operations-shown (operations.one_operation p t a c h) = operation_shown (types-shown t) (operations-shown h)

pub givens-shown : (ρ : Numbering) (P : Letters → Type 0) → Numbered ρ P → (d : Dossier) → DossierIn P d → name_faults d ≡ [] → length d.givens ≤ 8
    → (n : ℕ) → 16384 ≤ n → (T : Names) → T ≡ givens_named d.givens 0 (replicate n 0) ρ → (z : Sizes) → SizesOf d.givens z → GivensShown T z d ρ
givens-shown ρ P ν d h e few n long T named z sizes =
    let free : Holds ρ P (replicate n 0) (λ (y : Name). 0) = record { long = omega (arith, length-replicate {A = ℕ} n 0); are = λ y py. zero-at n (name_number ρ y) } in
    let sees : Base ρ P d.givens (givens_named d.givens 0 (replicate n 0) ρ) (given_names d.givens) = givens-sees ρ P ν h.givens_in few free (givens_at d) (givens-fit d e) in
    let s : Base ρ P d.givens T (given_names d.givens) = subst (λ (t : Names). Base ρ P d.givens t (given_names d.givens)) (sym named) sees in
    record {
      abstracts = types-shown ρ P d.givens z sizes T (given_names d.givens) s h.abstract_in;
      concretes = types-shown ρ P d.givens z sizes T (given_names d.givens) s h.concrete_in;
      parameters = operations-shown ρ P d.givens z sizes T (given_names d.givens) s h.operations_in;
    }
