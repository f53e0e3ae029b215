-- What holds of the letters of every name of a dossier, at a place: of its elements, its operations and their parameters.
use mathlib.Core.Path.{◌≡◌, subst}
use mathlib.Core.List.{List}
use mathlib.Core.Option.{some, none-ne-some, some-injective}
use Prim.Native.Nat.{ℕ, zero, suc}
use lib.ListN.{get_elem?}
use Rattle.form.specs.Tree.{Letters, Given, elements, Operation}
use Rattle.declared_names.specs.NamesByNumber.{parameters_of}
use Rattle.names.proofs.PassAgreesDeclared.{TypedIn}
use Rattle.names.proofs.PassAgreesGivens.{AllIn, none_in, one_in, GivensIn, no_givens, one_given}
use Rattle.names.proofs.PassAgreesOperations.{OperationsIn, no_operations, one_operation}

module _ {P : Letters → Type 0} where
  pub letters-at : {xs : List Letters} → AllIn P xs → (k : ℕ) (x : Letters) → get_elem? xs k ≡ some x → P x
  letters-at none_in k x e = absurd (none-ne-some x e)
  letters-at (one_in {x = y} h r) zero x e = subst P (some-injective y x e) h
  letters-at (one_in h r) (suc k) x e = letters-at r k x e

  pub elements-in : {gs : List Given} → GivensIn P gs → (n : ℕ) (g : Given) → get_elem? gs n ≡ some g → AllIn P (elements g)
  elements-in no_givens n g e = absurd (none-ne-some g e)
  elements-in (one_given {g = k} t h r) zero g e = subst (λ (x : Given). AllIn P (elements x)) (some-injective k g e) h
  elements-in (one_given t h r) (suc n) g e = elements-in r n g e

  pub operation-in : {os : List Operation} → OperationsIn P os → (j : ℕ) (o : Operation) → get_elem? os j ≡ some o → P o.title × TypedIn P (parameters_of o.parameters)
  operation-in no_operations j o e = absurd (none-ne-some o e)
  operation-in (one_operation {o = p} t h a c r) zero o e =
      subst (λ (x : Operation). P x.title × TypedIn P (parameters_of x.parameters)) (some-injective p o e) (t, h)
  operation-in (one_operation t h a c r) (suc j) o e = operation-in r j o e
