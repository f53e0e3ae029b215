-- No declared type of a dossier is at fault. Nothing here need be believed.
use Rattle.std.specs.Prelude.{◌≡◌, List, [], ◌∷◌, map, ℕ}
use Rattle.form.specs.Tree.{Given, Declaration, declarations, Parameter, Operation, Dossier}
use Rattle.static_rules.specs.Names.{type_faults}

pub data TypesFit (gs : List Given) : List Declaration → Type 0 where
  no_types : TypesFit gs []
  one_type : {d : Declaration} {ds : List Declaration} (i : ℕ) → type_faults gs d.type i ≡ [] → TypesFit gs ds → TypesFit gs (d ∷ ds)

pub data OperationsFit (gs : List Given) : List Operation → Type 0 where
  no_operations : OperationsFit gs []
  one_operation : {o : Operation} {os : List Operation} → TypesFit gs (map (λ (x : Parameter). x.declaration) o.parameters) → OperationsFit gs os
      → OperationsFit gs (o ∷ os)

pub record DeclaredFit (d : Dossier) : Type 0 where
  pub abstracts : TypesFit d.givens (declarations d.abstract)
  pub concretes : TypesFit d.givens (declarations d.concrete)
  pub parameters : OperationsFit d.givens d.operations
