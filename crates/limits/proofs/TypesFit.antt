-- A dossier without faults of the pass over names has no declared type at fault.
use mathlib.Core.Path.{◌≡◌}
use mathlib.Core.Bool.{not}
use mathlib.Core.List.{List, [], ◌∷◌, ◌++◌, map}
use Prim.Native.Nat.{ℕ, suc, ◌+◌}
use lib.ListN.{length}
use Rattle.lexical.specs.Lists.{any}
use Rattle.refusals.specs.Refusals.{Fault, fault, name_in_use, unless}
use Rattle.form.specs.Tree.{Letters, Given, Declaration, declarations, Parameter, Operation, Dossier}
use Rattle.form.specs.Written.{write_type}
use Rattle.form.specs.Headings.{givens_at, abstract_at, concrete_at, operations_at, operation_length}
use Rattle.static_rules.specs.Carriers.{same_name}
use Rattle.static_rules.specs.Scope.{given_names, abstract_taken, concrete_taken}
use Rattle.static_rules.specs.Names.{new_name, type_faults, declaration_faults, given_faults, parameter_name, parameter_faults, operation_faults, name_faults}
use Rattle.static_rules.proofs.Faultless.{faultless}
use Rattle.binding_counts.specs.DeclaredTypesFit.{TypesFit, no_types, one_type, OperationsFit, no_operations, one_operation, DeclaredFit}
use Rattle.refusals.proofs.FaultLists.{append_nil-both}

declared-types : (gs : List Given) (xs : List Letters) (i : ℕ) (ds : List Declaration) → declaration_faults gs xs i ds ≡ [] → TypesFit gs ds
unfolding declaration_faults
declared-types gs xs i [] e = no_types
declared-types gs xs i (d ∷ ds) e =
    let a = append_nil-both (new_name xs d.declared i ++ type_faults gs d.type (i + 2)) (declaration_faults gs (d.declared ∷ xs) (i + 3 + length (write_type d.type [])) ds) e in
    let b = append_nil-both (new_name xs d.declared i) (type_faults gs d.type (i + 2)) a.0 in
    one_type (i + 2) b.1 (declared-types gs (d.declared ∷ xs) (i + 3 + length (write_type d.type [])) ds a.1)

-- a parameter's name that is in use
abbrev name_fault : List Parameter → Parameter → ℕ → List Fault
name_fault xs y i = unless (not (any (λ (x : Parameter). same_name (parameter_name x) (parameter_name y)) xs)) (fault i name_in_use)

parameter-types : (gs : List Given) (xs : List Parameter) (i : ℕ) (ys : List Parameter) → parameter_faults gs xs i ys ≡ [] → TypesFit gs (map (λ (x : Parameter). x.declaration) ys)
unfolding parameter_faults
parameter-types gs xs i [] e = no_types
parameter-types gs xs i (y ∷ ys) e =
    let a = append_nil-both (name_fault xs y i ++ type_faults gs y.declaration.type (i + 2)) (parameter_faults gs (y ∷ xs) (i + 3 + length (write_type y.declaration.type [])) ys) e in
    let b = append_nil-both (name_fault xs y i) (type_faults gs y.declaration.type (i + 2)) a.0 in
    one_type (i + 2) b.1 (parameter-types gs (y ∷ xs) (i + 3 + length (write_type y.declaration.type [])) ys a.1)

operation-types : (gs : List Given) (xs : List Letters) (i : ℕ) (os : List Operation) → operation_faults gs xs i os ≡ [] → OperationsFit gs os
unfolding operation_faults
operation-types gs xs i [] e = no_operations
operation-types gs xs i (o ∷ os) e =
    let a = append_nil-both (new_name xs o.title (suc i) ++ parameter_faults gs [] (i + 2) o.parameters) (operation_faults gs (o.title ∷ xs) (i + operation_length o) os) e in
    let b = append_nil-both (new_name xs o.title (suc i)) (parameter_faults gs [] (i + 2) o.parameters) a.0 in
    one_operation (parameter-types gs [] (i + 2) o.parameters b.1) (operation-types gs (o.title ∷ xs) (i + operation_length o) os a.1)

pub declared-fit : (d : Dossier) → name_faults d ≡ [] → DeclaredFit d
declared-fit d e =
    let p = faultless d e in
    record {
      abstracts = declared-types d.givens (given_names d.givens) (suc (abstract_at d)) (declarations d.abstract) p.abstract_new;
      concretes = declared-types d.givens (abstract_taken d) (suc (concrete_at d)) (declarations d.concrete) p.concrete_new;
      parameters = operation-types d.givens (concrete_taken d) (operations_at d) d.operations p.operations_new;
    }

-- nor a given set
pub givens-fit : (d : Dossier) → name_faults d ≡ [] → given_faults [] (givens_at d) d.givens ≡ []
givens-fit d e = (faultless d e).givens_new
