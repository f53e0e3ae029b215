-- A whole without faults: its parts have none, and it fits. A given set that is known. A dossier without faults of names: its parts have none.
use mathlib.Core.Path.{◌≡◌, refl}
use mathlib.Core.Bool.{Bool, true}
use mathlib.Core.List.{List, [], ◌∷◌, ◌++◌, map}
use mathlib.Core.Option.{Option, none, some}
use Prim.Native.Nat.{ℕ, suc}
use Rattle.form.specs.LexicalLists.{concat}
use Rattle.form.specs.LexicalRefusals.{Fault}
use Rattle.form.proofs.RefusalsFaultLists.{append_nil-both, not_nil, unless-nil}
use Rattle.form.specs.Tree.{Given, declarations, Dossier}
use Rattle.form.specs.Headings.{givens_at, abstract_at, concrete_at, operations_at}
use Rattle.static_rules.specs.Scope.{given_names, abstract_taken, concrete_taken, contexts}
use Rattle.static_rules.specs.Names.{whole, inside, known, declaration_faults, given_faults, operation_faults, context_faults, name_faults}

pub whole-nil : (fits : Bool) (f : Fault) (parts : List Fault) → whole fits f parts ≡ [] → (parts ≡ []) × (fits ≡ true)
unfolding whole
whole-nil fits f [] e = (refl, unless-nil fits f e)
whole-nil fits f (x ∷ parts) e = not_nil x parts e

pub inside-nil : (binder body : List Fault) → inside binder body ≡ [] → (binder ≡ []) × (body ≡ [])
unfolding inside
inside-nil [] body e = (refl, e)
inside-nil (x ∷ binder) body e = not_nil x binder e

pub given-known : (o : Option Given) (i : ℕ) → known o i ≡ [] → (g : Given) × (o ≡ some g)
given-known none i e = not_nil _ _ e
given-known (some g) i e = (g, refl)

pub record Faultless (d : Dossier) : Type 0 where
  pub givens_new : given_faults [] (givens_at d) d.givens ≡ []
  pub abstract_new : declaration_faults d.givens (given_names d.givens) (suc (abstract_at d)) (declarations d.abstract) ≡ []
  pub concrete_new : declaration_faults d.givens (abstract_taken d) (suc (concrete_at d)) (declarations d.concrete) ≡ []
  pub operations_new : operation_faults d.givens (concrete_taken d) (operations_at d) d.operations ≡ []
  pub contexts_clear : concat (map context_faults (contexts d)) ≡ []

pub faultless : (d : Dossier) → name_faults d ≡ [] → Faultless d
unfolding name_faults
faultless d e =
    let g : List Fault = given_faults [] (givens_at d) d.givens in
    let a : List Fault = declaration_faults d.givens (given_names d.givens) (suc (abstract_at d)) (declarations d.abstract) in
    let c : List Fault = declaration_faults d.givens (abstract_taken d) (suc (concrete_at d)) (declarations d.concrete) in
    let o : List Fault = operation_faults d.givens (concrete_taken d) (operations_at d) d.operations in
    let s = append_nil-both (g ++ a ++ c ++ o) (concat (map context_faults (contexts d))) e in
    let r = append_nil-both (g ++ a ++ c) o s.0 in
    let q = append_nil-both (g ++ a) c r.0 in
    let p = append_nil-both g a q.0 in
    record { givens_new = p.0; abstract_new = p.1; concrete_new = q.1; operations_new = r.1; contexts_clear = s.1 }
