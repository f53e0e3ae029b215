-- A name that is read, or none: what `name_at` answers, as the machine takes it.
use mathlib.Core.Path.{◌≡◌, refl, subst}
use mathlib.Core.Bool.{Bool, true, false}
use mathlib.Core.List.{List, ◌∷◌}
use Prim.Native.Nat.{ℕ, ◌≤◌, ◌<◌}
use native.Mathlib.Omega.{arith}
use lib.ListN.{length, get_or}
use Rattle.lexical.specs.Kinds.{Kind, code_of, lookup}
use Rattle.lexical.specs.SymbolPromises.{is_name}
use Rattle.form.specs.Machine.{Item, a_name}
use Rattle.form.specs.Computed.{compute_form}
use Rattle.std.specs.Prelude.{Result, Ok, Err}
use Rattle.refusals.specs.declared.Fault.{Fault}
use Rattle.form_nodes.specs.FormPromises.{Reads, Named, names}
use Rattle.form_nodes.specs.Derivations.{NameAt, NameRead, name_there, name_missing, name_code}
use Rattle.form_nodes.proofs.Classes.{named, no-class, some-class}
use Rattle.form_nodes.proofs.ItemSteps.{name-step}
use Rattle.form_nodes.proofs.ReadParts.{stops}
use Rattle.form_nodes.proofs.RightSides.{inside}

-- the class of a symbol by whether a name stands there
pub name-class : {s : List ℕ} {i : ℕ} → NameAt s i → (κ : Kind) → code_of κ ≡ get_or s i 0 → lookup names 0 κ ≡ 0 → ⊥
name-class {s} {i} h κ e = on (is_name (get_or s i 0)) (named (get_or s i 0) refl)
  where
    on : (b : Bool) → Named (get_or s i 0) b → lookup names 0 κ ≡ 0 → ⊥
    on true n = some-class n.classes refl κ e
    on false n = absurd (n.none refl h.low h.high)

pub no-name-class : {s : List ℕ} {i : ℕ} → (NameAt s i → ⊥) → (κ : Kind) → code_of κ ≡ get_or s i 0 → lookup names 0 κ ≡ 0
no-name-class {s} {i} h κ e = on (is_name (get_or s i 0)) (named (get_or s i 0) refl)
  where
    on : (b : Bool) → Named (get_or s i 0) b → lookup names 0 κ ≡ 0
    on true n = let l = n.name refl in absurd (h (record { low = l.0; high = l.1 }))
    on false n = no-class n.classes refl κ e

pub name-inside : {s : List ℕ} {i : ℕ} → NameAt s i → i < length s
name-inside {s} {i} h = inside s i (omega (arith, h.low))

-- what a result that is known says
module _ {s ν : List ℕ} {i : ℕ} where
  pub name-read : {x : ℕ} {r : Result ℕ Fault} → r ≡ Ok x → NameRead s ν i r → NameAt s i × (x ≡ name_code s ν i)
  name-read q h = on (subst (λ (y : Result ℕ Fault). NameRead s ν i y) q h)
    where
      on : {x : ℕ} → NameRead s ν i (Ok x) → NameAt s i × (x ≡ name_code s ν i)
      on (name_there n e) = (n, e)

  pub name-unread : {f : Fault} {r : Result ℕ Fault} → r ≡ Err f → NameRead s ν i r → NameAt s i → ⊥
  name-unread q h = on (subst (λ (y : Result ℕ Fault). NameRead s ν i y) q h)
    where
      on : {f : Fault} → NameRead s ν i (Err f) → NameAt s i → ⊥
      on (name_missing n) = n

  -- where a name is expected and none stands
  pub unnamed : {n : ℕ} {ι ο : List Item} {f : Fault} {r : Result ℕ Fault} → r ≡ Err f → NameRead s ν i r → i ≤ length s → Reads s i n (a_name ∷ ι) ο (Err f)
  unfolding compute_form
  unnamed {n} {ι} {ο} q h l = on (subst (λ (y : Result ℕ Fault). NameRead s ν i y) q h)
    where
      on : {f : Fault} → NameRead s ν i (Err f) → Reads s i n (a_name ∷ ι) ο (Err f)
      on (name_missing m) = stops l (λ κ e γ. name-step κ _ (no-name-class m κ e)) (λ γ. refl)
