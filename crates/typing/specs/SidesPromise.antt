-- What a walk over two terms promises, one behind the other. Nothing here need be believed.
use Rattle.std.specs.Prelude.{◌≡◌, List, ◌++◌, ℕ, ◌≤◌, length, take}
use Rattle.form.specs.Tree.{Term}
use Rattle.form.specs.Codes.{Numbering, term_codes}
use Rattle.type_rules.specs.TypesByNumber.{Names, Sizes, fault_key, lesser, term_kind, term_key}
use Rattle.typing.specs.declared.types.Sides.{Sides}

-- what was seen: the types k and l, the lesser fault f, where the nodes of the first begin
pub record SawSides (r : Sides) (k l f s : ℕ) : Type 0 where
  pub first_is : r.first ≡ k
  pub second_is : r.second ≡ l
  pub fault_is : fault_key r.fault ≡ f
  pub start_is : r.start ≡ s

pub record SidesSeen (code : List ℕ) (e : ℕ) (T U : Names) (z : Sizes) (r : Sides) : Type 0 where
  pub falls : r.start ≤ e
  pub kept : U ≡ T
  pub right : (t u : Term) (i j : ℕ) (ρ : Numbering) (base : List ℕ) → take e code ≡ (base ++ term_codes t i ρ) ++ term_codes u j ρ
      → SawSides r (term_kind t T ρ) (term_kind u T ρ) (lesser (term_key t T ρ z i) (term_key u T ρ z j)) (length base)
