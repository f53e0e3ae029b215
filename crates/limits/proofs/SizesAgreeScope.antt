-- The sizes of names: the size that a table of sizes shows for each name, and what a binder makes of both.
use mathlib.Core.Path.{◌≡◌, refl, ap, ap₂, ◌∙◌, sym}
use mathlib.Core.Bool.{Bool, true, false, cond}
use mathlib.Core.List.{◌∷◌}
use mathlib.Core.Option.{Option, none, some}
use Prim.Native.Nat.{ℕ, zero, suc, ◌+◌, ◌-◌, ◌≤◌, max}
use native.Mathlib.Omega.{arith}
use lib.IntN.{nat_abs}
use lib.ListN.{length, set, length-set}
use lib.Seq.{get_or-set_other}
use borrow.Author.Tests.{lt-ltb, le-ltb}
use Rattle.lexical.specs.Lists.{find}
use Rattle.lexical.specs.Symbols.{Name, no_ending}
use Rattle.lexical.proofs.WordLaws.{same_refl}
use Rattle.form.specs.Tree.{Letters, Domain, given_set, range}
use Rattle.form.specs.Codes.{Numbering, number_of_name, name_number}
use Rattle.static_rules.specs.Carriers.{largest, same_name, plain, signed}
use Rattle.static_rules.specs.Limits.{Sizes, domain_size}
use Rattle.type_rules.specs.TypesByNumber.{entry}
use Rattle.names.proofs.ReachTables.{Numbered, DomainIn}
use Rattle.names.proofs.TypesAgreeScope.{find-here, find-there, each-name, written-entry}
use Rattle.term_sizes.specs.SizesByNumber.{Bounds, absolute, domain_bound}

-- the size of a name that was looked up; nameSize of static_rules/specs/Limits, which is private there
abbrev pub size_found : Option (Name × ℕ) → ℕ
size_found none = 0
size_found (some x) = x.1

abbrev pub size_of_name : Sizes → Name → ℕ
size_of_name Γ x = size_found (find (λ (y : Name × ℕ). same_name y.0 x) Γ)

-- the table of sizes shows the names in reach
pub record SizesShown (ρ : Numbering) (P : Letters → Type 0) (Γ : Sizes) (S : Bounds) : Type 0 where
  pub long : 16384 ≤ length S
  pub sizes : (x : Name) → P x.letters → entry S (name_number ρ x) ≡ size_of_name Γ x

-- ---- binders ----

module _ (ρ : Numbering) (P : Letters → Type 0) (ν : Numbered ρ P) (Γ : Sizes) (S : Bounds) (s : SizesShown ρ P Γ S) (x : Letters) (px : P x) (n : ℕ) where
  size-here : (y : Name) → same_name (plain x) y ≡ true → size_of_name ((plain x, n) ∷ Γ) y ≡ n
  size-here y e = ap size_found (find-here (λ (z : Name × ℕ). same_name z.0 y) (plain x, n) Γ e)

  size-there : (y : Name) → same_name (plain x) y ≡ false → size_of_name ((plain x, n) ∷ Γ) y ≡ size_of_name Γ y
  size-there y e = ap size_found (find-there (λ (z : Name × ℕ). same_name z.0 y) (plain x, n) Γ e)

  other-size : (y : Name) → P y.letters → same_name (plain x) y ≡ false → (name_number ρ y ≡ number_of_name ρ x no_ending → ⊥)
      → entry (set S (number_of_name ρ x no_ending) n) (name_number ρ y) ≡ size_of_name ((plain x, n) ∷ Γ) y
  other-size y py e h = get_or-set_other S _ _ n 0 h ∙ s.sizes y py ∙ sym (size-there y e)

  this-size : entry (set S (number_of_name ρ x no_ending) n) (number_of_name ρ x no_ending) ≡ size_of_name ((plain x, n) ∷ Γ) (plain x)
  unfolding same_name
  this-size = written-entry ρ P ν x px S n s.long ∙ sym (size-here (plain x) (same_refl x))

  bound-size : (y : Name) → P y.letters → entry (set S (number_of_name ρ x no_ending) n) (name_number ρ y) ≡ size_of_name ((plain x, n) ∷ Γ) y
  bound-size =
      each-name ρ P ν x px (λ (y : Name). entry (set S (number_of_name ρ x no_ending) n) (name_number ρ y) ≡ size_of_name ((plain x, n) ∷ Γ) y) this-size other-size

  -- the names in reach inside a binder are shown by the table with the bound name's size in it
  pub bound-shown : SizesShown ρ P ((plain x, n) ∷ Γ) (set S (number_of_name ρ x no_ending) n)
  bound-shown = record { long = omega (arith, length-set S (number_of_name ρ x no_ending) n, s.long); sizes = bound-size }

-- ---- what a name is bound over ----

absolute-end : (b : Bool) (m : ℕ) → m ≤ 1000 → absolute (cond b (1000 - m) (1000 + m)) ≡ nat_abs (signed b m)
unfolding absolute
absolute-end true zero h = refl
absolute-end true (suc m) h = rw (lt-ltb (1000 - suc m) 1000 (omega arith)) (omega arith)
absolute-end false m h = rw (le-ltb (1000 + m) 1000 (omega arith)) (omega arith)

pub domain-bound : (P : Letters → Type 0) (d : Domain) → DomainIn P d → domain_bound d ≡ domain_size d
unfolding domain_bound largest
domain-bound P (given_set g) h = refl
domain-bound P (range r) h =
    ap₂ max (absolute-end r.lower.negative r.lower.magnitude h.0) (absolute-end r.upper.negative r.upper.magnitude h.1)
