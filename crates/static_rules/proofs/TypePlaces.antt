-- The type of a term does not depend on the symbol that it begins at.
use mathlib.Core.Path.{◌≡◌, refl, ap, ap₂}
use mathlib.Core.List.{List, [], ◌∷◌}
use mathlib.Core.Option.{Option, none, some}
use Prim.Native.Nat.{ℕ, suc}
use Rattle.form.specs.Tree.{Term, number, name, group, prefix, binary, divided, listed, pairs, such, empty_set, empty_pairs, Items, only, also, Pairs, only_pair, also_pair}
use Rattle.static_rules.specs.Types.{Ty, prefix_type, brace_type, pairs_type}
use Rattle.static_rules.specs.Scope.{Scope, type_of_name}
use Rattle.static_rules.specs.Names.{of_name, judge_term, judge_items, judge_pairs}

name-type : (o : Option Ty) (i j : ℕ) → (of_name o i).type ≡ (of_name o j).type
name-type none i j = refl
name-type (some t) i j = refl

mutual
  unfolding judge_term

  pub type-placed : (t : Term) (Γ : Scope) (i j : ℕ) → (judge_term t Γ i).type ≡ (judge_term t Γ j).type
  type-placed (number n) Γ i j = refl
  type-placed (name x) Γ i j = name-type (type_of_name Γ x) i j
  type-placed (group t) Γ i j = type-placed t Γ (suc i) (suc j)
  type-placed (prefix o t) Γ i j = ap (prefix_type o) (type-placed t Γ (suc i) (suc j))
  type-placed (binary o t u) Γ i j = type-placed t Γ i j
  type-placed (divided o t e) Γ i j = refl
  type-placed (listed ts) Γ i j = ap brace_type (items-placed ts Γ (suc i) (suc j))
  type-placed (pairs ts) Γ i j = ap pairs_type (pairs-placed ts Γ (suc i) (suc j))
  type-placed (such x g p) Γ i j = refl
  type-placed (empty_set g) Γ i j = refl
  type-placed (empty_pairs g h) Γ i j = refl

  items-placed : (ts : Items) (Γ : Scope) (i j : ℕ) → (judge_items ts Γ i).types ≡ (judge_items ts Γ j).types
  items-placed (only t) Γ i j = ap (λ (a : Ty). a ∷ []) (type-placed t Γ i j)
  items-placed (also t ts) Γ i j =
      ap₂ (λ (a : Ty) (l : List Ty). a ∷ l) (type-placed t Γ i j) (items-placed ts Γ (suc (judge_term t Γ i).next) (suc (judge_term t Γ j).next))

  pairs-placed : (ts : Pairs) (Γ : Scope) (i j : ℕ) → (judge_pairs ts Γ i).types ≡ (judge_pairs ts Γ j).types
  pairs-placed (only_pair t u) Γ i j =
      ap₂ (λ (a b : Ty). (a, b) ∷ []) (type-placed t Γ i j) (type-placed u Γ (suc (judge_term t Γ i).next) (suc (judge_term t Γ j).next))
  pairs-placed (also_pair t u ts) Γ i j =
      let k = suc (judge_term t Γ i).next in
      let l = suc (judge_term t Γ j).next in
      ap₂ (λ (a : Ty × Ty) (l : List (Ty × Ty)). a ∷ l) (ap₂ (λ (a b : Ty). (a, b)) (type-placed t Γ i j) (type-placed u Γ k l))
      (pairs-placed ts Γ (suc (judge_term u Γ k).next) (suc (judge_term u Γ l).next))
