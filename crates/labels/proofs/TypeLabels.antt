-- The numbers that the reader's table has of a declared type are the label of its carrier: the given set that a name finds is the one at the name's place.
use mathlib.Core.Path.{◌≡◌, refl, subst}
use mathlib.Core.Bool.{Bool, true, false}
use mathlib.Core.List.{List, [], ◌∷◌}
use mathlib.Core.Option.{Option, some, none-ne-some}
use Prim.Native.Nat.{ℕ, suc, ◌+◌, ◌*◌, ◌/◌, ◌%◌, ◌≤◌}
use native.Mathlib.Omega.{arith}
use lib.ListN.{length, get_or, get_elem?}
use Rattle.lexical.specs.Lists.{find}
use Rattle.lexical.specs.Symbols.{Name}
use Rattle.form.specs.Tree.{Arrow, relation, partial, total, Given, TypeForm, given_type, power_type, arrow_type}
use Rattle.form.specs.Codes.{arrow_number}
use Rattle.static_rules.specs.Carriers.{Carrier, elements_of, subsets_of, pairs_in, same_name, plain, given_of, carrier_of}
use Rattle.static_rules.specs.Scope.{place_in}
use Rattle.meaning.proofs.Places.{entry-below}
use Rattle.readings.specs.TablePlacesDossierTable.{given_place, type_table}
use Rattle.readings.proofs.TypeNumbers.{size-known, by-carrier}
use Rattle.labels.specs.Labels.{Typed}

-- the given set of a name stands at its place
place-given : (gs : List Given) (x : Name) (g : Given) → given_of gs x ≡ some g → get_elem? gs (given_place gs x) ≡ some g
unfolding given_of find place_in
place-given [] x g e = absurd (none-ne-some g e)
place-given (h ∷ gs) x g e = on (same_name (plain h.title) x) (place-given gs x g) e
  where
    on : (b : Bool) → (given_of gs x ≡ some g → get_elem? gs (given_place gs x) ≡ some g) → ◌≡◌ {A = Option Given} (elim b [ true ↦ some h | false ↦ given_of gs x ]) (some g)
        → get_elem? (h ∷ gs) (elim b as (λ (c : Bool). ℕ) [ true ↦ 0 | false ↦ suc (given_place gs x) ]) ≡ some g
    on true r k = k
    on false r k = r k

arrow-shape : (a : Arrow) → 4 ≤ arrow_number a
arrow-shape relation = omega arith
arrow-shape partial = omega arith
arrow-shape total = omega arith

-- the last, the third and the first number of the node
abbrev pub TypedBy : List Given → (piece : List ℕ) → Carrier → Type 0
TypedBy gs piece c = Typed gs (get_or piece 3 0) (get_or piece 2 0) (get_or piece 0 0) c

module _ (gs : List Given) (few : length gs ≤ 8) where
  elements-typed : (x : Name) (g : Given) → given_of gs x ≡ some g → TypedBy gs (type_table (given_type x) gs) (elements_of g)
  unfolding type_table Typed
  elements-typed x g e = (refl, place-given gs x g e)

  subsets-typed : (x : Name) (g : Given) → given_of gs x ≡ some g → TypedBy gs (type_table (power_type x) gs) (subsets_of g)
  unfolding type_table Typed
  subsets-typed x g e = (refl, place-given gs x g e)

  pairs-typed : (a : Arrow) (x y : Name) (g h : Given) → given_of gs x ≡ some g → given_of gs y ≡ some h → TypedBy gs (type_table (arrow_type a x y) gs) (pairs_in a g h)
  unfolding type_table Typed
  pairs-typed a x y g h e f =
      let p : ℕ = given_place gs x in
      let q : ℕ = given_place gs y in
      let l = entry-below h gs q (place-given gs y h f) in
      let u : p ≡ (8 * p + q) / 8 = omega arith in
      let v : q ≡ (8 * p + q) % 8 = omega arith in (
        arrow-shape a,
        subst (λ (n : ℕ). get_elem? gs n ≡ some g) u (place-given gs x g e),
        subst (λ (n : ℕ). get_elem? gs n ≡ some h) v (place-given gs y h f),
        size-known gs y h f,
      )

  pub type-typed : (t : TypeForm) (c : Carrier) → carrier_of gs t ≡ some c → TypedBy gs (type_table t gs) c
  unfolding type_table Typed
  type-typed =
      by-carrier gs (λ (t : TypeForm) (c : Carrier). TypedBy gs (type_table t gs) c) elements-typed subsets-typed (λ r. refl) pairs-typed
