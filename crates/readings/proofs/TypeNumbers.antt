-- The numbers that the reader's table has of a declared type stand for its carrier.
use mathlib.Core.Path.{◌≡◌, refl, sym, ◌∙◌, subst, subst₂}
use mathlib.Core.List.{List}
use mathlib.Core.Option.{Option, none, some, none-ne-some, some-injective}
use Prim.Native.Nat.{ℕ, ◌*◌, ◌≤◌}
use native.Mathlib.Omega.{arith}
use lib.ListN.{get_or}
use Rattle.lexical.specs.Symbols.{Name}
use Rattle.form.specs.Tree.{Arrow, Range, Given, TypeForm, given_type, power_type, range_type, arrow_type}
use Rattle.static_rules.specs.Carriers.{Carrier, elements_of, subsets_of, pairs_in, range_carrier, size_of, count_of, given_of, carrier_of}
use Rattle.meaning.specs.Bindings.{Among}
use Rattle.slot_carriers.specs.TypeNodes.{Stands}
use Rattle.value_types.specs.TypedValues.{CarrierFits}
use Rattle.value_types.specs.FaultlessContexts.{TypeWithin}
use Rattle.read_predicates.specs.TablePlacesResolvedTable.{given_size}
use Rattle.read_predicates.specs.TablePlacesDossierTable.{type_table}
use Rattle.read_predicates.proofs.EvaluationRangesAgree.{low_end, range-count}
use Rattle.static_rules.proofs.FoundCarriers.{arrow-carrier, given-carrier, power-carrier}

-- the last, the second and the first number of the node
abbrev pub StandsFor : (piece : List ℕ) → Carrier → Type 0
StandsFor piece c = Stands (get_or piece 3 0) (get_or piece 1 0) (get_or piece 0 0) c

pub size-known : (gs : List Given) (x : Name) (g : Given) → given_of gs x ≡ some g → given_size gs x ≡ size_of g
unfolding given_size
size-known gs x g e = rw (given_size, e)

given-none : (gs : List Given) (x : Name) → given_of gs x ≡ none → carrier_of gs (given_type x) ≡ none
unfolding carrier_of
given-none gs x e = rw (carrier_of, e)

power-none : (gs : List Given) (x : Name) → given_of gs x ≡ none → carrier_of gs (power_type x) ≡ none
unfolding carrier_of
power-none gs x e = rw (carrier_of, e)

range-some : (gs : List Given) (r : Range) (c : Carrier) → carrier_of gs (range_type r) ≡ some c → some (range_carrier r) ≡ some c
unfolding carrier_of
range-some gs r c e = e

arrow-none : (gs : List Given) (a : Arrow) (x y : Name) → given_of gs x ≡ none → carrier_of gs (arrow_type a x y) ≡ none
unfolding carrier_of
arrow-none gs a x y e = rw (carrier_of, e)

arrow_half : (gs : List Given) (a : Arrow) (x y : Name) (g : Given) → given_of gs x ≡ some g → given_of gs y ≡ none → carrier_of gs (arrow_type a x y) ≡ none
unfolding carrier_of
arrow_half gs a x y g e f = rw (carrier_of, e, f)

-- what holds of each type whose given sets are found, and of its carrier, holds of each type that has a carrier
pub by-carrier : (gs : List Given) (Q : TypeForm → Carrier → Type 0) → ((x : Name) (g : Given) → given_of gs x ≡ some g → Q (given_type x) (elements_of g))
    → ((x : Name) (g : Given) → given_of gs x ≡ some g → Q (power_type x) (subsets_of g)) → ((r : Range) → Q (range_type r) (range_carrier r))
    → ((a : Arrow) (x y : Name) (g h : Given) → given_of gs x ≡ some g → given_of gs y ≡ some h → Q (arrow_type a x y) (pairs_in a g h))
    → (t : TypeForm) (c : Carrier) → carrier_of gs t ≡ some c → Q t c
by-carrier gs Q given power ranged arrow (given_type x) c e = go (given_of gs x) refl
  where
    go : (o : Option Given) → given_of gs x ≡ o → Q (given_type x) c
    go none k = absurd (none-ne-some c (sym (given-none gs x k) ∙ e))
    go (some g) k = subst (Q (given_type x)) (some-injective (elements_of g) c (sym (given-carrier gs x g k) ∙ e)) (given x g k)
by-carrier gs Q given power ranged arrow (power_type x) c e = go (given_of gs x) refl
  where
    go : (o : Option Given) → given_of gs x ≡ o → Q (power_type x) c
    go none k = absurd (none-ne-some c (sym (power-none gs x k) ∙ e))
    go (some g) k = subst (Q (power_type x)) (some-injective (subsets_of g) c (sym (power-carrier gs x g k) ∙ e)) (power x g k)
by-carrier gs Q given power ranged arrow (range_type r) c e = subst (Q (range_type r)) (some-injective (range_carrier r) c (range-some gs r c e)) (ranged r)
by-carrier gs Q given power ranged arrow (arrow_type a x y) c e = go (given_of gs x) refl (given_of gs y) refl
  where
    go : (o : Option Given) → given_of gs x ≡ o → (p : Option Given) → given_of gs y ≡ p → Q (arrow_type a x y) c
    go none k p l = absurd (none-ne-some c (sym (arrow-none gs a x y k) ∙ e))
    go (some g) k none l = absurd (none-ne-some c (sym (arrow_half gs a x y g k l) ∙ e))
    go (some g) k (some h) l = subst (Q (arrow_type a x y)) (some-injective (pairs_in a g h) c (sym (arrow-carrier gs a x y g h k l) ∙ e)) (arrow a x y g h k l)

module _ (gs : List Given) (few : (g : Given) → Among g gs → size_of g ≤ 8) where
  -- a type whose carrier is known
  elements-stand : (x : Name) (g : Given) → given_size gs x ≡ size_of g → CarrierFits gs (elements_of g) → StandsFor (type_table (given_type x) gs) (elements_of g)
  unfolding type_table CarrierFits Stands
  elements-stand x g e m = let l = few g m in (refl, e, omega arith)

  subsets-stand : (x : Name) (g : Given) → given_size gs x ≡ size_of g → CarrierFits gs (subsets_of g) → StandsFor (type_table (power_type x) gs) (subsets_of g)
  unfolding type_table CarrierFits Stands
  subsets-stand x g e m = let l = few g m in (refl, e, omega arith)

  range-stands : (r : Range) → CarrierFits gs (range_carrier r) → TypeWithin (range_type r) → StandsFor (type_table (range_type r) gs) (range_carrier r)
  unfolding type_table CarrierFits Stands count_of
  range-stands r h w = (refl, low_end r.lower w.0, range-count r w h.2)

  pairs-stand : (a : Arrow) (x y : Name) (g h : Given) → given_size gs x ≡ size_of g → given_size gs y ≡ size_of h → CarrierFits gs (pairs_in a g h)
      → StandsFor (type_table (arrow_type a x y) gs) (pairs_in a g h)
  unfolding type_table CarrierFits Stands
  pairs-stand a x y g h e f k = (refl, e, f, subst₂ (λ (n m : ℕ). n * m ≤ 16) (sym e) (sym f) k.2)

  pub type-stands : (t : TypeForm) (c : Carrier) → carrier_of gs t ≡ some c → CarrierFits gs c → TypeWithin t → StandsFor (type_table t gs) c
  type-stands =
      by-carrier gs (λ (t : TypeForm) (c : Carrier). CarrierFits gs c → TypeWithin t → StandsFor (type_table t gs) c) (λ x g k h w. elements-stand x g (size-known gs x g k) h)
      (λ x g k h w. subsets-stand x g (size-known gs x g k) h) (λ r h w. range-stands r h w)
      (λ a x y g f k l h w. pairs-stand a x y g f (size-known gs x g k) (size-known gs y f l) h)
