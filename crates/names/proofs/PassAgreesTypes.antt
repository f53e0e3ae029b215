-- Declared types by the table of names: the number of a type is that of its carrier's type, and its key that of its least fault.
use mathlib.Core.Path.{◌≡◌, refl, ap, ◌∙◌, sym, subst}
use mathlib.Core.Bool.{Bool}
use mathlib.Core.List.{List, [], ◌++◌, map}
use mathlib.Core.Option.{Option, none, some}
use Prim.Native.Nat.{ℕ, suc, ◌+◌, ◌≤◌, ◌<◌}
use native.Mathlib.Omega.{arith}
use lib.ListN.{length, get_or}
use Rattle.lexical.specs.Symbols.{Name}
use Rattle.form.specs.Tree.{Letters, Given, TypeForm, given_type, power_type, range_type, arrow_type}
use Rattle.form.specs.Written.{write_type}
use Rattle.form.specs.Codes.{Numbering, name_number, type_width}
use Rattle.form.proofs.Lengths.{range_length}
use Rattle.declared_names.specs.StaticRulesCarriers.{Carrier, elements_of, subsets_of, pairs_in, range_carrier, size_of, given_of, carrier_of}
use Rattle.declared_names.specs.StaticRulesTypes.{Ty, type_of}
use Rattle.declared_names.specs.StaticRulesNames.{known, pairs_fault, type_faults}
use Rattle.type_rules.specs.TypesByNumber.{Names, Sizes, entry, key, unless_key, is_given, size_in, over_key, domain_key, least_key}
use Rattle.declared_names.specs.NamesByNumber.{type_kind, type_key}
use Rattle.names.proofs.ReachTables.{index_of, known_number, GivenIs, TypeIs, RangeIn}
use Rattle.names.proofs.TypesAgreeLeast.{lesser-assoc, two-parts}
use Rattle.names.proofs.TypesAgreeRanges.{range-least}
use Rattle.names.proofs.TypesAgreeTypes.{index_in}
use Rattle.names.proofs.TypesAgreeScope.{found}
use Rattle.names.proofs.TypesAgreeBinders.{View, no_given, one_given, known-least, over-least, element-type-is}
use Rattle.names.proofs.TypesAgreeParts.{set-over, pairs-over}
use Rattle.names.proofs.PassAgreesPlaces.{Within, within-append, within-known, within-range, within-pairs}
use Rattle.names.proofs.PassAgreesTables.{Sees}
use Rattle.refusals.proofs.FaultLists.{append_nil-both}
use Rattle.declared_names.proofs.StaticRulesFaultless.{given-known}
use Rattle.declared_names.proofs.StaticRulesFoundCarriers.{arrow-carrier, given-carrier, power-carrier}

-- all letters of a declared type are the text's
abbrev pub TypeIn : (Letters → Type 0) → TypeForm → Type 0
TypeIn P (given_type g) = P g.letters
TypeIn P (power_type g) = P g.letters
TypeIn P (range_type r) = RangeIn r
TypeIn P (arrow_type a g h) = P g.letters × P h.letters

-- ---- places ----

pub type-within : (gs : List Given) (t : TypeForm) (i : ℕ) → Within i (i + type_width t) (type_faults gs t i)
unfolding write_type type_width type_faults
type-within gs (given_type g) i = within-known (given_of gs g) i (omega arith) (omega arith)
type-within gs (power_type g) i = within-known (given_of gs g) (suc i) (omega arith) (omega arith)
type-within gs (range_type r) i = within-range r i (omega arith) (omega (arith, range_length r []))
type-within gs (arrow_type a g h) i =
    within-append (within-append (within-known (given_of gs g) i (omega arith) (omega arith)) (within-known (given_of gs h) (i + 2) (omega arith) (omega arith)))
    (within-pairs (given_of gs g) (given_of gs h) (suc i) (omega arith) (omega arith))

-- ---- carriers ----

module _ (gs : List Given) where
  -- a declared type without faults has a carrier
  pub record Carries (t : TypeForm) : Type 0 where
    pub carrier : Carrier
    pub carries : carrier_of gs t ≡ some carrier

  pub type-carries : (t : TypeForm) (i : ℕ) → type_faults gs t i ≡ [] → Carries t
  unfolding type_faults carrier_of
  type-carries (given_type g) i e = let x = given-known (given_of gs g) i e in record { carrier = elements_of x.0; carries = given-carrier gs g x.0 x.1 }
  type-carries (power_type g) i e = let x = given-known (given_of gs g) (suc i) e in record { carrier = subsets_of x.0; carries = power-carrier gs g x.0 x.1 }
  type-carries (range_type r) i e = record { carrier = range_carrier r; carries = refl }
  type-carries (arrow_type a g h) i e =
      let l = append_nil-both (known (given_of gs g) i ++ known (given_of gs h) (i + 2)) (pairs_fault (given_of gs g) (given_of gs h) (suc i)) e in
      let m = append_nil-both (known (given_of gs g) i) (known (given_of gs h) (i + 2)) l.0 in
      let x = given-known (given_of gs g) i m.0 in
      let y = given-known (given_of gs h) (i + 2) m.1 in
      record { carrier = pairs_in a x.0 y.0; carries = arrow-carrier gs a g h x.0 y.0 x.1 y.1 }

-- ---- by the table ----

-- the sizes of the given sets, of which there are at most 8
pub record Sized (gs : List Given) (z : Sizes) : Type 0 where
  pub few : length gs ≤ 8
  pub sizes : (k : ℕ) → k < length gs → get_or z k 0 ≡ get_or (map size_of gs) k 0

module _ (ρ : Numbering) (P : Letters → Type 0) (gs : List Given) (z : Sizes) (d : Sized gs z) (T : Names) (u : Name → Bool) (r : Name → Option Ty) (s : Sees ρ P gs T u r) where
  given-view : (x : Name) (g : Given) → given_of gs x ≡ some g → P x.letters → View gs z g.title (some g) (entry T (name_number ρ x))
  unfolding size_in
  given-view x g e px =
      let f = found gs x g e in
      let i = index_in gs g.title f.listed in
      let few = d.few in
      one_given g refl f.listed (omega arith) (d.sizes (index_of gs g.title) i ∙ f.sized)
      (subst (λ (o : Option Given). GivenIs gs o (entry T (name_number ρ x))) e (s.givens x px))

  a-view : (x : Name) → P x.letters → (l : Letters) × View gs z l (given_of gs x) (entry T (name_number ρ x))
  a-view x px = on (given_of gs x) refl (s.givens x px)
    where
      on : (o : Option Given) → given_of gs x ≡ o → GivenIs gs o (entry T (name_number ρ x)) → (l : Letters) × View gs z l o (entry T (name_number ρ x))
      on none e h = ([], no_given h)
      on (some g) e h = (g.title, given-view x g e px)

  pub type-least : (t : TypeForm) → TypeIn P t → (i : ℕ) → type_key t T ρ z i ≡ least_key (type_faults gs t i)
  unfolding type_key type_faults domain_key
  type-least (given_type g) h i = known-least gs z i (a-view g h).1
  type-least (power_type g) h i =
      let e : i + 1 ≡ suc i = omega arith in
      ap (λ (j : ℕ). unless_key (is_given (entry T (name_number ρ g))) (key j 9)) e ∙ known-least gs z (suc i) (a-view g h).1
  type-least (range_type q) h i = range-least q i h
  type-least (arrow_type a g h) p i =
      let e : i + 1 ≡ suc i = omega arith in
      let v = (a-view g p.0).1 in
      let w = (a-view h p.1).1 in
      sym (lesser-assoc (unless_key (is_given (entry T (name_number ρ g))) (key i 9)) (unless_key (is_given (entry T (name_number ρ h))) (key (i + 2) 9))
      (over_key z (entry T (name_number ρ g)) (entry T (name_number ρ h)) (i + 1)))
      ∙ two-parts (known (given_of gs g) i ++ known (given_of gs h) (i + 2)) (pairs_fault (given_of gs g) (given_of gs h) (suc i))
      (two-parts (known (given_of gs g) i) (known (given_of gs h) (i + 2)) (known-least gs z i v) (known-least gs z (i + 2) w))
      (ap (over_key z (entry T (name_number ρ g)) (entry T (name_number ρ h))) e ∙ over-least gs z (suc i) v w)

  kind-of : (t : TypeForm) (c c' : Carrier) (k : ℕ) → carrier_of gs t ≡ some c → carrier_of gs t ≡ some c' → TypeIs gs (some (type_of c)) k → TypeIs gs (some (type_of c')) k
  kind-of t c c' k e f h = let q : c ≡ c' = cc in subst (λ (x : Carrier). TypeIs gs (some (type_of x)) k) q h

  -- the number of a declared type, whose given sets there are
  pub type-kind : (t : TypeForm) → TypeIn P t → (i : ℕ) → type_faults gs t i ≡ [] → (c : Carrier) → carrier_of gs t ≡ some c → TypeIs gs (some (type_of c)) (type_kind t T ρ)
  unfolding type_kind type_faults carrier_of
  type-kind (given_type g) p i e c f =
      let x = given-known (given_of gs g) i e in
      kind-of (given_type g) (elements_of x.0) c _ (given-carrier gs g x.0 x.1) f (element-type-is gs z i (given-view g x.0 x.1 p) refl)
  type-kind (power_type g) p i e c f =
      let x = given-known (given_of gs g) (suc i) e in
      kind-of (power_type g) (subsets_of x.0) c _ (power-carrier gs g x.0 x.1) f (set-over gs z d.few i (given-view g x.0 x.1 p) refl)
  type-kind (range_type q) p i e c f = kind-of (range_type q) (range_carrier q) c _ refl f (refl, known_number)
  type-kind (arrow_type a g h) p i e c f =
      let l = append_nil-both (known (given_of gs g) i ++ known (given_of gs h) (i + 2)) (pairs_fault (given_of gs g) (given_of gs h) (suc i)) e in
      let m = append_nil-both (known (given_of gs g) i) (known (given_of gs h) (i + 2)) l.0 in
      let x = given-known (given_of gs g) i m.0 in
      let y = given-known (given_of gs h) (i + 2) m.1 in
      kind-of (arrow_type a g h) (pairs_in a x.0 y.0) c _ (arrow-carrier gs a g h x.0 y.0 x.1 y.1) f
      (pairs-over gs z d.few i (i + 2) (given-view g x.0 x.1 p.0) (given-view h y.0 y.1 p.1) refl refl)
