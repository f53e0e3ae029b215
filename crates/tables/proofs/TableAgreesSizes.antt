-- The sizes that nodes carry: by the number of a term's type, and by the given sets that its type is over.
use mathlib.Core.Path.{◌≡◌, refl, ap, ◌∙◌, sym}
use mathlib.Core.Bool.{Bool, true, false, cond}
use mathlib.Core.List.{List, [], map}
use mathlib.Core.Option.{Option, none, some}
use Prim.Native.Nat.{ℕ, ◌+◌, ◌-◌, ◌*◌, ◌/◌, ◌%◌, ◌<◌}
use native.Mathlib.Omega.{arith}
use lib.ListN.{get_or}
use Rattle.refusals.specs.Refusals.{least}
use Rattle.form.specs.Tree.{Letters, Range, Domain, given_set, range, Given, Term}
use Rattle.form.specs.Codes.{Numbering, node, end_number, end_width}
use Rattle.static_rules.specs.Carriers.{size_of, plain}
use Rattle.static_rules.specs.Types as ty
use Rattle.static_rules.specs.Types.{Ty, has}
use Rattle.static_rules.specs.Scope.{Scope}
use Rattle.static_rules.specs.Names.{range_faults, domain_faults, judge_term}
use Rattle.type_rules.specs.TypesByNumber.{Names, Sizes, key, unless_key, least_key, range_fits, size_in, term_kind}
use Rattle.names.proofs.ReachTables.{index_of, titled, type_code, Known, known_number, known_element, known_set, known_pairs, Numbered, Shows, RangeIn, DomainIn, TermIn}
use Rattle.names.proofs.TypesAgree.{judged-term}
use Rattle.names.proofs.TypesAgreeTypes.{ElementType, element_type, element-type, index_in, index-few, is-pairs, is-element}
use Rattle.names.proofs.TypesAgreeRanges.{range-least}
use Rattle.names.proofs.TypesAgreeScope.{found, titled-finds}
use Rattle.names.proofs.TypesAgreeBinders.{View, no_given, one_given, given-view, given_yes}
use Rattle.table_nodes.specs.TableByNumber as table
use Rattle.table_places.specs.DossierTableByNumber.{given_index}
use Rattle.table_places.specs.ResolvedTable as resolved
use Rattle.table_places.specs.ResolvedTable.{over_sizes}
use Rattle.static_rules.proofs.TypePlaces.{type-placed}

-- sizeOr of table_places/specs/ResolvedTable, which is private there
abbrev size_found : Option Given → ℕ
size_found none = 0
size_found (some g) = size_of g

-- the index of a given set in the number of a type
first-index : (a b : ℕ) → b < 8 → (64 + 8 * a + b - 64) / 8 ≡ a
first-index a b h = omega arith

second-index : (a b : ℕ) → b < 8 → (64 + 8 * a + b - 64) % 8 ≡ b
second-index a b h = omega arith

element-index : (a : ℕ) → 16 + a - 16 ≡ a
element-index a = omega arith

-- the k-th side of a type of pairs; the given set of an element
abbrev side_of : Scope → ℕ → Ty → ℕ
side_of Γ k t = cond (has t ty.is_pairs) (get_or (over_sizes Γ.givens t) k 0) 0

abbrev over_of : Scope → Ty → ℕ
over_of Γ t = get_or (over_sizes Γ.givens t) 0 0

-- a name that is a given set's, or none's
pub view-size : {gs : List Given} {z : Sizes} {l : Letters} {o : Option Given} {k : ℕ} → View gs z l o k → table.given_size z k ≡ size_found o
unfolding table.given_size
view-size {z = z} {k = k} (no_given h) = ap (λ (b : Bool). cond b (size_in z (k - 8)) 0) h
view-size {gs = gs} {z = z} {k = k} (one_given g c t h s e) =
    let n : k - 8 ≡ index_of gs g.title = omega arith in
    ap (λ (b : Bool). cond b (size_in z (k - 8)) 0) (given_yes k (index_of gs g.title) h e) ∙ ap (size_in z) n ∙ s

abbrev pub index_found : List Given → Option Given → ℕ
index_found gs none = 0
index_found gs (some g) = index_of gs g.title

pub view-index : {gs : List Given} {z : Sizes} {l : Letters} {o : Option Given} {k : ℕ} → View gs z l o k → given_index k ≡ index_found gs o
unfolding given_index
view-index {k = k} (no_given h) = ap (λ (b : Bool). cond b (k - 8) 0) h
view-index {gs = gs} {k = k} (one_given g c t h s e) =
    let n : k - 8 ≡ index_of gs g.title = omega arith in ap (λ (b : Bool). cond b (k - 8) 0) (given_yes k (index_of gs g.title) h e) ∙ n

-- a range that is not at fault has as many numbers as its ends say
no_key : (b : Bool) (i : ℕ) → unless_key b (key i 11) ≡ 0 → b ≡ true
no_key true i e = refl
no_key false i e = absurd (omega arith)

pub range-counted : (r : Range) (i : ℕ) → RangeIn r → range_faults r i ≡ []
    → table.range_count (end_number r.lower) (end_number r.upper) ≡ end_number r.upper + 1 - end_number r.lower
unfolding table.range_count least
range-counted r i h e =
    ap (λ (b : Bool). cond b (end_number r.upper + 1 - end_number r.lower) 0)
    (no_key (range_fits (end_number r.lower) (end_number r.upper)) (i + end_width r.lower) (range-least r i h ∙ ap least_key e))

module _ (ρ : Numbering) (P : Letters → Type 0) (Γ : Scope) (T : Names) (z : Sizes) (s : Shows ρ P Γ T z) where
  title-size : (l : Letters) → titled Γ.givens l ≡ true → size_in z (index_of Γ.givens l) ≡ resolved.given_size Γ.givens (plain l)
  unfolding size_in resolved.given_size
  title-size l h =
      let w = titled-finds Γ.givens l h in
      let f = found Γ.givens (plain l) w.given w.finds in
      s.sizes (index_of Γ.givens l) (index_in Γ.givens l h)
      ∙ ap (λ (m : Letters). get_or (map size_of Γ.givens) (index_of Γ.givens m) 0) (sym f.called) ∙ f.sized ∙ sym (ap size_found w.finds)

  -- the two sides of a set of pairs, and 0 of anything else
  first-size : {t : Ty} → Known Γ.givens t → table.first_size z (type_code Γ.givens t) ≡ side_of Γ 0 t
  unfolding table.first_size over_sizes has
  first-size {t} a = ap (λ (b : Bool). cond b (size_in z ((type_code Γ.givens t - 64) / 8)) 0) (is-pairs Γ.givens s.few a) ∙ on a
    where
      on : {u : Ty} → Known Γ.givens u → cond (has u ty.is_pairs) (size_in z ((type_code Γ.givens u - 64) / 8)) 0 ≡ side_of Γ 0 u
      on known_number = refl
      on (known_element h) = refl
      on (known_set h) = refl
      on (known_pairs {g = g} {h = h} p q) =
          ap (size_in z) (first-index (index_of Γ.givens g) (index_of Γ.givens h) (index-few Γ.givens s.few h q)) ∙ title-size g p

  second-size : {t : Ty} → Known Γ.givens t → table.second_size z (type_code Γ.givens t) ≡ side_of Γ 1 t
  unfolding table.second_size over_sizes has
  second-size {t} a = ap (λ (b : Bool). cond b (size_in z ((type_code Γ.givens t - 64) % 8)) 0) (is-pairs Γ.givens s.few a) ∙ on a
    where
      on : {u : Ty} → Known Γ.givens u → cond (has u ty.is_pairs) (size_in z ((type_code Γ.givens u - 64) % 8)) 0 ≡ side_of Γ 1 u
      on known_number = refl
      on (known_element h) = refl
      on (known_set h) = refl
      on (known_pairs {g = g} {h = h} p q) =
          ap (size_in z) (second-index (index_of Γ.givens g) (index_of Γ.givens h) (index-few Γ.givens s.few h q)) ∙ title-size h q

  element-size : {t : Ty} → Known Γ.givens t → has t ty.is_element ≡ true → table.element_size z (type_code Γ.givens t) ≡ over_of Γ t
  unfolding table.element_size over_sizes
  element-size {t} a e =
      ap (λ (b : Bool). cond b (size_in z (type_code Γ.givens t - 16)) 0) (is-element Γ.givens s.few a ∙ e) ∙ on (element-type a e)
    where
      on : {u : Ty} → ElementType Γ.givens u → size_in z (type_code Γ.givens u - 16) ≡ over_of Γ u
      on (element_type g h) = ap (size_in z) (element-index (index_of Γ.givens g)) ∙ title-size g h

  -- what a name is bound over, without faults
  pub domain_resolved : (d : Domain) → DomainIn P d → (i : ℕ) → domain_faults Γ d i ≡ [] → table.domain_table d T z ρ ≡ resolved.domain_table d Γ
  unfolding table.domain_table resolved.domain_table resolved.given_size
  domain_resolved (given_set g) h i e = ap (λ (n : ℕ). node 13 0 1000 n) (view-size (given-view ρ P Γ T z s g h))
  domain_resolved (range r) h i e = ap (λ (n : ℕ). node 13 0 (end_number r.lower) n) (range-counted r i h e)

  -- the sizes of a term without faults
  module _ (ν : Numbered ρ P) (t : Term) (h : TermIn P t) (i : ℕ) (e : (judge_term t Γ i).faults ≡ []) where
    pub first-side : table.first_size z (term_kind t T ρ) ≡ resolved.side_size 0 Γ t
    unfolding resolved.side_size
    first-side =
        let w = (judged-term ρ P ν t Γ T z s h i).2 e in
        ap (table.first_size z) w.0 ∙ first-size w.1 ∙ ap (side_of Γ 0) (type-placed t Γ i 0)

    pub second-side : table.second_size z (term_kind t T ρ) ≡ resolved.side_size 1 Γ t
    unfolding resolved.side_size
    second-side =
        let w = (judged-term ρ P ν t Γ T z s h i).2 e in
        ap (table.second_size z) w.0 ∙ second-size w.1 ∙ ap (side_of Γ 1) (type-placed t Γ i 0)

    pub element-side : has (judge_term t Γ i).type ty.is_element ≡ true → table.element_size z (term_kind t T ρ) ≡ resolved.element_size Γ t
    unfolding resolved.element_size
    element-side f =
        let w = (judged-term ρ P ν t Γ T z s h i).2 e in
        ap (table.element_size z) w.0 ∙ element-size w.1 f ∙ ap (over_of Γ) (type-placed t Γ i 0)
