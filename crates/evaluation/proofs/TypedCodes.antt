-- Values of types as codes: elements are places, sets are bits, and the sizes that the table has are those of the values. Assumes nothing.
use mathlib.Core.Path.{◌≡◌, refl, sym, ap, ap₂, ◌∙◌, subst}
use mathlib.Core.Bool.{Bool, true, ◌&&◌, cond}
use mathlib.Core.List.{List, [], ◌∷◌, map}
use Prim.Native.Nat.{ℕ, ◌*◌, ◌<◌, ◌≤◌}
use native.Mathlib.Omega.{arith}
use lib.ListN.{get_or}
use lib.IntN.{ℤ, pos}
use Rattle.lexical.specs.Kinds.{code_of}
use Rattle.lexical.specs.Symbols.{Name}
use Rattle.table_places.specs.FormTree.{Letters, Term, Prefix, negate, size, dom, ran, Operator, plus, minus, union, without, times, inter}
use Rattle.table_places.specs.FormWritten.{prefix_kind, operator_kind}
use Rattle.value_types.specs.StaticRulesCarriers.{plain}
use Rattle.value_types.specs.StaticRulesTypes.{is_element, is_pairs, Ty, has, same_type, pairs_of_types, is_any_set, prefix_fits, operator_fits, member_fits, related_fits}
use Rattle.value_types.specs.StaticRulesScope.{Scope}
use Rattle.sets.specs.Sets as sets
use Rattle.std.proofs.lemmas.Bool.{and_from}
use Rattle.value_types.proofs.LexicalBooleanTests.{and_left, and_right}
use Rattle.value_types.specs.MeaningValues.{Value, natural, prefix_value, pair_bit}
use Rattle.value_types.specs.MeaningMeaning.{Environment, size_of_given}
use Rattle.value_types.specs.TypedValues.{IsElementOf, HasType, sizes_over, Carried}
use Rattle.value_types.proofs.TypeTests.{type-refl}
use Rattle.value_types.proofs.Reach.{named-size}
use Rattle.value_types.proofs.Shapes.{element_place, set_word, pairs-word, pair_place, element-shape, pairs-shape, any-set-word, member-shapes, related-shapes}
use Rattle.table_places.specs.ResolvedTable.{given_size, over_sizes, type_in, side_size, element_size}
use Rattle.evaluation.specs.OperatorsByNumber.{Small, IsPlace, IsBits, prefixed, PrefixTakes, OperatorTakes}
use Rattle.evaluation.specs.EvaluationByNumber.{Pair}
use Rattle.value_types.proofs.StaticRulesSameTypes.{same-type}

-- ---- codes

natural-code : (x : ℤ) (n : ℕ) → x ≡ pos n → x ≡ pos (natural x)
natural-code x n e = e ∙ ap pos (sym (ap natural e))

place-code : (x : ℤ) → (k : ℕ) × (x ≡ pos k) × (k < 8) → IsPlace x
place-code x h =
    let e : natural x ≡ h.0 = ap natural h.1 in
    let l = h.2 in
    record { natural_is = natural-code x h.0 h.1; low = omega arith }

bits-code : (x : ℤ) → (b : ℕ) × (x ≡ pos b) × (b < 65536) → IsBits x
bits-code x h = record { natural_is = natural-code x h.0 h.1; low = subst (λ (k : ℕ). k < 65536) (sym (ap natural h.1)) h.2 }

pair_code : (n m : ℕ) (u v : Value) → IsElementOf n u → IsElementOf m v → n * m ≤ 16 → Pair v.first u.code v.code
unfolding pair_bit
pair_code n m u v h k l =
    record {
      first = place-code u.code (element_place h);
      second = place-code v.code (element_place k);
      low = record { natural_is = refl; low = pair_place h k l };
    }

pub record RelatedCodes (u v w : Value) : Type 0 where
  pub pair : Pair v.first u.code v.code
  pub set : IsBits w.code

pub second-element : (τ υ ω : Ty) → related_fits τ υ ω ≡ true → has υ is_element ≡ true
unfolding related_fits
second-element τ υ ω e =
    and_right (has τ is_element) (has υ is_element) (and_left (has τ is_element && has υ is_element) (same_type (pairs_of_types τ υ) ω) e)

module _ (ρ : Environment) where
  pub element-code : (τ : Ty) (v : Value) → has τ is_element ≡ true → HasType ρ τ v → IsPlace v.code
  element-code τ v e h = place-code v.code (element_place (element-shape ρ τ v e h).2)

  pub set_code : (τ : Ty) (v : Value) → is_any_set τ ≡ true → HasType ρ τ v → IsBits v.code
  set_code τ v e h = bits-code v.code (any-set-word ρ τ v e h)

  pairs-code : (τ : Ty) (v : Value) → has τ is_pairs ≡ true → HasType ρ τ v → IsBits v.code
  pairs-code τ v e h = bits-code v.code (pairs-word (pairs-shape ρ τ v e h).3)

  -- a pair and its relation
  pub related-codes : (τ υ ω : Ty) (u v w : Value) → related_fits τ υ ω ≡ true → HasType ρ τ u → HasType ρ υ v → HasType ρ ω w → RelatedCodes u v w
  related-codes τ υ ω u v w e h k l =
      let a = related-shapes ρ τ υ ω u v w e h k l in
      record { pair = pair_code a.0 a.1 u v a.2 a.3 a.4.few; set = bits-code w.code (pairs-word a.4) }

  -- a pair of a brace of pairs
  pub pair-of : (τ υ : Ty) (u v w : Value) → has τ is_element ≡ true → has υ is_element ≡ true → HasType ρ τ u → HasType ρ υ v → HasType ρ (pairs_of_types τ υ) w
      → Pair v.first u.code v.code
  unfolding related_fits
  pair-of τ υ u v w e f h k l = (related-codes τ υ (pairs_of_types τ υ) u v w (and_from _ _ (and_from _ _ e f) (type-refl (pairs_of_types τ υ))) h k l).pair

  -- an element and its set
  pub member-codes : (τ υ : Ty) (u v : Value) → member_fits τ υ ≡ true → HasType ρ τ u → HasType ρ υ v → IsPlace u.code × IsBits v.code
  member-codes τ υ u v e h k =
      let a = member-shapes ρ τ υ u v e h k in
      (place-code u.code (element_place a.1), bits-code v.code (set_word a.2))

  -- what the operators take
  pub prefix-takes : (o : Prefix) (τ : Ty) (v : Value) → prefix_fits o τ ≡ true → HasType ρ τ v → Small v.code → PrefixTakes (code_of (prefix_kind o)) v.code
  unfolding PrefixTakes code_of
  prefix-takes negate τ v e h s = s
  prefix-takes size τ v e h s = set_code τ v e h
  prefix-takes dom τ v e h s = pairs-code τ v e h
  prefix-takes ran τ v e h s = pairs-code τ v e h

  same-sets : (τ υ : Ty) (u v : Value) → (is_any_set τ && same_type τ υ) ≡ true → HasType ρ τ u → HasType ρ υ v → IsBits u.code × IsBits v.code
  same-sets τ υ u v e h k =
      let a = and_left (is_any_set τ) (same_type τ υ) e in
      let b : is_any_set υ ≡ true = ap is_any_set (sym (same-type τ υ (and_right (is_any_set τ) (same_type τ υ) e))) ∙ a in
      (set_code τ u a h, set_code υ v b k)

  pub operator-takes : (o : Operator) (τ υ : Ty) (u v : Value) → operator_fits o τ υ ≡ true → HasType ρ τ u → HasType ρ υ v → Small u.code → Small v.code
      → OperatorTakes (code_of (operator_kind o)) u.code v.code
  unfolding OperatorTakes code_of
  operator-takes plus τ υ u v e h k s t = (s, t)
  operator-takes minus τ υ u v e h k s t = (s, t)
  operator-takes union τ υ u v e h k s t = same-sets τ υ u v e h k
  operator-takes without τ υ u v e h k s t = same-sets τ υ u v e h k
  operator-takes times τ υ u v e h k s t = (s, t)
  operator-takes inter τ υ u v e h k s t = same-sets τ υ u v e h k

-- ---- the sizes that the table has

module _ (Γ : Scope) (ρ : Environment) (c : Carried Γ ρ) where
  pub given-agrees : (x : Name) → given_size Γ.givens x ≡ size_of_given ρ x
  unfolding given_size
  given-agrees x = sym (named-size Γ ρ c x)

  sizes-agree : (gs : List Letters) → map (λ (g : Letters). given_size Γ.givens (plain g)) gs ≡ map (λ (g : Letters). size_of_given ρ (plain g)) gs
  sizes-agree [] = refl
  sizes-agree (g ∷ gs) = ap₂ (λ (n : ℕ) (ns : List ℕ). n ∷ ns) (given-agrees (plain g)) (sizes-agree gs)

  over-agrees : (τ : Ty) → over_sizes Γ.givens τ ≡ sizes_over ρ τ
  unfolding over_sizes
  over-agrees τ = sizes-agree τ.over

  pub element-agrees : (t : Term) (v : Value) → has (type_in Γ t) is_element ≡ true → HasType ρ (type_in Γ t) v → element_size Γ t ≡ v.first
  unfolding element_size
  element-agrees t v e h =
      let a = element-shape ρ (type_in Γ t) v e h in
      ap (λ (ns : List ℕ). get_or ns 0 0) (over-agrees (type_in Γ t) ∙ a.1) ∙ sym a.2.over

  -- the sides of a set of pairs
  record Sides (t : Term) (v : Value) : Type 0 where
    first : v.first ≡ side_size 0 Γ t
    second : v.second ≡ side_size 1 Γ t

  sides-agree : (t : Term) (v : Value) → has (type_in Γ t) is_pairs ≡ true → HasType ρ (type_in Γ t) v → Sides t v
  unfolding side_size
  sides-agree t v e h =
      let a = pairs-shape ρ (type_in Γ t) v e h in
      let q = over-agrees (type_in Γ t) ∙ a.2 in
      record {
        first = a.3.first_over ∙ sym (ap (λ (b : Bool). cond b (get_or (over_sizes Γ.givens (type_in Γ t)) 0 0) 0) e ∙ ap (λ (ns : List ℕ). get_or ns 0 0) q);
        second = a.3.second_over ∙ sym (ap (λ (b : Bool). cond b (get_or (over_sizes Γ.givens (type_in Γ t)) 1 0) 0) e ∙ ap (λ (ns : List ℕ). get_or ns 1 0) q);
      }

  pub prefixes_agree : (o : Prefix) (t : Term) (v : Value) → prefix_fits o (type_in Γ t) ≡ true → HasType ρ (type_in Γ t) v
      → (prefix_value o v).code ≡ prefixed (code_of (prefix_kind o)) (side_size 0 Γ t) (side_size 1 Γ t) v.code
  unfolding prefix_value prefixed code_of
  prefixes_agree negate t v e h = refl
  prefixes_agree size t v e h = refl
  prefixes_agree dom t v e h = let p = sides-agree t v e h in ap₂ (λ (n m : ℕ). pos (sets.dom n m (natural v.code))) p.first p.second
  prefixes_agree ran t v e h = let p = sides-agree t v e h in ap₂ (λ (n m : ℕ). pos (sets.ran n m (natural v.code))) p.first p.second
