-- What a value is, by the tests that the rules for types make: an element's place, a set's bits, and two values over the same given sets.
use mathlib.Core.Path.{◌≡◌, refl, sym, ap, ap₂, ◌∙◌, subst}
use mathlib.Core.Bool.{true, ◌&&◌, false≢true}
use mathlib.Core.List.{List, [], ◌∷◌, ◌++◌}
use Prim.Native.Nat.{ℕ, ◌*◌, ◌^◌, ◌<◌, ◌≤◌}
use native.Mathlib.Nat.{lt_of_lt_of_le}
use native.Mathlib.Omega.{arith}
use lib.IntN.{pos}
use lib.Pow.{pow_mono}
use Rattle.meaning.specs.FormTree.{Letters}
use Rattle.meaning.specs.StaticRulesTypes.{Sort, is_number, is_element, is_set, is_pairs, Ty, has, same_type, set_of, pairs_of_types, is_any_set, member_fits, related_fits}
use Rattle.meaning.proofs.LexicalBooleanTests.{and_left, and_right}
use Rattle.sets.specs.Sets.{pair}
use Rattle.meaning.specs.Values.{Value, natural, bits, pair_bit}
use Rattle.meaning.specs.Meaning.{Environment}
use Rattle.value_types.specs.TypedValues.{IsElementOf, IsSetOver, IsPairsOver, OfSort, HasType}
use Rattle.value_types.proofs.SetBounds.{pair-below}
use Rattle.value_types.proofs.TypedOperations.{sizes, as-sort}
use Rattle.meaning.proofs.StaticRulesSameTypes.{same-type}

pub element_place : {n : ℕ} {v : Value} → IsElementOf n v → (k : ℕ) × (v.code ≡ pos k) × (k < 8)
element_place h = (h.place, h.is, omega (arith, h.below, h.few))

below_word : (b n : ℕ) → n ≤ 16 → b < 2 ^ n → b < 65536
below_word b n h l = lt_of_lt_of_le l (pow_mono {i = n} {j = 16} h)

pub set_word : {n : ℕ} {v : Value} → IsSetOver n v → (b : ℕ) × (v.code ≡ pos b) × (b < 65536)
set_word {n = n} h = (h.bits, h.is, below_word h.bits n (omega (arith, h.few)) h.below)

pub pairs-word : {n m : ℕ} {v : Value} → IsPairsOver n m v → (b : ℕ) × (v.code ≡ pos b) × (b < 65536)
pairs-word {n = n} {m = m} h = (h.bits, h.is, below_word h.bits (n * m) h.few h.below)

-- the bit of a pair of a type of at most 16 pairs
pub pair_place : {n m : ℕ} {u v : Value} → IsElementOf n u → IsElementOf m v → n * m ≤ 16 → pair_bit u v < 16
unfolding pair_bit
pair_place {n = n} {m = m} {u = u} {v = v} h k few =
    let e : pair v.first (bits u) (bits v) ≡ pair m h.place k.place =
    ap (λ (a : ℕ). pair a (bits u) (bits v)) k.over ∙ ap₂ (pair m) (ap natural h.is) (ap natural k.is) in
    subst (λ (a : ℕ). a < 16) (sym e) (lt_of_lt_of_le (pair-below n m h.place k.place h.below k.below) few)

module _ (ρ : Environment) where
  element-over : (gs : List Letters) (v : Value) → OfSort is_element (sizes ρ gs) v → (n : ℕ) × (sizes ρ gs ≡ n ∷ []) × IsElementOf n v
  unfolding OfSort
  element-over [] v h = absurd h
  element-over (g ∷ []) v h = (_, refl, h)
  element-over (g ∷ k ∷ ks) v h = absurd h

  pub element-shape : (t : Ty) (v : Value) → has t is_element ≡ true → HasType ρ t v → (n : ℕ) × (sizes ρ t.over ≡ n ∷ []) × IsElementOf n v
  element-shape t v e h = element-over t.over v (as-sort ρ t is_element v e h)

  set-over : (gs : List Letters) (v : Value) → OfSort is_set (sizes ρ gs) v → (n : ℕ) × (sizes ρ gs ≡ n ∷ []) × IsSetOver n v
  unfolding OfSort
  set-over [] v h = absurd h
  set-over (g ∷ []) v h = (_, refl, h)
  set-over (g ∷ k ∷ ks) v h = absurd h

  pairs-over : (gs : List Letters) (v : Value) → OfSort is_pairs (sizes ρ gs) v → (n : ℕ) × (m : ℕ) × (sizes ρ gs ≡ n ∷ m ∷ []) × IsPairsOver n m v
  unfolding OfSort
  pairs-over [] v h = absurd h
  pairs-over (g ∷ []) v h = absurd h
  pairs-over (g ∷ k ∷ []) v h = (_, _, refl, h)
  pairs-over (g ∷ k ∷ l ∷ ls) v h = absurd h

  pub pairs-shape : (t : Ty) (v : Value) → has t is_pairs ≡ true → HasType ρ t v → (n : ℕ) × (m : ℕ) × (sizes ρ t.over ≡ n ∷ m ∷ []) × IsPairsOver n m v
  pairs-shape t v e h = pairs-over t.over v (as-sort ρ t is_pairs v e h)

  -- a set of some kind: its bits
  word_over : (s : Sort) (gs : List Letters) (v : Value) → is_any_set (record { sort = s; over = gs }) ≡ true → OfSort s (sizes ρ gs) v
      → (b : ℕ) × (v.code ≡ pos b) × (b < 65536)
  unfolding is_any_set has
  word_over is_number gs v e h = absurd (false≢true e)
  word_over is_element gs v e h = absurd (false≢true e)
  word_over is_set gs v e h = set_word (set-over gs v h).2
  word_over is_pairs gs v e h = pairs-word (pairs-over gs v h).3

  pub any-set-word : (t : Ty) (v : Value) → is_any_set t ≡ true → HasType ρ t v → (b : ℕ) × (v.code ≡ pos b) × (b < 65536)
  any-set-word t v e h = word_over t.sort t.over v e h

  -- ---- in

  pub member-shapes : (t u : Ty) (v w : Value) → member_fits t u ≡ true → HasType ρ t v → HasType ρ u w → (n : ℕ) × IsElementOf n v × IsSetOver n w
  unfolding member_fits OfSort
  member-shapes t u v w e h k =
      let a = element-shape t v (and_left (has t is_element) (same_type (set_of t) u) e) h in
      let r : HasType ρ (set_of t) w = subst (λ (x : Ty). HasType ρ x w) (sym (same-type (set_of t) u (and_right (has t is_element) (same_type (set_of t) u) e))) k in
      (a.0, a.2, subst (λ (ns : List ℕ). OfSort is_set ns w) a.1 r)

  -- elements of two types, each over one given set, and pairs over both
  pairs-two : (gs hs : List Letters) (x y z : Value) → OfSort is_element (sizes ρ gs) x → OfSort is_element (sizes ρ hs) y → OfSort is_pairs (sizes ρ (gs ++ hs)) z
      → (n : ℕ) × (m : ℕ) × IsElementOf n x × IsElementOf m y × IsPairsOver n m z
  unfolding OfSort
  pairs-two [] hs x y z p q r = absurd p
  pairs-two (g ∷ []) [] x y z p q r = absurd q
  pairs-two (g ∷ []) (h ∷ []) x y z p q r = (_, _, p, q, r)
  pairs-two (g ∷ []) (h ∷ l ∷ ls) x y z p q r = absurd q
  pairs-two (g ∷ k ∷ ks) hs x y z p q r = absurd p

  pub related-shapes : (t u r : Ty) (x y z : Value) → related_fits t u r ≡ true → HasType ρ t x → HasType ρ u y → HasType ρ r z
      → (n : ℕ) × (m : ℕ) × IsElementOf n x × IsElementOf m y × IsPairsOver n m z
  unfolding related_fits
  related-shapes t u r x y z e h k l =
      let a = and_left (has t is_element && has u is_element) (same_type (pairs_of_types t u) r) e in
      let b = and_right (has t is_element && has u is_element) (same_type (pairs_of_types t u) r) e in
      let p : HasType ρ (pairs_of_types t u) z = subst (λ (w : Ty). HasType ρ w z) (sym (same-type (pairs_of_types t u) r b)) l in
      pairs-two t.over u.over x y z (as-sort ρ t is_element x (and_left (has t is_element) (has u is_element) a) h)
      (as-sort ρ u is_element y (and_right (has t is_element) (has u is_element) a) k) p
